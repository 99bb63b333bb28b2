-- A number's digits are those of its tenth and its last one, however much fuel there is above the number; so their number goes up with the powers of ten.
use Prim.Native.Nat.{ℕ, zero, suc, ◌+◌, ◌/◌, ◌%◌, ◌^◌, ◌≤◌, ◌<◌}
use mathlib.Core.Path.{◌≡◌, ap, ◌∙◌}
use mathlib.Core.List.{List, [], ◌∷◌, ◌++◌}
use mathlib.Core.Logic.{⊎_elim}
use native.Mathlib.Nat.{pow-succ'}
use native.Mathlib.Omega.{arith}
use borrow.Author.Tests.{lt-ltb, le-ltb}
use lib.ListN.{length, length-append}
use Rattle.sheet.proofs.Folds.{lt_or_le}
use Rattle.lister.specs.Text.{digits, decimal}

fuel : (f g n : ℕ) → n < f → n < g → digits f n ≡ digits g n
fuel zero g n h k = absurd (omega arith)
fuel (suc f) zero n h k = absurd (omega arith)
fuel (suc f) (suc g) n h k =
    ⊎_elim
    (λ low. simp (lt-ltb n 10 low))
    (λ high. simp (le-ltb n 10 high) (ap (λ (l : List ℕ). l ++ ((48 + n % 10) ∷ [])) (fuel f g (n / 10) (omega arith) (omega arith))))
    (lt_or_le n 10)

pub decimal_low : (n : ℕ) → n < 10 → decimal n ≡ (48 + n) ∷ []
unfolding decimal
decimal_low n h = simp (lt-ltb n 10 h)

pub decimal_high : (n : ℕ) → 10 ≤ n → decimal n ≡ decimal (n / 10) ++ ((48 + n % 10) ∷ [])
unfolding decimal
decimal_high n h = simp (le-ltb n 10 h) (ap (λ (l : List ℕ). l ++ ((48 + n % 10) ∷ [])) (fuel n (suc (n / 10)) (n / 10) (omega arith) (omega arith)))

-- ---- how many there are

pub length_low : (n : ℕ) → n < 10 → length (decimal n) ≡ 1
length_low n h = ap length (decimal_low n h)

pub length_high : (n : ℕ) → 10 ≤ n → length (decimal n) ≡ length (decimal (n / 10)) + 1
length_high n h = ap length (decimal_high n h) ∙ length-append (decimal (n / 10)) ((48 + n % 10) ∷ [])

pub length_decimal : (k n : ℕ) → n < 10 ^ suc k → length (decimal n) ≤ suc k
length_decimal zero n h = omega (arith, length_low n (omega arith))
length_decimal (suc k) n h =
    ⊎_elim
    (λ low. omega (arith, length_low n low))
    (λ high. omega (arith, length_high n high, length_decimal k (n / 10) (omega (arith, pow-succ' 10 (suc k)))))
    (lt_or_le n 10)
