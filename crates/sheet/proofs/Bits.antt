-- A mask's bits are its binary digits: shifts move them, `&` keeps what both have, a number other than 0 has one, and below 2 ^ k all are below k.
use mathlib.Core.Path.{◌≡◌, refl, sym, ap, ◌∙◌}
use mathlib.Core.Logic.{◌⊎◌, inl, inr, ⊎_elim}
use Prim.Native.Nat.{ℕ, ◌+◌, ◌-◌, ◌*◌, ◌/◌, ◌%◌, ◌^◌, ◌<◌, ◌≤◌, min}
use native.Mathlib.Nat.{div-eq_of_lt, lt_of_lt_of_le, lt_of_not-le, div-lt_iff_lt-mul, div-one, eq-zero-or-pos}
use native.Mathlib.Omega.{arith}
use lib.Dec.{T, eqb→eq}
use lib.Pow.{pow_mono, pow_pos, ones_split, ones_lt, high, shr-shr}
use lib.Bits.{bit_and, and_shr, and_step}
use lib.Arith.{bin_ind, digits_mod}
use Rattle.sheet.specs.Sets.{bit}

-- the digit at j, 0 or 1
abbrev pub digit : ℕ → ℕ → ℕ
digit m j = m / 2 ^ j % 2

pub bit_digit : (m j : ℕ) → T (bit m j) → digit m j ≡ 1
bit_digit m j t = eqb→eq (digit m j) 1 t

pub digit_bit : (m j : ℕ) → digit m j ≡ 1 → T (bit m j)
digit_bit m j e = rw e tt

-- no bit at or above k, where the mask is below 2 ^ k
pub digit_past : (m k j : ℕ) → m < 2 ^ k → k ≤ j → digit m j ≡ 0
digit_past m k j h le = ap (λ (x : ℕ). x % 2) (div-eq_of_lt (lt_of_lt_of_le h (pow_mono le)))

-- a shift of all ones
pub ones_shr : (b k : ℕ) → (2 ^ (b + k) - 1) / 2 ^ k ≡ 2 ^ b - 1
ones_shr b k = ap (λ (x : ℕ). x / 2 ^ k) (ones_split b k) ∙ high (2 ^ b - 1) k (ones_lt k)

-- a digit of a shifted mask
pub digit_shr : (m d j : ℕ) → digit (m / 2 ^ d) j ≡ digit m (d + j)
digit_shr m d j = ap (λ (x : ℕ). x % 2) (shr-shr m d j)

pub odd : (n : ℕ) → (n % 2 ≡ 0) ⊎ (n % 2 ≡ 1)
odd n = ⊎_elim (λ e. inl e) (λ p. inr (omega arith)) (eq-zero-or-pos (n % 2))

-- a digit of an `&`
pub digit_and : (a b j : ℕ) → digit (bit_and a b) j ≡ min (digit a j) (digit b j)
digit_and a b j = ap (λ (x : ℕ). x % 2) (and_shr a b j) ∙ lowest (a / 2 ^ j) (b / 2 ^ j)
  where
    lowest : (x y : ℕ) → bit_and x y % 2 ≡ min (x % 2) (y % 2)
    lowest x y = ap (λ (z : ℕ). z % 2) (and_step x y) ∙ digits_mod (bit_and (x / 2) (y / 2)) (omega arith)

-- a number that is not 0 has a digit 1
pub some_digit : (n : ℕ) → (n ≡ 0 → ⊥) → (j : ℕ) × digit n j ≡ 1
some_digit = bin_ind (λ n. (n ≡ 0 → ⊥) → (j : ℕ) × digit n j ≡ 1) (λ h. absurd (h refl)) step
  where
    step : (n : ℕ) → ((n / 2 ≡ 0 → ⊥) → (j : ℕ) × digit (n / 2) j ≡ 1) → (n ≡ 0 → ⊥) → (j : ℕ) × digit n j ≡ 1
    step n ih h =
        ⊎_elim
        (λ e. let r = ih (λ z. h (omega arith)) in (1 + r.0, ap (λ (x : ℕ). x % 2) (sym (shr-shr n 1 r.0)) ∙ r.1))
        (λ e. (0, ap (λ (x : ℕ). x % 2) (div-one n) ∙ e))
        (odd n)

-- a mask is below 2 ^ k exactly if its bits are below k
pub bit_under : (m k j : ℕ) → m < 2 ^ k → T (bit m j) → j < k
bit_under m k j h t =
    lt_of_not-le (λ le. let z : digit m j ≡ 0 = digit_past m k j h le in let o : digit m j ≡ 1 = bit_digit m j t in omega arith)

pub under_bits : (m k : ℕ) → ((j : ℕ) → k ≤ j → T (bit m j) → ⊥) → m < 2 ^ k
under_bits m k h = ⊎_elim small large (eq-zero-or-pos (m / 2 ^ k))
  where
    small : m / 2 ^ k ≡ 0 → m < 2 ^ k
    small e = let l : m < 1 * 2 ^ k = (div-lt_iff_lt-mul (pow_pos k)).0 (omega arith) in omega arith

    large : 0 < m / 2 ^ k → m < 2 ^ k
    large p =
        let r = some_digit (m / 2 ^ k) (λ e. omega arith) in
        absurd (h (k + r.0) (omega arith) (digit_bit m (k + r.0) (sym (digit_shr m k r.0) ∙ r.1)))
