-- Bit j of the mask shifted by d is the unit d + j, so an `&` of 0 says that no unit is in both; past 63 the mask has no unit.
use Rattle.std.proofs.Common.{arith, ◌≡◌, ◌+◌, ◌-◌, ◌/◌, ◌%◌, ◌^◌, ℕ, ap, sym, subst, ◌∙◌, eq-eqb, bit_and}
use mathlib.Core.Logic.{⊎_elim}
use Prim.Native.Nat.{min}
use native.Mathlib.Nat.{zero-add, zero-div, eq-zero-or-pos}
use lib.Dec.{eqb→eq}
use Rattle.sheet.proofs.Bits.{digit, bit_digit, digit_bit, digit_shr, digit_and, some_digit, bit_under}
use Rattle.sheet.proofs.Folds.{holds, held, same_test}
use Rattle.sheet.proofs.WriteSets.{At, Apart, bit_at, apart_at}
use Rattle.sheet.proofs.sets.clear_of_later.Goals as goal

module _ (m d n : ℕ) where
  abbrev both : ℕ
  both = bit_and (m / 2 ^ d) n

  none_shared : both ≡ 0 → Apart 0 m d n
  none_shared e u p q =
      let j = u - d in
      let place : d + j ≡ u - 0 = omega (arith, q.0) in
      let first : digit (m / 2 ^ d) j ≡ 1 = digit_shr m d j ∙ ap (digit m) place ∙ bit_digit m (u - 0) p.1 in
      let second : digit n j ≡ 1 = bit_digit n j q.1 in
      let none : digit both j ≡ 0 = ap (λ (x : ℕ). digit x j) e ∙ ap (λ (x : ℕ). x % 2) (zero-div (2 ^ j)) in
      let less : min (digit (m / 2 ^ d) j) (digit n j) ≡ 0 = sym (digit_and (m / 2 ^ d) n j) ∙ none in
      omega arith

  shared_none : Apart 0 m d n → both ≡ 0
  shared_none apart = ⊎_elim (λ e. e) (λ p. absurd (shared (some_digit both (λ e. omega arith)))) (eq-zero-or-pos both)
    where
      shared : ((j : ℕ) × digit both j ≡ 1) → ⊥
      shared (j, e) =
          let most : min (digit (m / 2 ^ d) j) (digit n j) ≡ 1 = sym (digit_and (m / 2 ^ d) n j) ∙ e in
          let first : digit m (d + j) ≡ 1 = sym (digit_shr m d j) ∙ omega arith in
          let second : digit n j ≡ 1 = omega arith in
          apart (d + j) (subst (At 0 m) (zero-add (d + j)) (bit_at 0 m (d + j) (digit_bit m (d + j) first))) (bit_at d n j (digit_bit n j second))

pub returns-then-d-gt63 : goal.returns-then-d-gt63
returns-then-d-gt63 c =
    let a = c.args in
    let h = c.ranges.mask.fits in
    sym (holds _ ((apart_at 0 a.mask a.d a.later h).1 (λ u p q. omega (arith, bit_under a.mask 64 (u - 0) h p.1, q.0))))

pub returns : goal.returns
returns c =
    let a = c.args in
    let says = apart_at 0 a.mask a.d a.later c.ranges.mask.fits in
    same_test _ _
    (λ t. says.1 (none_shared a.mask a.d a.later (eqb→eq _ 0 t)))
    (λ t. held _ (eq-eqb _ 0 (shared_none a.mask a.d a.later (says.0 t))))
