-- An empty set is below any count, and any other exactly if its length past the start stays within it: a shorter mask has no bit there.
use Rattle.std.proofs.Common.{arith, rules, ◌≡◌, ◌+◌, ◌-◌, ◌^◌, ◌<◌, ◌≤◌, ℕ, true, sym}
use mathlib.Core.Logic.{◌↔◌}
use native.Mathlib.Nat.{lt_of_lt_of_le}
use lib.Dec.{T, leb, leb→le, le→leb}
use Rattle.sheet.specs.Sets.{below}
use Rattle.sheet.specs.Length.{bit_length}
use Rattle.sheet.proofs.Bits.{bit_under, under_bits}
use Rattle.sheet.proofs.Folds.{holds, same_test}
use Rattle.sheet.proofs.WriteSets.{At, bit_at, below_at, length_some, length_least, at_before_end}
use Rattle.sheet.proofs.rows.Row.is_below.Goals as goal

module _ (units start mask : ℕ) (h : mask < 2 ^ 64) where
  says : T (below units start mask) ↔ ((u : ℕ) → At start mask u → u < units)
  says = below_at units start mask h

  empty : mask ≡ 0 → below units start mask ≡ true
  empty e = holds _ (says.1 (λ u p. absurd (omega (arith, bit_under mask 0 (u - start) (omega arith) p.1))))

  -- the length is at most what is left of the units, and not 0
  end : (mask ≡ 0 → ⊥) → ((u : ℕ) → At start mask u → u < units) → start + bit_length mask ≤ units
  end some g =
      let room = units - start in
      let fits : mask < 2 ^ room = under_bits mask room (λ j le b. omega (arith, g (start + j) (bit_at start mask j b))) in
      let short : bit_length mask ≤ room = length_least mask room h fits in
      let long : 0 < bit_length mask = length_some mask h some in
      omega arith

  ends : (mask ≡ 0 → ⊥) → leb (start + bit_length mask) units ≡ below units start mask
  ends some =
      same_test _ _
      (λ t. says.1 (λ u p. lt_of_lt_of_le (at_before_end start mask u h p) (leb→le _ _ t)))
      (λ t. le→leb _ _ (end some (says.0 t)))

pub returns-then-self-eq0 : goal.returns-then-self-eq0
returns-then-self-eq0 c =
    let fits : c.args.self.mask < 2 ^ 64 = search rules in
    sym (empty c.args.units c.args.self.start c.args.self.mask fits c.if-self-eq0.true)

pub returns : goal.returns
returns c =
    let fits : c.args.self.mask < 2 ^ 64 = search rules in
    rw (c.from.ensures, c.bits.ensures.value, c.from-2.ensures) (ends c.args.units c.args.self.start c.args.self.mask fits c.if-self-eq0.false)
