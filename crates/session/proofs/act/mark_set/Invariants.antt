-- At j the set's units below start + j are stamped; each turn is one unit more, and from bit 64 on the mask has none.
use Prim.Native.Nat.{ℕ, ◌+◌, ◌-◌, ◌^◌, ◌<◌}
use mathlib.Core.Path.{◌≡◌, subst}
use mathlib.Core.Bool.{Bool, false, ◌&&◌}
use mathlib.Core.Logic.{◌≢◌}
use native.Mathlib.Omega.{arith}
use lib.Dec.{T, ltb, ltb→lt, lt→ltb}
use Rattle.sheet.specs.Sets.{bit, in_set}
use Rattle.sheet.proofs.Bits.{digit, digit_bit, bit_digit, bit_under}
use Rattle.sheet.proofs.Folds.{and_left, and_right, and_both, fails, same_test}
use Rattle.sheet.proofs.WriteSets.{at_says, bit_at}
use Rattle.steps.specs.Step.{stamped}
use Rattle.session.proofs.act.mark_set.Given as goal

module _ (start mask : ℕ) where
  -- a unit of the set below start + j
  abbrev pub passed : ℕ → ℕ → Bool
  passed j u = in_set start mask u && ltb u (start + j)

  pub member : (j u : ℕ) → T (passed j u) → T (in_set start mask u)
  member j u t = and_left (in_set start mask u) (ltb u (start + j)) t

  pub low : (j u : ℕ) → T (passed j u) → u < start + j
  low j u t = ltb→lt u (start + j) (and_right (in_set start mask u) (ltb u (start + j)) t)

  pub both : (j u : ℕ) → T (in_set start mask u) → u < start + j → T (passed j u)
  both j u t l = and_both (in_set start mask u) (ltb u (start + j)) t (lt→ltb u (start + j) l)

  pub none : (u : ℕ) → passed 0 u ≡ false
  none u = fails _ (λ t. let least = ((at_says start mask u).0 (member 0 u t)).0 in let most = low 0 u t in omega arith)

  -- a turn passes the unit start + j alone
  pub kept : (j u : ℕ) → (T (in_set start mask u) → u ≢ start + j) → passed j u ≡ passed (j + 1) u
  kept j u other =
      same_test _ _
      (λ t. let l = low j u t in both (j + 1) u (member j u t) (omega arith))
      (λ t. let l = low (j + 1) u t in let n = other (member (j + 1) u t) in both j u (member (j + 1) u t) (omega arith))

  pub unit : (j : ℕ) → digit mask j ≡ 1 → T (in_set start mask (start + j))
  unit j e = (at_says start mask (start + j)).1 (bit_at start mask j (digit_bit mask j e))

  pub no_unit : (j u : ℕ) → digit mask j ≢ 1 → T (in_set start mask u) → u ≢ start + j
  no_unit j u n t e =
      let place : u - start ≡ j = omega arith in
      n (bit_digit mask j (subst (λ (k : ℕ). T (bit mask k)) place ((at_says start mask u).0 t).1))

  pub every : mask < 2 ^ 64 → (u : ℕ) → passed 64 u ≡ in_set start mask u
  every h u =
      same_test _ _ (member 64 u)
      (λ t. let at = (at_says start mask u).0 t in let j = bit_under mask 64 (u - start) h at.1 in both 64 u t (omega arith))

abbrev pub invariant-loop-j : goal.invariant-loop-j
invariant-loop-j l = l.marks ≡ stamped (passed l.start l.mask l.j) l.mark 0 l.initial.marks
