-- At j the set's units below start + j are stamped; each turn is one unit more, and from bit 64 on the mask has none.
use Prim.Native.Nat.{ℕ, ◌+◌}
use mathlib.Core.Path.{◌≡◌, ap, ◌∙◌}
use mathlib.Core.List.{List}
use native.Mathlib.Omega.{arith}
use borrow.Author.Rules.{rules}
use lib.ListN.{set}
use Rattle.steps.specs.Step.{stamped}
use Rattle.steps.proofs.Stamps.{stamped_none, stamped_same, stamped_more}
use Rattle.session.proofs.act.mark_set.Invariants.{passed, both, none, kept, unit, no_unit, every}
use Rattle.session.proofs.act.mark_set.Goals as goal
use Rattle.session.proofs.act.mark_set.Goals.{then-mask-j-eq1, else-mask-j-eq1}

pub loop-j-init : goal.loop-j-init
loop-j-init c = let a = c.args in stamped_none _ a.mark a.marks.now (none a.row.start a.row.mask)

pub bounds-marks-start : goal.bounds-marks-start
bounds-marks-start c =
    let w = c.args.row in
    c.requires _ (unit w.start w.mask c.loop-j.j c.if-mask-j-eq1.true)

pub loop-j-preserved : goal.loop-j-preserved
loop-j-preserved c =
    let a = c.args in
    let start = a.row.start in
    let mask = a.row.mask in
    let l = c.loop-j in
    let old = passed start mask l.j in
    let new = passed start mask (l.j + 1) in
    let same = kept start mask l.j in
    elim c.if-mask-j-eq1.branch [
      | then-mask-j-eq1 w ↦
          w.marks-is
          ∙ ap (λ (xs : List ℕ). set xs (start + l.j) a.mark) l.invariant
          ∙ stamped_more old new a.mark a.marks.now (start + l.j)
          (both start mask (l.j + 1) (start + l.j) (unit start mask l.j w.if-mask-j-eq1.true) (omega arith))
          (λ u n. same u (λ t. n))
      | else-mask-j-eq1 w ↦
          w.marks-is ∙ l.invariant
          ∙ stamped_same old new a.mark a.marks.now (λ u. same u (no_unit start mask l.j u w.if-mask-j-eq1.false))
    ]

pub returns : goal.returns
returns c =
    let a = c.args in
    let l = c.loop-j in
    let most = l.auto.j-end in
    let last : l.j ≡ 64 = omega arith in
    l.invariant
    ∙ ap (λ (j : ℕ). stamped (passed a.row.start a.row.mask j) a.mark 0 a.marks.now) last
    ∙ stamped_same _ _ a.mark a.marks.now (every a.row.start a.row.mask (search rules))
