-- The tests one after the other are the conjunction of what they answer: a passed one leaves the rest, and a failed one settles it.
use Rattle.std.proofs.Common.{◌≡◌, refl, ◌&&◌, ◌∙◌}
use Rattle.state.specs.WellFormed.{marks_ok, published_ok, proposals_ok}
use Rattle.state.proofs.Tested.{and_then, and_else}
use Rattle.state.proofs.kept.Session.contents_ok.Goals as goal
use Rattle.state.proofs.kept.Session.contents_ok.Goals.{then-marks_ok, else-marks_ok, then-published_ok, else-published_ok}

pub returns-else-proposals_ok : goal.returns-else-proposals_ok
returns-else-proposals_ok c =
    let s = c.args.self.now in
    let two : c.if-marks_ok.value ≡ (marks_ok c.args.units s.marks && published_ok c.args.n s.published) =
    elim c.if-marks_ok.branch [
      | then-marks_ok w ↦ and_then c.marks_ok.ensures w.if-marks_ok.true (w.value-is ∙ w.published_ok.ensures)
      | else-marks_ok w ↦ and_else c.marks_ok.ensures _ w.if-marks_ok.false w.value-is
    ] in
    let three : c.if-published_ok.value ≡ (marks_ok c.args.units s.marks && published_ok c.args.n s.published && proposals_ok c.args.n s.proposals) =
    elim c.if-published_ok.branch [
      | then-published_ok w ↦ and_then two w.if-published_ok.true (w.value-is ∙ w.proposals_ok.ensures)
      | else-published_ok w ↦ and_else two _ w.if-published_ok.false w.value-is
    ] in
    and_else three _ c.if-proposals_ok.false refl
