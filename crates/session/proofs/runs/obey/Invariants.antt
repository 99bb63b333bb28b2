-- The loop's invariant: parties, marks and published candidates are those of the session that the first bytes lead to.
use Rattle.session.proofs.ObeyLoop.{Going}
use Rattle.session.proofs.runs.obey.Given as goal

abbrev pub invariant-loop-b : goal.invariant-loop-b
invariant-loop-b l = Going l.sheet l.proposals l.schedule l.n l.kept l.b-index l.parties l.marks l.published
