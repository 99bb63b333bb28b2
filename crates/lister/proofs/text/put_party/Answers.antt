-- The numbers are read at their places, and the line is that of the numbers.
use Rattle.lister.specs.Text.{record_line}
use Rattle.lister.proofs.text.put_party.Goals as goal

pub put_line-requires : goal.put_line-requires
unfolding record_line
put_line-requires c = rw (c.steps_from-steps.ensures, c.decision_from-decision.ensures) c.requires.1

pub returns : goal.returns
unfolding record_line
returns c = rw (c.steps_from-steps.ensures, c.decision_from-decision.ensures) at c.put_line.ensures
