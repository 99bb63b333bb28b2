-- A byte below 128 is a step of its party, any other the stop of the party that it has past 128.
use Rattle.std.proofs.Common.{◌<◌, ◌≤◌, arith}
use borrow.Author.Tests.{lt-ltb, le-ltb}
use Rattle.agree.proofs.call_by.Goals as goal
use Rattle.agree.proofs.call_by.Goals.{in-0-to-127, in_default}

pub returns : goal.returns
returns c = elim c.if-b-lt128.branch [
  | in-0-to-127 w ↦ let low : c.args.b < 128 = omega arith in rw (lt-ltb _ _ low, w.party-is) w.step_on.ensures.0
  | in_default w ↦ let high : 128 ≤ c.args.b = omega arith in rw (le-ltb _ _ high, w.party-is) w.stop_on.ensures.0
]
