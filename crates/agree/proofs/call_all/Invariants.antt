-- The loop's invariant: the calls that are left lead from the session so far to where all lead from the first.
use Rattle.std.proofs.Common.{◌≡◌, drop}
use Rattle.steps.specs.Trace.{called}
use Rattle.agree.proofs.call_all.Given as goal

abbrev pub invariant-loop-b : goal.invariant-loop-b
invariant-loop-b l = called l.t (drop l.b-index l.schedule) ≡ called l.initial.t l.schedule
