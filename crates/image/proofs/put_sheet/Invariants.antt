-- After j turns the first j bytes stand at the start, and past them all is as it was.
use mathlib.Core.Path.{◌≡◌}
use lib.Seq.{paste}
use Rattle.image.proofs.put_sheet.Given as goal

abbrev pub invariant-loop-j : goal.invariant-loop-j
invariant-loop-j l = l.o ≡ paste l.initial.o 0 l.sheet l.j
