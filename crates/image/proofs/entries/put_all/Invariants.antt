-- The entries are written one behind the other, each as long as its type says.
use Prim.Native.Nat.{◌*◌}
use mathlib.Core.List.{[]}
use Rattle.sheet.proofs.Parts.{Written}
use Rattle.sheet.proofs.InTurn.{up_to}
use Rattle.image.proofs.entries.put_all.Given as goal

abbrev pub invariant-loop-j : goal.invariant-loop-j
invariant-loop-j g l = let t = g.T.Entry in Written l.initial.o (up_to t.image [] l.entries l.j) (t.LENGTH * l.j) l.o
