-- The first line is put; the loop's invariant: the lines of k parties stand behind it, and those of the others are left.
use Prim.Native.Nat.{◌-◌, ◌≤◌}
use mathlib.Core.Path.{◌≡◌}
use lib.ListN.{length}
use Rattle.lister.proofs.Going.{Going, lines}
use Rattle.lister.proofs.text.put_listing.Given as goal

abbrev pub invariant-loop-k : goal.invariant-loop-k
invariant-loop-k l = (l.k ≤ l.n) × (length l.out ≡ length l.initial.out) × (Going l.initial.out l.initial.at (lines l.bytes 0 l.n) l.out l.at (lines l.bytes l.k (l.n - l.k)))

abbrev pub decreases-loop-k : goal.decreases-loop-k
decreases-loop-k l = l.n - l.k
