-- The entries are filled from the front, the one at j lengths into place j.
use Prim.Native.Nat.{ℕ, ◌*◌, ◌<◌}
use mathlib.Core.Path.{◌≡◌}
use lib.ListN.{get_or, drop}
use Rattle.image.proofs.entries.read_all.Given as goal

abbrev pub invariant-loop-j : goal.invariant-loop-j
invariant-loop-j g l =
    let t = g.T.Entry in (k : ℕ) (d : g.row.T.Denot) → k < l.j → get_or l.entries k d ≡ t.of_bytes (drop (t.LENGTH * k) l.s)
