-- The entries are filled from the front, the one at j lengths into place j.
use Prim.Native.Nat.{ℕ, ◌*◌}
use mathlib.Core.Path.{sym, ap, ◌∙◌}
use mathlib.Core.List.{map}
use native.Mathlib.Nat.{zero-add}
use native.Mathlib.Omega.{arith}
use lib.ListN.{length, drop}
use Rattle.std.proofs.lemmas.List.{same_lists}
use Rattle.sheet.specs.Lists.{from}
use Rattle.sheet.proofs.Ranges.{length_range, range_at}
use Rattle.image.proofs.entries.read_all.Goals as goal

pub returns : goal.returns
returns g c =
    let t = g.T.Entry in
    let l = c.loop-j in
    let n = length c.args.entries.now in
    let read = λ (j : ℕ). t.of_bytes (drop (t.LENGTH * j) c.args.s.now) in
    let size = length_range read 0 n in
    same_lists l.entries (map read (from 0 n)) (omega arith) (λ k d h. l.invariant k d (omega arith) ∙ sym (range_at read 0 n k d (omega arith) ∙ ap read (zero-add k)))
