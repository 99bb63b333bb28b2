-- The entries are written one behind the other: the part behind those that stand written is lent, and comes back with the next at its start.
use mathlib.Core.List.{[]}
use native.Mathlib.Nat.{mul-suc}
use native.Mathlib.Numerals.{add-one}
use native.Mathlib.Omega.{arith}
use lib.Seq.{drop-cons}
use Rattle.sheet.proofs.InTurn.{turn}
use Rattle.image.proofs.entries.put_all.Goals as goal

pub loop-j-preserved : goal.loop-j-preserved
loop-j-preserved g c =
    let t = g.T.Entry in
    let l = c.loop-j in
    let xs = c.args.entries.now in
    rw c.LENGTH.ensures
    (turn t.image t.LENGTH g.met.T.Entry.long [] xs l.j (drop-cons xs l.j c.index-entries-j.result (omega arith))
    (rw (add-one, mul-suc)) (rw c.LENGTH.ensures at c.put.ensures) l.invariant)
