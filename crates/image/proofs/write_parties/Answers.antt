-- The front stays and the parties are written behind it, until the slice is full; bytes of another length stay.
use native.Mathlib.Omega.{arith}
use borrow.Author.Tests.{eq-eqb}
use lib.ListN.{length}
use Rattle.image.specs.Image.{parties_bytes}
use Rattle.image.proofs.Chosen.{where_held}
use Rattle.image.proofs.Written.{kept, then_full}
use Rattle.image.proofs.write_parties.Goals as goal

pub returns-then-bytes-eq-SESSION_LENGTH : goal.returns-then-bytes-eq-SESSION_LENGTH
returns-then-bytes-eq-SESSION_LENGTH c =
    let b = c.args.bytes.now in
    let l = c.if-bytes-eq-SESSION_LENGTH.true in
    where_held _ _ _ (eq-eqb (length b) 3418 l)
    (then_full (kept b 3242 (omega arith)) (parties_bytes c.args.s.now.parties) c.put_all.new.o 176 l c.put_all.ensures)
