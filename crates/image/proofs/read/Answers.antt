-- The session is read where the bytes are as many as a session's, and else it stays.
use Rattle.std.proofs.Common.{length, refl}
use borrow.Author.Tests.{eq-eqb, ne_eqb}
use Rattle.image.proofs.Chosen.{where_held, where_failed}
use Rattle.image.proofs.read.Goals as goal

pub returns-then-bytes-eq-SESSION_LENGTH : goal.returns-then-bytes-eq-SESSION_LENGTH
returns-then-bytes-eq-SESSION_LENGTH c =
    where_held _ _ _ (eq-eqb (length c.args.bytes.now) 3418 c.if-bytes-eq-SESSION_LENGTH.true) c.read_whole.ensures

pub returns-else-bytes-eq-SESSION_LENGTH : goal.returns-else-bytes-eq-SESSION_LENGTH
returns-else-bytes-eq-SESSION_LENGTH c =
    where_failed _ _ _ (ne_eqb (length c.args.bytes.now) 3418 c.if-bytes-eq-SESSION_LENGTH.false) refl
