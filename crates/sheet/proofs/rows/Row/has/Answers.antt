-- A unit before the start, or past bit 63, is not in the set; any other is in it by its bit.
use Rattle.std.proofs.Common.{◌<◌, ◌^◌, rules}
use borrow.Author.Tests.{le-leb}
use Rattle.sheet.proofs.Bits.{digit_past}
use Rattle.sheet.proofs.rows.Row.has.Goals as goal

pub returns-then-j-gt63 : goal.returns-then-j-gt63
returns-then-j-gt63 c =
    let fits : c.args.self.mask < 2 ^ 64 = search rules in
    simp (le-leb _ _ c.if-unit-start.false, digit_past c.args.self.mask 64 _ fits c.if-j-gt63.true)
