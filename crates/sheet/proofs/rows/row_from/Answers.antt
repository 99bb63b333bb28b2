-- Each field is a number of the slice at its place, and so one of what is left of the slice from the row on.
use Rattle.std.proofs.Common.{◌+◌, add-zero, arith}
use Rattle.sheet.proofs.Endian.{read_2, read_8}
use Rattle.sheet.proofs.Numbers.{num_drop}
use Rattle.sheet.proofs.rows.row_from.Goals as goal

pub returns : goal.returns
returns c =
    let s = c.args.s.now in
    let at = c.args.at in
    let start = c.from_be_bytes.ensures in
    let mask = c.from_be_bytes-2.ensures in
    let own = c.from_be_bytes-3.ensures in
    let pair = c.from_be_bytes-4.ensures in
    simp (
      num_drop,
      add-zero,
      start,
      c.bytes_at.ensures,
      read_2 s at (omega arith),
      mask,
      c.bytes_at-2.ensures,
      read_8 s (at + 2) (omega arith),
      own,
      c.bytes_at-3.ensures,
      read_2 s (at + 10) (omega arith),
      pair,
      c.bytes_at-4.ensures,
      read_2 s (at + 12) (omega arith),
    )
