-- The four parts lie one behind the other, and each holds the bytes that were copied into it.
use Rattle.std.proofs.Common.{rules}
use Rattle.builder.proofs.building.put_row.Goals as goal

pub returns : goal.returns
returns c =
    rw (
      c.copy_from_slice.ensures.after,
      c.copy_from_slice-2.ensures.after,
      c.copy_from_slice-3.ensures.after,
      c.copy_from_slice-4.ensures.after,
      c.to_be_bytes.ensures,
      c.to_be_bytes-2.ensures,
      c.to_be_bytes-3.ensures,
      c.to_be_bytes-4.ensures,
    ) (search rules)
