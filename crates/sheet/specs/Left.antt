-- The rows that an iterator over them has left, each with its slot.
use Rattle.std.specs.Prelude.{List}
use Rattle.sheet.specs.Reader.{rows_on}
use Rattle.sheet.specs.declared.rows.Row.{Row}
use Rattle.sheet.specs.declared.rows.Slot.{Slot}
use Rattle.sheet.specs.declared.rows.Rows.{Rows}

abbrev pub rows_left : Rows → List (Slot × Row)
rows_left r = rows_on r.reader.sheet.now r.reader.row r.slot r.left
