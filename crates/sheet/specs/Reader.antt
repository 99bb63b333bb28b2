-- What the readers of rows give: the reader at its place, and the rows from a place on, each with its slot.
use Rattle.std.specs.Prelude.{ℕ, zero, suc, ◌+◌, ◌-◌, ◌*◌, ◌/◌, ◌≡◌, List, [], ◌∷◌, ◌&&◌, cond, length, leb, ltb, Option, Some, None}
use Rattle.sheet.specs.Sizes.{header_length, row_length, most_rows}
use Rattle.sheet.specs.Rows.{row_at, slot_after, taken}
use Rattle.sheet.specs.declared.rows.Row.{Row}
use Rattle.sheet.specs.declared.rows.Slot.{Slot}
use Rattle.sheet.specs.declared.rows.RowReader.{RowReader}

-- row k, where the sheet has the whole of it
abbrev pub row_or_none : List ℕ → ℕ → Option Row
row_or_none s k = cond (ltb k most_rows && leb (header_length + row_length * suc k) (length s)) (Some (row_at s k)) None

-- a reader gave the row at its place, and the place went on; or there is none, and it stayed
abbrev pub Reads : RowReader → Option Row → RowReader → Type 0
Reads r w q = (w ≡ row_or_none r.sheet.now r.row) × (q.sheet ≡ r.sheet) × (q.row ≡ (taken r.sheet.now r.row).next)

-- how many whole rows so many bytes have
abbrev pub whole_rows : ℕ → ℕ
whole_rows bytes = (bytes - header_length) / row_length

-- n rows from row k on, which is p's
abbrev pub rows_on : List ℕ → ℕ → Slot → ℕ → List (Slot × Row)
rows_on s k p zero = []
rows_on s k p (suc n) = (p, row_at s k) ∷ rows_on s (suc k) (slot_after p) n
