-- The layout sheet: its header, its rows, and whose they are.
use Rattle.std.specs.Prelude.{ℕ, suc, ◌+◌, ◌-◌, ◌*◌, ◌/◌, List, map, Bool, ◌&&◌, cond, length, get_or, drop, leb, ltb, eqb}
use Rattle.sheet.specs.Lists.{from, flat}
use Rattle.sheet.specs.Bytes.{num}
use Rattle.sheet.specs.Sets.{in_set}
use Rattle.sheet.specs.Sizes.{header_length, kind_at, bound_at, parties_at, units_at, row_length, start_at, mask_at, own_at, pair_at, most_parties, most_rows}
use Rattle.sheet.specs.declared.rows.Row.{Row}
use Rattle.sheet.specs.declared.rows.Slot.{Slot}
use Rattle.sheet.specs.declared.rows.Taken.{Taken}

-- party i's row of round r
abbrev pub slot : ℕ → ℕ → Slot
slot r i = record { round = r; party = i }

-- whose the rows are, in the sheet's order: for each round r from 2 to N, each party i from 1 to r
abbrev pub slots : ℕ → List Slot
slots n = flat (map (λ r. map (slot r) (from 1 r)) (from 2 (n - 1)))

-- whose the next row is: the round's next party's, or after the top the next round's first
abbrev pub next_slot : Slot → Slot
next_slot p = cond (ltb p.party p.round) (slot p.round (p.party + 1)) (slot (p.round + 1) 1)

-- the same up to round 16, the last that a sheet can have; past it there is no row, and the slot stays
abbrev pub slot_after : Slot → Slot
slot_after p = cond (leb p.round most_parties) (next_slot p) p

-- the number of rows
abbrev pub row_count : ℕ → ℕ
row_count n = n * (n + 1) / 2 - 1

-- the length of the whole sheet
abbrev pub sheet_length : ℕ → ℕ
sheet_length n = header_length + row_length * row_count n

-- which row, counted from 1: the rounds before round r have r (r − 1) / 2 − 1 rows
abbrev pub row_number : Slot → ℕ
row_number p = p.round * (p.round - 1) / 2 - 1 + p.party

-- the row that 14 bytes say
abbrev pub row_from : List ℕ → Row
row_from s = record { start = num s start_at 2; mask = num s mask_at 8; own = num s own_at 2; pair = num s pair_at 2 }

-- row k of a sheet, counted from 0
abbrev pub row_at : List ℕ → ℕ → Row
row_at s k = row_from (drop (header_length + row_length * k) s)

-- unit u is in the row's set
abbrev pub writes : Row → ℕ → Bool
writes w u = in_set w.start w.mask u

-- party r is the top of round r, the others are its lowers
abbrev pub is_top : Slot → Bool
is_top p = eqb p.party p.round

abbrev pub same_slot : Slot → Slot → Bool
same_slot p q = eqb p.round q.round && eqb p.party q.party

-- how many parties a sheet is for
abbrev pub parties_of : List ℕ → ℕ
parties_of s = get_or s parties_at 0

-- what a sheet says
pub record Layout : Type 0 where
  pub kind : ℕ
  pub bound : ℕ
  pub parties : ℕ
  pub units : ℕ
  pub row : Slot → Row

abbrev pub layout_of : List ℕ → Layout
layout_of s =
    record {
      kind = get_or s kind_at 0;
      bound = get_or s bound_at 0;
      parties = parties_of s;
      units = num s units_at 2;
      row = λ p. row_at s (row_number p - 1);
    }

-- ---- the reader of rows

abbrev pub no_row : Row
no_row = record { start = 0; mask = 0; own = 0; pair = 0 }

-- at a place with a whole row: that row, and the next place; elsewhere no row, and the same place
abbrev pub taken : List ℕ → ℕ → Taken
taken s k =
    cond (ltb k most_rows && leb (header_length + row_length * suc k) (length s)) (record { row = row_at s k; next = suc k }) (record { row = no_row; next = k })

-- the place of party i's row of round r, or a place with no row where there can be none
abbrev pub row_place : ℕ → ℕ → ℕ
row_place r i = cond (leb 2 r && leb r most_parties && leb 1 i && leb i r) (row_number (slot r i) - 1) most_rows

abbrev pub row_of : List ℕ → ℕ → ℕ → Row
row_of s r i = (taken s (row_place r i)).row
