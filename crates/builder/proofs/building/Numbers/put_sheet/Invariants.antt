-- The loop's invariant: the header and k rows stand written, p is the next row's, and past them all is as it was; a turn writes one row more.
use Prim.Native.Nat.{ℕ, ◌+◌, ◌*◌}
use mathlib.Core.List.{List}
use Rattle.sheet.specs.Kind.{kind_number}
use Rattle.sheet.specs.Rows.{slots}
use Rattle.sheet.specs.declared.rows.Slot.{Slot}
use Rattle.sheet.proofs.Parts.{Written}
use Rattle.sheet.proofs.InTurn.{up_to}
use Rattle.sheet.proofs.Slots.{AtRow}
use Rattle.builder.specs.Build.{row_bytes, header_bytes, built_units, built_row}
use Rattle.builder.specs.declared.building.Numbers.{Numbers}
use Rattle.builder.proofs.building.Numbers.put_sheet.Given as goal

module _ (s : Numbers) where
  abbrev pub header : List ℕ
  header = header_bytes (kind_number s.kind) s.bound s.parties (built_units (kind_number s.kind) s.bound s.parties)

  abbrev pub bytes_at : Slot → List ℕ
  bytes_at p = row_bytes (built_row (kind_number s.kind) s.bound p)

abbrev pub invariant-loop-k : goal.invariant-loop-k
invariant-loop-k l = (AtRow l.k l.p)
    × Written l.initial.out (up_to (bytes_at l.self) (header l.self) (slots l.self.parties) l.k) (8 + 14 * l.k) l.out
