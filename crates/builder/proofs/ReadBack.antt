-- A built sheet says what it was built from: the header's bytes and each row's 14 stand where they are read, and each number fits its bytes.
use Prim.Native.Nat.{ℕ, ◌+◌, ◌-◌, ◌*◌}
use mathlib.Core.Path.{◌≡◌, refl, sym, ap, ◌∙◌}
use mathlib.Core.List.{List, [], ◌++◌, map, append-nil}
use native.Mathlib.Omega.{arith}
use lib.ListN.{length, get_or, drop}
use Rattle.sheet.specs.Lists.{flat}
use Rattle.sheet.specs.Bytes.{num}
use Rattle.sheet.specs.Rows.{layout_of, slots, sheet_length, row_number, row_from}
use Rattle.sheet.specs.Words.{IsSlot}
use Rattle.sheet.specs.declared.rows.Row.{Row}
use Rattle.sheet.specs.declared.rows.Slot.{Slot}
use Rattle.builder.specs.Build.{row_bytes, header_bytes, built_row, built_units, built_sheet}
use Rattle.builder.specs.Given.{Given}
use Rattle.sheet.proofs.Flat.{length_flat}
use Rattle.sheet.proofs.InTurn.{stands}
use Rattle.sheet.proofs.Slots.{length_slots, count_most, slot_row, slots_step}
use Rattle.sheet.proofs.Numbers.{num_bytes}
use Rattle.builder.proofs.Built.{Fits, built_fits, built_header}

-- ---- a row

pub row_back : (w : Row) (rest : List ℕ) → Fits w → row_from (row_bytes w ++ rest) ≡ w
row_back w rest f = λ i.
    record {
      start = num_bytes 2 w.start f.start i;
      mask = num_bytes 8 w.mask f.mask i;
      own = num_bytes 2 w.own f.own i;
      pair = num_bytes 2 w.pair f.pair i;
    }

module _ (kind bound n : ℕ) (g : Given kind bound n) where
  pub length_sheet : length (built_sheet kind bound n) ≡ sheet_length n
  length_sheet =
      let rows = length_flat (λ p. row_bytes (built_row kind bound p)) 14 (λ p. refl) (slots n) in
      let count = length_slots n g.numbers.parties_least in
      omega arith

  pub reads_fields :
      (get_or (built_sheet kind bound n) 2 0 ≡ 1)
      × ((layout_of (built_sheet kind bound n)).kind ≡ kind)
      × ((layout_of (built_sheet kind bound n)).bound ≡ bound)
      × ((layout_of (built_sheet kind bound n)).parties ≡ n)
  reads_fields = (refl, refl, refl, refl)

  pub reads_length : num (built_sheet kind bound n) 0 2 ≡ sheet_length n
  reads_length = num_bytes 2 (sheet_length n) (let c = count_most n g.numbers.parties_most in omega arith)

  pub reads_units : (layout_of (built_sheet kind bound n)).units ≡ built_units kind bound n
  reads_units = num_bytes 2 (built_units kind bound n) (let u = (built_header kind bound n g).units_most in omega arith)

  pub reads_row : (p : Slot) → IsSlot n p → (layout_of (built_sheet kind bound n)).row p ≡ built_row kind bound p
  reads_row p h =
      let k = row_number p - 1 in
      let bytes : Slot → List ℕ = λ q. row_bytes (built_row kind bound q) in
      let at = slot_row n p h in
      ap row_from
      (ap (drop (8 + 14 * k)) (sym (append-nil (built_sheet kind bound n)))
      ∙ stands bytes 14 (λ _. refl) (header_bytes kind bound n (built_units kind bound n)) (slots n) k
      (slots_step n k p g.numbers.parties_least at.0 at.1) [] (8 + 14 * k) refl)
      ∙ row_back (built_row kind bound p) (flat (map bytes (drop (k + 1) (slots n))) ++ []) (built_fits kind bound n g p h)
