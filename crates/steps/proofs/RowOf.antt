-- On a sheet that keeps the length rule a party's row lies whole at its place, and by the row rule its units lie in the memory of 1024.
use Prim.Native.Nat.{ℕ, ◌-◌, ◌<◌}
use mathlib.Core.Path.{◌≡◌, ap, ◌∙◌}
use mathlib.Core.List.{List}
use native.Mathlib.Nat.{le_refl}
use native.Mathlib.Omega.{arith}
use borrow.Author.Tests.{le-leb}
use lib.Dec.{T}
use Rattle.sheet.specs.Rows.{layout_of, slot, row_number, row_place, row_of, taken, parties_of, writes}
use Rattle.sheet.specs.Words.{In, IsSlot, Lower}
use Rattle.rules.specs.Words.{Rules5}
use Rattle.sheet.specs.declared.rows.Slot.{Slot}
use Rattle.sheet.specs.declared.rows.Taken.{Taken}
use Rattle.sheet.proofs.Numbers.{taken_row}
use Rattle.sheet.proofs.Slots.{slot_row, count_most}
use Rattle.sheet.proofs.WriteSets.{in_set_lem}

module _ (s : List ℕ) (p : Slot) (rules : Rules5 s) (row : IsSlot (parties_of s) p) where
  pub row_read : row_of s p.round p.party ≡ (layout_of s).row p
  row_read =
      let k = row_number p - 1 in
      let header = rules.before.before.header in
      let place : row_place p.round p.party ≡ k =
      simp (
        le-leb 2 p.round row.first,
        le-leb p.round 16 (omega arith),
        le-leb 1 p.party row.lowest,
        le-leb p.party p.round row.top,
      ) in
      let inside = (slot_row (parties_of s) p row).1 in
      let few = count_most (parties_of s) header.parties_most in
      let size = rules.before.lengths.lent in
      ap (λ (j : ℕ). (taken s j).row) place ∙ ap (λ (t : Taken). t.row) (taken_row s k (omega arith) (omega arith))

  pub in_memory : (u : ℕ) → In ((layout_of s).row p) u → u < 1024
  in_memory u h = let below = (rules.rows p row).below u h in let most = rules.before.before.header.units_most in omega arith

  pub set_in_memory : (u : ℕ) → T (writes ((layout_of s).row p) u) → u < 1024
  set_in_memory u t = in_memory u ((in_set_lem ((layout_of s).row p) u).0 t)

  pub own_in_memory : ((layout_of s).row p).own < 1024
  own_in_memory = in_memory _ (rules.rows p row).own

  pub pair_in_memory : Lower p → ((layout_of s).row p).pair < 1024
  pair_in_memory lower = in_memory _ ((rules.rows p row).pair_of_lower lower)

-- a round's top has a row
pub top_slot : {n : ℕ} {p : Slot} → IsSlot n p → IsSlot n (slot p.round p.round)
top_slot {n} {p} row = let first = row.first in record { first = first; last = row.last; lowest = omega arith; top = le_refl p.round }
