-- By the row rule a write reaches the row's own unit and its lowers' pair units, by the writer rule no other own or pair unit.
use Prim.Native.Nat.{ℕ, ◌<◌}
use mathlib.Core.Path.{◌≡◌, sym, subst}
use mathlib.Core.List.{List}
use native.Mathlib.Omega.{arith}
use lib.ListN.{length}
use Rattle.sheet.specs.Rows.{layout_of, slot, parties_of, writes}
use Rattle.sheet.specs.Words.{In, IsSlot}
use Rattle.rules.specs.Words.{Rules6}
use Rattle.sheet.specs.declared.rows.Row.{Row}
use Rattle.sheet.proofs.Folds.{holds, fails}
use Rattle.sheet.proofs.WriteSets.{in_set_lem}
use Rattle.steps.specs.Step.{mark_at, stamped}
use Rattle.steps.proofs.Views.{Here}
use Rattle.steps.proofs.Stamps.{get_or_picked, get_or_passed}
use Rattle.steps.proofs.RowOf.{own_in_memory, pair_in_memory}

module _ (sheet : List ℕ) (rules : Rules6 sheet) (marks : List ℕ) (full : length marks ≡ 1024) where
  abbrev n : ℕ
  n = parties_of sheet

  abbrev row : ℕ → ℕ → Row
  row r i = (layout_of sheet).row (slot r i)

  -- party i writes mark m in round r
  module _ (m r i : ℕ) (is : IsSlot n (slot r i)) where
    abbrev after : List ℕ
    after = stamped (writes (row r i)) m 0 marks

    reached : (u : ℕ) → u < 1024 → In (row r i) u → mark_at after u ≡ m
    reached u l h = get_or_picked (writes (row r i)) m marks u (omega arith) (holds _ ((in_set_lem (row r i) u).1 h))

    pub unreached : (u : ℕ) → u < 1024 → (In (row r i) u → ⊥) → mark_at after u ≡ mark_at marks u
    unreached u l h = get_or_passed (writes (row r i)) m marks u (omega arith) (fails _ (λ t. h ((in_set_lem (row r i) u).0 t)))

    pub own_written : mark_at after (row r i).own ≡ m
    own_written = reached (row r i).own (own_in_memory sheet (slot r i) rules.before is) (rules.before.rows (slot r i) is).own

    pub pair_written : i < r → mark_at after (row r i).pair ≡ m
    pair_written l =
        reached (row r i).pair (pair_in_memory sheet (slot r i) rules.before is l) ((rules.before.rows (slot r i) is).pair_of_lower l)

    pub own_kept : (x k : ℕ) → IsSlot n (slot x k) → (Here x k r i → ⊥) → mark_at after (row x k).own ≡ mark_at marks (row x k).own
    own_kept x k w other =
        unreached
        (row x k).own
        (own_in_memory sheet (slot x k) rules.before w)
        ((rules.writers (slot x k) w).own_alone (slot r i) is other)

    pub pair_kept : (x k : ℕ) → IsSlot n (slot x k) → k < x → (Here x k r i → ⊥) → (Here x i r r → ⊥)
        → mark_at after (row x k).pair ≡ mark_at marks (row x k).pair
    pair_kept x k w l other top =
        unreached
        (row x k).pair
        (pair_in_memory sheet (slot x k) rules.before w l)
        ((rules.writers (slot x k) w).pair_alone l (slot r i) is other top)

    -- the top's write reaches every lower's pair unit
    pub pair_topped : i ≡ r → (k : ℕ) → IsSlot n (slot r k) → k < r → mark_at after (row r k).pair ≡ m
    pair_topped e k w l =
        reached
        (row r k).pair
        (pair_in_memory sheet (slot r k) rules.before w l)
        (subst (λ (x : ℕ). In (row r x) (row r k).pair) (sym e) ((rules.writers (slot r k) w).pair_at_top l))
