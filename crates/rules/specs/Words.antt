-- The rules as document 01 says them, "for every row ..": what an accepted sheet is, and what each refusal tells.
use Rattle.std.specs.Prelude.{ℕ, ◌≤◌, ◌<◌, ◌≡◌, List, ◌⊎◌, length, get_or}
use Rattle.sheet.specs.Bytes.{num}
use Rattle.sheet.specs.Rows.{Layout, layout_of, slot, row_number, sheet_length}
use Rattle.sheet.specs.Words.{In, Legal, IsSlot, Other, Lower, Top}
use Rattle.sheet.specs.declared.rows.Slot.{Slot}

-- ---- rows

-- refusal 5
pub record RowRule (l : Layout) (p : Slot) : Type 0 where
  pub legal : Legal l.kind l.bound (l.row p)
  pub below : (u : ℕ) → In (l.row p) u → u < l.units
  pub own : In (l.row p) (l.row p).own
  pub pair_of_lower : Lower p → In (l.row p) (l.row p).pair
  pub pair_of_top : Top p → (l.row p).pair ≡ 0

-- refusal 6
pub record WriterRule (l : Layout) (p : Slot) : Type 0 where
  pub own_alone : (q : Slot) → IsSlot l.parties q → Other p q → In (l.row q) (l.row p).own → ⊥
  pub set_apart :
      (q : Slot) → IsSlot l.parties q → (p.round ≡ q.round → ⊥) → (u : ℕ) → In (l.row p) u → In (l.row q) u → ⊥
  pub pair_at_top : Lower p → In (l.row (slot p.round p.round)) (l.row p).pair
  pub pair_alone :
      Lower p → (q : Slot) → IsSlot l.parties q → Other p q → ((p.round ≡ q.round) × Top q → ⊥) → In (l.row q) (l.row p).pair → ⊥

-- ---- the sheet

pub record HeaderRule (l : Layout) : Type 0 where
  pub kind : (l.kind ≡ 1) ⊎ (l.kind ≡ 2)
  pub bound_least : 1 ≤ l.bound
  pub bound_most : l.bound ≤ 64
  pub parties_least : 1 ≤ l.parties
  pub parties_most : l.parties ≤ 16
  pub units_least : 1 ≤ l.units
  pub units_most : l.units ≤ 1024

pub record LengthRule (s : List ℕ) : Type 0 where
  pub field : num s 0 2 ≡ sheet_length (layout_of s).parties
  pub lent : length s ≡ sheet_length (layout_of s).parties

-- every row keeps the rule
abbrev pub Every : (Layout → Slot → Type 0) → Layout → Type 0
Every R l = (p : Slot) → IsSlot l.parties p → R l p

-- row k, counted from 1, is the first that breaks the rule
pub record FirstFailing (R : Layout → Slot → Type 0) (l : Layout) (k : ℕ) : Type 0 where
  pub slot : Slot
  pub is_slot : IsSlot l.parties slot
  pub number : row_number slot ≡ k
  pub fails : R l slot → ⊥
  pub earlier : (q : Slot) → IsSlot l.parties q → row_number q < k → R l q

-- the rules in their order, each with those before it
pub record Rules1 (s : List ℕ) : Type 0 where
  pub whole : 8 ≤ length s

pub record Rules2 (s : List ℕ) : Type 0 where
  pub before : Rules1 s
  pub version : get_or s 2 0 ≡ 1

pub record Rules3 (s : List ℕ) : Type 0 where
  pub before : Rules2 s
  pub header : HeaderRule (layout_of s)

pub record Rules4 (s : List ℕ) : Type 0 where
  pub before : Rules3 s
  pub lengths : LengthRule s

pub record Rules5 (s : List ℕ) : Type 0 where
  pub before : Rules4 s
  pub rows : Every RowRule (layout_of s)

-- every rule holds
pub record Rules6 (s : List ℕ) : Type 0 where
  pub before : Rules5 s
  pub writers : Every WriterRule (layout_of s)
