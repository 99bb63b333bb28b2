-- Write sets and rows as document 01 says them, "for every unit ..".
use Rattle.std.specs.Prelude.{ℕ, ◌-◌, ◌%◌, ◌^◌, ◌≤◌, ◌<◌, ◌≡◌, T}
use Rattle.sheet.specs.Sets.{bit}
use Rattle.sheet.specs.declared.rows.Row.{Row}
use Rattle.sheet.specs.declared.rows.Slot.{Slot}

-- ---- write sets

-- unit u is in the row's set
abbrev pub In : Row → ℕ → Type 0
In w u = (w.start ≤ u) × T (bit w.mask (u - w.start))

-- kind 1: the mask is 2^b − 1 for some b from 1 to the bound, and the start is a multiple of b
pub record SizeVarying (bound : ℕ) (w : Row) : Type 0 where
  pub b : ℕ
  pub least : 1 ≤ b
  pub most : b ≤ bound
  pub ones : w.mask ≡ 2 ^ b - 1
  pub multiple : w.start % b ≡ 0

-- kind 2: the mask is not zero, has no bit at or above the bound, and the start is a multiple of the bound
pub record Inconsecutive (bound : ℕ) (w : Row) : Type 0 where
  pub some : w.mask ≡ 0 → ⊥
  pub no_bit : (j : ℕ) → bound ≤ j → T (bit w.mask j) → ⊥
  pub multiple : w.start % bound ≡ 0

pub record Legal (kind bound : ℕ) (w : Row) : Type 0 where
  pub one : kind ≡ 1 → SizeVarying bound w
  pub two : kind ≡ 2 → Inconsecutive bound w

-- ---- rows

-- p is one of the rows of a sheet of n parties
pub record IsSlot (n : ℕ) (p : Slot) : Type 0 where
  pub first : 2 ≤ p.round
  pub last : p.round ≤ n
  pub lowest : 1 ≤ p.party
  pub top : p.party ≤ p.round

-- q is another row than p
abbrev pub Other : Slot → Slot → Type 0
Other p q = (p.round ≡ q.round) × (p.party ≡ q.party) → ⊥

-- party r is the top of round r, the others are its lowers
abbrev pub Lower : Slot → Type 0
Lower p = p.party < p.round

abbrev pub Top : Slot → Type 0
Top p = p.party ≡ p.round
