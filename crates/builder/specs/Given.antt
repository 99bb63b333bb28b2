-- The numbers that the builder takes, and those that it has a sheet for, as document 01 says them.
use Rattle.std.specs.Prelude.{ℕ, ◌-◌, ◌*◌, ◌≤◌, ◌≡◌, ◌⊎◌}

-- kind 1 or 2, bound 1 to 64, N 1 to 16
pub record InRange (kind bound n : ℕ) : Type 0 where
  pub one_or_two : (kind ≡ 1) ⊎ (kind ≡ 2)
  pub bound_least : 1 ≤ bound
  pub bound_most : bound ≤ 64
  pub parties_least : 1 ≤ n
  pub parties_most : n ≤ 16

-- kind 1: N = 1 always, N = 2 if B ≥ 3, N = 3 if B ≥ 5
abbrev pub Given1 : ℕ → ℕ → Type 0
Given1 bound n = (n ≡ 1) ⊎ ((n ≡ 2) × (3 ≤ bound)) ⊎ ((n ≡ 3) × (5 ≤ bound))

-- numbers in range that there is a sheet for; kind 2: exactly if 2N − 1 ≤ A
pub record Given (kind bound n : ℕ) : Type 0 where
  pub numbers : InRange kind bound n
  pub one : kind ≡ 1 → Given1 bound n
  pub two : kind ≡ 2 → 2 * n - 1 ≤ bound
