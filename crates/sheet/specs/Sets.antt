-- Write sets: a start address and a 64-bit mask, bit j of which means unit start + j.
use Rattle.std.specs.Prelude.{ℕ, ◌+◌, ◌-◌, ◌/◌, ◌%◌, ◌^◌, List, map, Bool, not, ◌&&◌, cond, leb, ltb, eqb}
use Rattle.sheet.specs.Lists.{from, all, any, keep}

-- bit j of a mask
abbrev pub bit : ℕ → ℕ → Bool
bit m j = eqb (m / 2 ^ j % 2) 1

-- unit u is in the set
abbrev pub in_set : ℕ → ℕ → ℕ → Bool
in_set start mask u = leb start u && bit mask (u - start)

-- the units of the set, in ascending order
abbrev pub units_in : ℕ → ℕ → List ℕ
units_in start mask = map (start +◌) (keep (bit mask) (from 0 64))

-- kind 1, a size-varying word: the mask is 2^b − 1 for some b from 1 to the bound, and the start is a multiple of b
abbrev pub size_varying : ℕ → ℕ → ℕ → Bool
size_varying bound start mask = any (λ b. eqb mask (2 ^ b - 1) && eqb (start % b) 0) (from 1 bound)

-- kind 2, an aligned inconsecutive word: the mask is not zero, has no bit at or above the bound, and the start is a multiple of the bound
abbrev pub inconsecutive : ℕ → ℕ → ℕ → Bool
inconsecutive bound start mask = not (eqb mask 0) && ltb mask (2 ^ bound) && eqb (start % bound) 0

-- the set is legal for the kind
abbrev pub legal : ℕ → ℕ → ℕ → ℕ → Bool
legal kind bound start mask = cond (eqb kind 1) (size_varying bound start mask) (inconsecutive bound start mask)

-- every unit of the set has an address below the unit count
abbrev pub below : ℕ → ℕ → ℕ → Bool
below units start mask = all (λ u. ltb u units) (units_in start mask)

-- no unit of the first set is in the second
abbrev pub apart : ℕ → ℕ → ℕ → ℕ → Bool
apart start mask start' mask' = all (λ u. not (in_set start' mask' u)) (units_in start mask)
