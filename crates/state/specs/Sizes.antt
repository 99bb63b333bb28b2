-- How much a session keeps beside a sheet's numbers.
use Rattle.std.specs.Prelude.{ℕ}

-- a published candidate for each round and lower, 16 × 16
abbrev pub cells : ℕ
cells = 256

-- the most own steps of a party in a well-formed session
abbrev pub most_steps : ℕ
most_steps = 1000
