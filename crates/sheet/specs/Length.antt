-- How many bits a mask takes, up to its highest one; 0 for the empty mask.
use Rattle.std.specs.Prelude.{ℕ, ◌-◌}
use Rattle.std.specs.Int.Count.{count_leading_zeros}

abbrev pub bit_length : ℕ → ℕ
bit_length m = 64 - count_leading_zeros 64 m
