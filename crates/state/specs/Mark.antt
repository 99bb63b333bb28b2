-- What a unit holds.
use Rattle.std.specs.Prelude.{ℕ}

abbrev pub empty : ℕ
empty = 0

abbrev pub lower : ℕ
lower = 1

abbrev pub higher : ℕ
higher = 2
