-- How far a party has come.
use Rattle.std.specs.Prelude.{ℕ}

abbrev pub idle : ℕ
idle = 0

abbrev pub running : ℕ
running = 1

abbrev pub decided : ℕ
decided = 2

abbrev pub stopped : ℕ
stopped = 3
