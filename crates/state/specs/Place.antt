-- What a party's next step does.
use Rattle.std.specs.Prelude.{ℕ}

abbrev pub announce : ℕ
announce = 0

abbrev pub publish : ℕ
publish = 1

abbrev pub write : ℕ
write = 2

abbrev pub read_top : ℕ
read_top = 3

abbrev pub read_own : ℕ
read_own = 4

abbrev pub read_pair : ℕ
read_pair = 5

abbrev pub fetch : ℕ
fetch = 6

abbrev pub decide : ℕ
decide = 7

abbrev pub done : ℕ
done = 8
