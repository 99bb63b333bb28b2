-- Numbers in bytes, all big-endian.
use Rattle.std.specs.Prelude.{ℕ, zero, suc, ◌+◌, ◌*◌, ◌/◌, ◌%◌, ◌^◌, List, [], ◌∷◌, take, drop}

-- the number of some bytes, after those of acc
abbrev pub big_from : ℕ → List ℕ → ℕ
big_from acc [] = acc
big_from acc (x ∷ xs) = big_from (acc * 256 + x) xs

-- the number of some bytes
abbrev pub big : List ℕ → ℕ
big xs = big_from 0 xs

-- the number that the n bytes of s from a place on say
abbrev pub num : List ℕ → ℕ → ℕ → ℕ
num s at n = big (take n (drop at s))

-- x in n bytes
abbrev pub bytes_of : ℕ → ℕ → List ℕ
bytes_of zero x = []
bytes_of (suc n) x = x / 256 ^ n % 256 ∷ bytes_of n x
