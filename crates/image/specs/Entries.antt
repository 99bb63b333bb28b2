-- Values in bytes, one behind the other: each is written by one function and read by another, from where it stands. Elements of any type may stand for the bytes.
use Rattle.std.specs.Prelude.{ℕ, ◌*◌, List, map, drop}
use Rattle.sheet.specs.Lists.{from, flat}

module _ {A B : Type 0} where
  -- the bytes of all
  abbrev pub entries_bytes : (A → List B) → List A → List B
  entries_bytes image xs = flat (map image xs)

  -- the n values that bytes say, w bytes each
  abbrev pub entries_of : (List B → A) → ℕ → ℕ → List B → List A
  entries_of read w n b = map (λ j. read (drop (w * j) b)) (from 0 n)
