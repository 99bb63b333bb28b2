-- A range is read element by element: the one at place k is k past the first.
use Prim.Native.Nat.{ℕ, zero, suc, ◌+◌, ◌<◌}
use mathlib.Core.Path.{◌≡◌, refl, sym, ap, ◌∙◌}
use mathlib.Core.List.{map}
use native.Mathlib.Nat.{add-zero}
use native.Mathlib.Omega.{arith}
use lib.ListN.{length, get_or}
use Rattle.sheet.specs.Lists.{from}

-- f of each number of a range
module _ {A : Type 0} (f : ℕ → A) where
  pub length_range : (a n : ℕ) → length (map f (from a n)) ≡ n
  length_range a zero = refl
  length_range a (suc n) = ap suc (length_range (suc a) n)

  pub range_at : (a n k : ℕ) (d : A) → k < n → get_or (map f (from a n)) k d ≡ f (a + k)
  range_at a zero k d h = absurd (omega arith)
  range_at a (suc n) zero d h = ap f (sym (add-zero a))
  range_at a (suc n) (suc k) d h = range_at (suc a) n k d (omega arith) ∙ ap f (let e : suc a + k ≡ a + suc k = omega arith in e)
