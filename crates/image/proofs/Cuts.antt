-- A list that is joined of parts, w long each, is cut into them again, each from where it stands; and the parts that a list is cut into join to it, by induction over them.
use Prim.Native.Nat.{ℕ, zero, suc, ◌+◌, ◌*◌, ◌<◌}
use mathlib.Core.Path.{◌≡◌, sym, ap, ◌∙◌}
use mathlib.Core.List.{List, [], ◌++◌, map}
use native.Mathlib.Nat.{mul-zero, mul-suc, add_comm, zero-add}
use native.Mathlib.Omega.{arith}
use lib.ListN.{length, get_or, take, drop}
use lib.Seq.{drop-cons, drop-drop, take-add, ext_get_or}
use Rattle.sheet.specs.Lists.{from}
use Rattle.sheet.proofs.Ranges.{length_range, range_at}
use Rattle.sheet.proofs.InTurn.{stands}
use Rattle.image.specs.Entries.{entries_bytes, entries_of}

module _ {A B : Type 0} (g : A → List B) (h : List B → A) (w : ℕ) where
  -- the part behind part a
  next : (b : List B) (a : ℕ) → drop w (drop (w * a) b) ≡ drop (w * suc a) b
  next b a = drop-drop w (w * a) b ∙ rw mul-suc

  -- each element is read back from its part, whatever stands behind it
  pub cut_joined : ((x : A) → length (g x) ≡ w) → (xs : List A) (d : A)
      → ((k : ℕ) → k < length xs → (r : List B) → h (g (get_or xs k d) ++ r) ≡ get_or xs k d)
      → (rest : List B) → entries_of h w (length xs) (entries_bytes g xs ++ rest) ≡ xs
  cut_joined size xs d back rest =
      let b = entries_bytes g xs ++ rest in
      let read : ℕ → A = λ j. h (drop (w * j) b) in
      let many = length_range read 0 (length xs) in
      ext_get_or d (map read (from 0 (length xs))) xs many
      (λ j l.
      let inside : j < length xs = omega arith in
      range_at read 0 (length xs) j d inside
      ∙ ap read (zero-add j)
      ∙ ap h (stands g w size [] xs j (drop-cons xs j d inside) rest (w * j) (sym (zero-add (w * j))))
      ∙ back j inside (entries_bytes g (drop (suc j) xs) ++ rest))

  -- each part is what its element writes
  pub joined_cuts : (b : List B) (a n : ℕ) → ((j : ℕ) → j < a + n → g (h (drop (w * j) b)) ≡ take w (drop (w * j) b))
      → entries_bytes g (map (λ j. h (drop (w * j) b)) (from a n)) ≡ take (w * n) (drop (w * a) b)
  joined_cuts b a zero same = rw mul-zero
  joined_cuts b a (suc n) same =
      let rest = joined_cuts b (suc a) n (λ j l. same j (omega arith)) ∙ ap (take (w * n)) (sym (next b a)) in
      (λ i. same a (omega arith) i ++ rest i)
      ∙ sym (take-add w (w * n) (drop (w * a) b))
      ∙ ap (λ (k : ℕ). take k (drop (w * a) b)) (add_comm w (w * n) ∙ sym (mul-suc w n))
