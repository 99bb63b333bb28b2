-- Lists laid end to end: those of a list in two parts are those of each part, and where all are of one length they are so many times it.
use Prim.Native.Nat.{ℕ, ◌*◌}
use mathlib.Core.Path.{◌≡◌, refl, sym, ap, ◌∙◌}
use mathlib.Core.List.{List, [], ◌∷◌, ◌++◌, map, append_assoc}
use native.Mathlib.Nat.{zero-mul, suc-mul}
use native.Mathlib.Omega.{arith}
use lib.ListN.{length, length-append}
use Rattle.sheet.specs.Lists.{flat}

module _ {A B : Type 0} (f : A → List B) where
  pub flat_append : (xs ys : List A) → flat (map f (xs ++ ys)) ≡ flat (map f xs) ++ flat (map f ys)
  flat_append [] ys = refl
  flat_append (x ∷ xs) ys = ap (λ (z : List B). f x ++ z) (flat_append xs ys) ∙ sym (append_assoc (f x) (flat (map f xs)) (flat (map f ys)))

  -- of lists that are k long each
  pub length_flat : (k : ℕ) → ((x : A) → length (f x) ≡ k) → (xs : List A) → length (flat (map f xs)) ≡ length xs * k
  length_flat k h [] = sym (zero-mul k)
  length_flat k h (x ∷ xs) =
      let a = h x in
      let b = length_flat k h xs in
      omega (arith, length-append (f x) (flat (map f xs)), suc-mul (length xs) k)
