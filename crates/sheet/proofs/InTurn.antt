-- Pieces of one length lie end to end behind a head: what stands before piece j is the head and j pieces, so a writer puts the next piece there and a reader finds it there.
use Prim.Native.Nat.{ℕ, ◌+◌, ◌-◌, ◌*◌, ◌≤◌, ◌<◌}
use mathlib.Core.Path.{◌≡◌, sym, ap, ◌∙◌}
use mathlib.Core.List.{List, [], ◌∷◌, ◌++◌, map, append_assoc, append-nil}
use native.Mathlib.Nat.{mul_comm}
use native.Mathlib.Omega.{arith}
use lib.ListN.{length, take, drop, length-append, length-drop, take-append-drop}
use lib.Seq.{take-add, take_all, drop_at, length-take-le}
use borrow.Rule.Slice.PartMut.{put_mid}
use Rattle.sheet.specs.Lists.{flat}
use Rattle.sheet.proofs.Flat.{flat_append, length_flat}
use Rattle.sheet.proofs.Parts.{Written, then_lent}

-- the head and the first j pieces
abbrev pub up_to : {A B : Type 0} → (A → List B) → List B → List A → ℕ → List B
up_to f head xs j = head ++ flat (map f (take j xs))

module _ {A B : Type 0} (f : A → List B) (k : ℕ) (long : (x : A) → length (f x) ≡ k) (head : List B) (xs : List A) where
  -- all pieces are written
  pub turned : {o₀ o : List B} {a : ℕ} (j : ℕ) → length xs ≤ j → Written o₀ (up_to f head xs j) a o → o ≡ head ++ flat (map f xs) ++ drop a o₀
  turned {o₀} {o} {a} j l w = w.is ∙ ap (λ (ys : List A). head ++ flat (map f ys) ++ drop a o₀) (take_all j xs l)

  pub length_up_to : (j : ℕ) → j ≤ length xs → length (up_to f head xs j) ≡ length head + k * j
  length_up_to j l =
      let pieces = length_flat f k long (take j xs) ∙ ap (λ (i : ℕ). i * k) (length-take-le j xs l) ∙ mul_comm j k in
      omega (arith, length-append head (flat (map f (take j xs))))

  -- x is the element behind the first j
  module _ (j : ℕ) {x : A} {later : List A} (next : drop j xs ≡ x ∷ later) where
    longer : up_to f head xs (j + 1) ≡ up_to f head xs j ++ f x
    longer =
        ap (λ (ys : List A). head ++ flat (map f ys)) (take-add j 1 xs ∙ ap (λ (ys : List A). take j xs ++ take 1 ys) next)
        ∙ ap (λ (z : List B). head ++ z) (flat_append f (take j xs) (x ∷ []) ∙ ap (λ (z : List B). flat (map f (take j xs)) ++ z) (append-nil (f x)))
        ∙ sym (append_assoc head (flat (map f (take j xs))) (f x))

    -- a turn of a writer: the part behind the first j pieces is lent, and comes back with the next one at its start
    pub turn : {o₀ o new : List B} {a b : ℕ} → a + k ≡ b → new ≡ f x ++ drop k (take (length o - a) (drop a o))
        → Written o₀ (up_to f head xs j) a o → Written o₀ (up_to f head xs (j + 1)) b (put_mid a (length o - a) o new)
    turn {new = new} place e w = rw (longer, ← place) (then_lent w (f x) new k e (long x))

    -- what a reader finds behind the first j pieces
    pub stands : (rest : List B) (a : ℕ) → a ≡ length head + k * j → drop a (head ++ flat (map f xs) ++ rest) ≡ f x ++ (flat (map f later) ++ rest)
    stands rest a place =
        let within : j < length xs = omega (arith, length-drop j xs, ap length next) in
        let behind = f x ++ flat (map f later) in
        let split =
        ap (λ (ys : List A). head ++ flat (map f ys)) (sym (take-append-drop j xs) ∙ ap (λ (ys : List A). take j xs ++ ys) next)
        ∙ ap (λ (z : List B). head ++ z) (flat_append f (take j xs) (x ∷ later))
        ∙ sym (append_assoc head (flat (map f (take j xs))) behind) in
        ap (λ (z : List B). drop a (z ++ rest)) split
        ∙ ap (drop a) (append_assoc (up_to f head xs j) behind rest)
        ∙ drop_at (up_to f head xs j) (behind ++ rest) a (length_up_to j (omega arith) ∙ sym place)
        ∙ append_assoc (f x) (flat (map f later)) rest
