-- `first_bad` counts on over what passes and stops at the first that does not: an induction over the list, read at the places of the rows.
use Prim.Native.Nat.{ℕ, zero, suc, ◌+◌, ◌-◌, ◌≤◌, ◌<◌}
use mathlib.Core.Path.{◌≡◌, refl, sym, ap, ◌∙◌, subst}
use mathlib.Core.Logic.{⊎_elim, ◌↔◌}
use mathlib.Core.List.{List, [], ◌∷◌}
use mathlib.Core.Bool.{Bool, true, false, not}
use native.Mathlib.Nat.{add-zero}
use native.Mathlib.Omega.{arith}
use lib.Dec.{T}
use lib.ListN.{length, get_or}
use Rattle.sheet.specs.Lists.{all, first_bad}
use Rattle.sheet.specs.Rows.{slot, slots, row_count, row_number}
use Rattle.sheet.specs.Words.{IsSlot}
use Rattle.sheet.specs.declared.rows.Slot.{Slot}
use Rattle.sheet.proofs.Folds.{and_left, and_right, and_both, holds, fails, either}
use Rattle.sheet.proofs.Slots.{AtRow, length_slots, slots_at, at_slot, row_at, slot_row, all_slots, slots_all}

-- ---- any list

module _ {A : Type 0} (f : A → Bool) where
  -- one step
  pub first_on : (a : ℕ) (x : A) (xs : List A) → T (f x) → first_bad f a (x ∷ xs) ≡ first_bad f (suc a) xs
  first_on a x xs t = rw (holds (f x) t)

  pub first_here : (a : ℕ) (x : A) (xs : List A) → (T (f x) → ⊥) → first_bad f a (x ∷ xs) ≡ a
  first_here a x xs n = rw (fails (f x) n)

  -- there is none exactly if f holds of all
  pub first_none : (a : ℕ) (xs : List A) → T (all f xs) → first_bad f a xs ≡ 0
  first_none a [] t = refl
  first_none a (x ∷ xs) t =
      first_on a x xs (and_left (f x) (all f xs) t) ∙ first_none (suc a) xs (and_right (f x) (all f xs) t)

  pub none_first : (a : ℕ) (xs : List A) → 1 ≤ a → first_bad f a xs ≡ 0 → T (all f xs)
  none_first a [] one e = tt
  none_first a (x ∷ xs) one e =
      ⊎_elim
      (λ t. and_both (f x) (all f xs) t (none_first (suc a) xs (omega arith) (sym (first_on a x xs t) ∙ e)))
      (λ n. let h = first_here a x xs n in absurd (omega arith))
      (either (f x))

  -- the first is at place i, counted from 0
  pub first_at : (d : A) (a i : ℕ) (xs : List A) → i < length xs → (T (f (get_or xs i d)) → ⊥)
      → ((j : ℕ) → j < i → T (f (get_or xs j d))) → first_bad f a xs ≡ a + i
  first_at d a i [] l n g = absurd (omega arith)
  first_at d a zero (x ∷ xs) l n g = first_here a x xs n ∙ sym (add-zero a)
  first_at d a (suc i) (x ∷ xs) l n g =
      first_on a x xs (g zero (omega arith))
      ∙ first_at d (suc a) i xs (omega arith) n (λ j h. g (suc j) (omega arith))
      ∙ (let e : suc a + i ≡ a + suc i = omega arith in e)

  pub first_found : (d : A) (a : ℕ) (xs : List A) → (first_bad f a xs ≡ 0 → ⊥)
      → (i : ℕ) × (first_bad f a xs ≡ a + i) × (i < length xs) × (T (f (get_or xs i d)) → ⊥) × ((j : ℕ) → j < i → T (f (get_or xs j d)))
  first_found d a [] n = absurd (n refl)
  first_found d a (x ∷ xs) n =
      ⊎_elim
      (λ t.
      let r = first_found d (suc a) xs (λ e. n (first_on a x xs t ∙ e)) in
      let s = r.1 in
      let l = r.2 in
      let e = first_on a x xs t in
      (suc r.0, omega arith, omega arith, r.3, later t r.0 r.4))
      (λ b. (0, first_here a x xs b ∙ sym (add-zero a), omega arith, b, λ j h. absurd (omega arith)))
      (either (f x))
    where
      later : T (f x) → (i : ℕ) → ((j : ℕ) → j < i → T (f (get_or xs j d))) → (j : ℕ) → j < suc i → T (f (get_or (x ∷ xs) j d))
      later t i g zero h = t
      later t i g (suc j) h = g j (omega arith)

-- tests that agree on the elements
abbrev same : Bool → Bool → Bool
same true b = b
same false b = not b

same_refl : (b : Bool) → T (same b b)
same_refl true = tt
same_refl false = tt

same_eq : (a b : Bool) → T (same a b) → a ≡ b
same_eq true true t = refl
same_eq true false t = absurd t
same_eq false true t = absurd t
same_eq false false t = refl

pub first_same : {A : Type 0} (f g : A → Bool) (a : ℕ) (xs : List A) → T (all (λ x. same (f x) (g x)) xs) → first_bad f a xs ≡ first_bad g a xs
first_same f g a [] t = refl
first_same f g a (x ∷ xs) t =
    let head = same (f x) (g x) in
    let tail = all (λ x. same (f x) (g x)) xs in
    rw (same_eq (f x) (g x) (and_left head tail t), first_same f g (suc a) xs (and_right head tail t))

-- ---- the rows

pub first_slots_same : (f g : Slot → Bool) (a n : ℕ) → ((p : Slot) → IsSlot n p → f p ≡ g p) → first_bad f a (slots n) ≡ first_bad g a (slots n)
first_slots_same f g a n h = first_same f g a (slots n) (slots_all (λ p. same (f p) (g p)) n (λ p s. rw (h p s) (same_refl (g p))))

pub first_every : (f : Slot → Bool) (n : ℕ) → first_bad f 1 (slots n) ≡ 0 ↔ ((p : Slot) → IsSlot n p → T (f p))
first_every f n = (λ e. all_slots f n (none_first f 1 (slots n) (omega arith) e), λ g. first_none f 1 (slots n) (slots_all f n g))

-- row k, counted from 1, is the first of which f does not hold
pub record FirstRow (f : Slot → Bool) (n k : ℕ) : Type 0 where
  pub slot : Slot
  pub is_slot : IsSlot n slot
  pub number : row_number slot ≡ k
  pub fails : T (f slot) → ⊥
  pub earlier : (q : Slot) → IsSlot n q → row_number q < k → T (f q)

pub first_row : (f : Slot → Bool) (n k : ℕ) → 1 ≤ n → (first_bad f 1 (slots n) ≡ k) × (k ≡ 0 → ⊥) ↔ FirstRow f n k
first_row f n k one = (found, finds)
  where
    size : length (slots n) ≡ row_count n
    size = length_slots n one

    at : ℕ → Slot
    at j = get_or (slots n) j (slot 2 1)

    -- a row stands at its place
    here : (p : Slot) → IsSlot n p → at (row_number p - 1) ≡ p
    here p s = slots_at n p (slot 2 1) s

    there : (j : ℕ) (p : Slot) → AtRow j p → j < row_count n → at j ≡ p
    there j p r l = let m = r.number in let e : j ≡ row_number p - 1 = omega arith in ap at e ∙ here p (at_slot n j p r l)

    found : (first_bad f 1 (slots n) ≡ k) × (k ≡ 0 → ⊥) → FirstRow f n k
    found (e, z) =
        let r = first_found f (slot 2 1) 1 (slots n) (λ o. z (sym e ∙ o)) in
        let i = r.0 in
        let place = r.1 in
        let low = r.2 in
        let l : i < row_count n = omega (arith, size) in
        let p = (row_at i).0 in
        let row = (row_at i).1 in
        let m = row.number in
        record {
          slot = p;
          is_slot = at_slot n i p row l;
          number = omega arith;
          fails = subst (λ (x : Slot). T (f x) → ⊥) (there i p row l) r.3;
          earlier = λ q s h.
              let o = (slot_row n q s).0.number in
              subst (λ (x : Slot). T (f x)) (here q s) (r.4 (row_number q - 1) (omega arith));
        }

    finds : FirstRow f n k → (first_bad f 1 (slots n) ≡ k) × (k ≡ 0 → ⊥)
    finds b =
        let r = slot_row n b.slot b.is_slot in
        let i = row_number b.slot - 1 in
        let m = r.0.number in
        let l = r.1 in
        let e = b.number in
        let first : first_bad f 1 (slots n) ≡ 1 + i =
        first_at f (slot 2 1) 1 i (slots n) (omega (arith, size))
        (subst (λ (x : Slot). T (f x) → ⊥) (sym (here b.slot b.is_slot)) b.fails)
        (λ j h.
        let q = (row_at j).0 in
        let row = (row_at j).1 in
        let o = row.number in
        let c : j < row_count n = omega arith in
        subst (λ (x : Slot). T (f x)) (sym (there j q row c)) (b.earlier q (at_slot n j q row c) (omega arith))) in
        (omega arith, λ z. omega arith)
