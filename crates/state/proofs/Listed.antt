-- A chain tests the entries of a list in turn; the specs test the numbers of a range: both say the same, where each number's test is its entry's.
use Rattle.std.proofs.Common.{◌≡◌, refl, sym, ap, ◌∙◌, ℕ, zero, suc, ◌+◌, ◌-◌, ◌≤◌, ◌<◌, Bool, true, false, ◌&&◌, eqb, Some, None, List, [], ◌∷◌, ◌++◌, length, get_or, take, drop, arith, add-zero}
use Rattle.std.proofs.lemmas.List.{get_or-drop, get_or-take, length-drop, length-take-le}
use Rattle.std.proofs.iter.runs.Sources.{nat_range_inclusive_steps}
use Rattle.std.proofs.lemmas.Iterator.{YieldsList}
use Rattle.std.proofs.lemmas.Iterator.Consumers.{YieldsList-from_shown}
use Rattle.std.proofs.lemmas.List.FromFn.{length-range_with_len}
use Rattle.std.specs.List.{fold, list_all, range_with_len}
use Rattle.std.specs.Range.{range_inclusive_len, range_inclusive_start, range_inclusive_end, range_inclusive_exhausted}
use Rattle.std.specs.declared.ops.RangeInclusive.{RangeInclusive}
use Rattle.sheet.specs.Lists.{from, all}
use Rattle.sheet.proofs.Folds.{all_append}

module _ {A : Type 0} (d : A) (f : ℕ → Bool) (g : A → Bool) where
  -- the entry at place j is of number a + j
  pub listed : (a : ℕ) (xs : List A) → ((j : ℕ) → j < length xs → f (a + j) ≡ g (get_or xs j d)) → list_all g xs ≡ all f (from a (length xs))
  listed a [] h = refl
  listed a (x ∷ xs) h =
      let here : f a ≡ g x = ap f (sym (add-zero a)) ∙ h 0 (omega arith) in
      let later = listed (suc a) xs (λ j l. ap f (let e : suc a + j ≡ a + suc j = omega arith in e) ∙ h (suc j) (omega arith)) in
      rw (here, later)

  -- n entries of a list, from place a on, are of their places' numbers
  pub part_listed : (xs : List A) (a n : ℕ) → a + n ≤ length xs → ((j : ℕ) → a ≤ j → j < a + n → f j ≡ g (get_or xs j d))
      → list_all g (take n (drop a xs)) ≡ all f (from a n)
  part_listed xs a n l h =
      let long : length (take n (drop a xs)) ≡ n = length-take-le n (drop a xs) (omega (arith, length-drop a xs)) in
      listed a (take n (drop a xs)) (λ j m.
      h (a + j) (omega arith) (omega arith)
      ∙ ap g (sym (get_or-take n (drop a xs) j d (omega arith) ∙ get_or-drop a xs j d)))
      ∙ ap (λ (k : ℕ). all f (from a k)) long

from_append : (a m n : ℕ) → from a (m + n) ≡ from a m ++ from (a + m) n
from_append a zero n =
    let none : 0 + n ≡ n = omega arith in
    rw (none, add-zero)
from_append a (suc m) n =
    let more : suc m + n ≡ suc (m + n) = omega arith in
    let on : a + suc m ≡ suc a + m = omega arith in
    rw (more, on, from_append (suc a) m n)

-- a test of the numbers below the size, in two parts
pub in_parts : (f : ℕ → Bool) (front size : ℕ) → front ≤ size → all f (from 0 size) ≡ (all f (from 0 front) && all f (from front (size - front)))
in_parts f front size l =
    let sum : size ≡ front + (size - front) = omega arith in
    let first : 0 + front ≡ front = omega arith in
    ap (λ (n : ℕ). all f (from 0 n)) sum
    ∙ ap (all f) (from_append 0 front (size - front))
    ∙ all_append f (from 0 front) (from (0 + front) (size - front))
    ∙ ap (λ (a : ℕ). all f (from 0 front) && all f (from a (size - front))) first

-- the entries of a list from a start on are zero, as a test says it
pub zeros_listed : (t : ℕ → Bool) → ((x : ℕ) → eqb x 0 ≡ t x) → (xs : List ℕ) (start size : ℕ) → length xs ≡ size → start ≤ size
    → list_all t (take (size - start) (drop start xs)) ≡ all (λ j. eqb (get_or xs j 0) 0) (from start (size - start))
zeros_listed t e xs start size whole l =
    part_listed 0 (λ j. eqb (get_or xs j 0) 0) t xs start (size - start) (omega arith) (λ j low high. e (get_or xs j 0))

-- a fold that asks every entry
pub folded : {A : Type 0} (t : A → Bool) (b : Bool) (xs : List A) → fold (λ ok x. ok && t x) b xs ≡ (b && list_all t xs)
folded t true [] = refl
folded t false [] = refl
folded t true (x ∷ xs) = folded t (t x) xs
folded t false (x ∷ xs) = folded t false xs

-- ---- the numbers of `a..=b`, as a chain takes them

left : RangeInclusive ℕ → ℕ
left s = range_inclusive_len (λ x y. y - x) (range_inclusive_start s) (range_inclusive_end s) (range_inclusive_exhausted s)

shown : RangeInclusive ℕ → List ℕ
shown s = range_with_len (range_inclusive_start s) (left s)

ends : (s t : RangeInclusive ℕ) → nat_range_inclusive_steps s None t → length (shown s) ≡ 0
unfolding left shown
ends s t h = length-range_with_len (range_inclusive_start s) (left s) ∙ h.1.0

goes_on : (s : RangeInclusive ℕ) (x : ℕ) (t : RangeInclusive ℕ) → nat_range_inclusive_steps s (Some x) t → shown s ≡ x ∷ shown t
unfolding left shown
goes_on s x t h = ap (range_with_len (range_inclusive_start s)) (let e : left s ≡ suc (left t) = omega (arith, h.1.1) in e) ∙ go (range_inclusive_exhausted t) refl
  where
    go : (b : Bool) → range_inclusive_exhausted t ≡ b → range_inclusive_start s ∷ range_with_len (range_inclusive_start s + 1) (left t) ≡ x ∷ range_with_len (range_inclusive_start t) (left t)
    go false z = rw (h.1.2 z, h.1.0)
    go true z =
        let none : left t ≡ 0 = ap (range_inclusive_len (λ x y. y - x) (range_inclusive_start t) (range_inclusive_end t)) z in
        rw (none, h.1.0)

pub YieldsList-from_inclusive : {s : RangeInclusive ℕ} (a n : ℕ) → range_inclusive_start s ≡ a → range_inclusive_end s + 1 ≡ a + n → range_inclusive_exhausted s ≡ false
    → YieldsList nat_range_inclusive_steps (λ x. x) s (range_with_len a n)
unfolding left shown
YieldsList-from_inclusive {s} a n first last fresh =
    let whole : left s ≡ n = omega (arith, ap (range_inclusive_len (λ x y. y - x) (range_inclusive_start s) (range_inclusive_end s)) fresh) in
    rw (← first, ← whole) (YieldsList-from_shown nat_range_inclusive_steps (λ x. x) shown ends goes_on s)
