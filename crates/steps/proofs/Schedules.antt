-- A schedule is passed byte by byte: what is taken so far grows by the byte at the place, and what is left begins with it.
use Prim.Native.Nat.{ℕ, ◌+◌, ◌<◌}
use mathlib.Core.Path.{◌≡◌, refl, sym, ap, ◌∙◌, subst}
use mathlib.Core.List.{List, [], ◌∷◌, ◌++◌}
use mathlib.Core.Bool.{Bool, ◌&&◌}
use native.Mathlib.Numerals.{add-one}
use lib.Dec.{T}
use lib.ListN.{length, get_or, take, drop, take-append-drop}
use lib.Seq.{drop-cons, take-suc}
use Rattle.sheet.specs.Lists.{all}
use Rattle.sheet.proofs.Folds.{and_left, and_right, all_append}
use Rattle.state.specs.declared.kept.Session.{Session}
use Rattle.steps.specs.Run.{entry, obeyed}

-- ---- a loop over a list, at place j

module _ {A : Type 0} (d : A) (xs : List A) (j : ℕ) (h : j < length xs) where
  pub left_more : drop j xs ≡ get_or xs j d ∷ drop (j + 1) xs
  left_more = rw (add-one, drop-cons xs j d)

  pub taken_more : take (j + 1) xs ≡ take j xs ++ (get_or xs j d ∷ [])
  taken_more = rw (add-one, take-suc xs j d)

-- ---- a test of all elements

module _ (f : ℕ → Bool) (xs : List ℕ) (j : ℕ) where
  -- all hold, so the first j do, and the one at j does
  split : all f xs ≡ (all f (take j xs) && all f (drop j xs))
  split = ap (all f) (sym (take-append-drop j xs)) ∙ all_append f (take j xs) (drop j xs)

  pub all_taken : T (all f xs) → T (all f (take j xs))
  all_taken t = and_left (all f (take j xs)) (all f (drop j xs)) (subst T split t)

  pub all_at : j < length xs → T (all f xs) → T (f (get_or xs j 0))
  all_at h t =
      let left = subst (λ (ys : List ℕ). T (all f ys)) (left_more 0 xs j h) (and_right (all f (take j xs)) (all f (drop j xs)) (subst T split t)) in
      and_left (f (get_or xs j 0)) (all f (drop (j + 1) xs)) left

-- ---- a schedule obeyed

-- two schedules joined are obeyed one after the other
pub obeyed_append : (s : Session) (a b : List ℕ) → obeyed s (a ++ b) ≡ obeyed (obeyed s a) b
obeyed_append s [] b = refl
obeyed_append s (x ∷ a) b = obeyed_append (entry s x) a b

-- one byte more
pub obeyed_more : (s : Session) (bs : List ℕ) (j : ℕ) → j < length bs
    → obeyed s (take (j + 1) bs) ≡ entry (obeyed s (take j bs)) (get_or bs j 0)
obeyed_more s bs j h = ap (obeyed s) (taken_more 0 bs j h) ∙ obeyed_append s (take j bs) (get_or bs j 0 ∷ [])
