-- A stamped list has the mark at each unit that the test picks and is as before elsewhere, so two are equal where their tests agree.
use Prim.Native.Nat.{ℕ, zero, suc, ◌+◌, ◌<◌}
use mathlib.Core.Path.{◌≡◌, refl, sym, ap, ◌∙◌}
use mathlib.Core.List.{List, [], ◌∷◌}
use mathlib.Core.Bool.{Bool, true, false, cond}
use mathlib.Core.Logic.{◌≢◌}
use native.Mathlib.Nat.{add-zero, add-suc, suc-add, zero-add}
use native.Mathlib.Decide.{ℕ_discrete}
use native.Mathlib.Omega.{arith}
use lib.Dec.{T}
use lib.ListN.{length, get_or, set, length-set}
use lib.Seq.{get_or-set_same, get_or-set_other, ext_get_or}
use Rattle.sheet.proofs.Folds.{holds}
use Rattle.steps.specs.Step.{stamped}

pub length_stamped : (f : ℕ → Bool) (m u : ℕ) (l : List ℕ) → length (stamped f m u l) ≡ length l
length_stamped f m u [] = refl
length_stamped f m u (x ∷ xs) = ap suc (length_stamped f m (suc u) xs)

pub get_or_stamped : (f : ℕ → Bool) (m u : ℕ) (l : List ℕ) (i : ℕ) → i < length l → get_or (stamped f m u l) i 0 ≡ cond (f (u + i)) m (get_or l i 0)
get_or_stamped f m u [] i h = absurd (omega arith)
get_or_stamped f m u (x ∷ xs) zero h = rw add-zero
get_or_stamped f m u (x ∷ xs) (suc i) h = rw (add-suc, ← suc-add) (get_or_stamped f m (suc u) xs i (omega arith))

module _ (f : ℕ → Bool) (m : ℕ) (l : List ℕ) (u : ℕ) (h : u < length l) where
  pub get_or_picked : f u ≡ true → get_or (stamped f m 0 l) u 0 ≡ m
  get_or_picked e = get_or_stamped f m 0 l u h ∙ rw (zero-add, e)

  pub get_or_passed : f u ≡ false → get_or (stamped f m 0 l) u 0 ≡ get_or l u 0
  get_or_passed e = get_or_stamped f m 0 l u h ∙ rw (zero-add, e)

-- a list of the same length that agrees with a stamped one at each unit is that one
pub is_stamped : (f : ℕ → Bool) (m : ℕ) (l new : List ℕ) → length new ≡ length l → ((u : ℕ) → u < length l → get_or new u 0 ≡ cond (f u) m (get_or l u 0))
    → new ≡ stamped f m 0 l
is_stamped f m l new size at =
    ext_get_or 0 new (stamped f m 0 l) (size ∙ sym (length_stamped f m 0 l)) (λ u h.
    let less : u < length l = omega arith in
    at u less ∙ sym (get_or_stamped f m 0 l u less ∙ rw zero-add))

pub stamped_none : (f : ℕ → Bool) (m : ℕ) (l : List ℕ) → ((u : ℕ) → f u ≡ false) → l ≡ stamped f m 0 l
stamped_none f m l none = is_stamped f m l l refl (λ u h. rw (none u))

pub stamped_same : (f g : ℕ → Bool) (m : ℕ) (l : List ℕ) → ((u : ℕ) → f u ≡ g u) → stamped f m 0 l ≡ stamped g m 0 l
stamped_same f g m l same =
    is_stamped g m l (stamped f m 0 l) (length_stamped f m 0 l) (λ u h. get_or_stamped f m 0 l u h ∙ rw (zero-add, same u))

-- one more unit
pub stamped_more : (f g : ℕ → Bool) (m : ℕ) (l : List ℕ) (k : ℕ) → T (g k) → ((u : ℕ) → u ≢ k → f u ≡ g u)
    → set (stamped f m 0 l) k m ≡ stamped g m 0 l
stamped_more f g m l k here same =
    is_stamped g m l (set (stamped f m 0 l) k m) (length-set (stamped f m 0 l) k m ∙ length_stamped f m 0 l) (λ u h. at u h (ℕ_discrete u k))
  where
    at : (u : ℕ) → u < length l → Dec (u ≡ k) → get_or (set (stamped f m 0 l) k m) u 0 ≡ cond (g u) m (get_or l u 0)
    at u h (yes e) =
        let size = length_stamped f m 0 l in
        ap (λ (v : ℕ). get_or (set (stamped f m 0 l) k m) v 0) e
        ∙ get_or-set_same (stamped f m 0 l) k m 0 (omega arith)
        ∙ sym (rw (e, holds (g k) here))
    at u h (no n) = get_or-set_other (stamped f m 0 l) k u m 0 n ∙ get_or_stamped f m 0 l u h ∙ rw (zero-add, same u n)
