-- A fold over a list says what its elements say one by one: inductions over `all`, `any`, `keep`, `first_bad` and `from`.
use Prim.Native.Nat.{ℕ, zero, suc, ◌+◌, ◌≤◌, ◌<◌}
use mathlib.Core.Path.{◌≡◌, refl, sym, ap, ◌∙◌, subst}
use mathlib.Core.Logic.{◌⊎◌, inl, inr}
use mathlib.Core.List.{List, [], ◌∷◌, ◌++◌, map}
use mathlib.Core.Bool.{Bool, true, false, not, ◌&&◌, ◌||◌, cond}
use native.Mathlib.Nat.{le_refl, eq-or-lt_of_le}
use native.Mathlib.Omega.{arith}
use borrow.Author.Tests.{ltb-true, ltb-false}
use lib.Dec.{T, ltb}
use Rattle.sheet.specs.Lists.{from, all, any, keep, flat}

-- ---- tests

pub and_left : (a b : Bool) → T (a && b) → T a
and_left true b t = tt
and_left false b t = absurd t

pub and_right : (a b : Bool) → T (a && b) → T b
and_right true b t = t
and_right false b t = absurd t

pub and_both : (a b : Bool) → T a → T b → T (a && b)
and_both true b s t = t
and_both false b s t = absurd s

pub or_left : (a b : Bool) → T a → T (a || b)
or_left true b t = tt
or_left false b t = absurd t

pub or_right : (a b : Bool) → T b → T (a || b)
or_right true b t = tt
or_right false b t = t

pub or_cases : (a b : Bool) → T (a || b) → (T a) ⊎ (T b)
or_cases true b t = inl tt
or_cases false b t = inr t

pub holds : (b : Bool) → T b → b ≡ true
holds true t = refl
holds false t = absurd t

pub held : (b : Bool) → b ≡ true → T b
held b e = subst T (sym e) tt

pub fails : (b : Bool) → (T b → ⊥) → b ≡ false
fails true h = absurd (h tt)
fails false h = refl

pub failed : (b : Bool) → b ≡ false → T b → ⊥
failed b e t = subst T e t

-- a test is passed or not
pub either : (b : Bool) → (T b) ⊎ (T b → ⊥)
either true = inl tt
either false = inr (λ t. t)

-- two numbers are in order one way or the other
pub lt_or_le : (a b : ℕ) → (a < b) ⊎ (b ≤ a)
lt_or_le a b = go (ltb a b) refl
  where
    go : (t : Bool) → ltb a b ≡ t → (a < b) ⊎ (b ≤ a)
    go true e = inl (ltb-true a b e)
    go false e = inr (ltb-false a b e)

-- two tests that say the same are the same
pub same_test : (a b : Bool) → (T a → T b) → (T b → T a) → a ≡ b
same_test true true f g = refl
same_test true false f g = absurd (f tt)
same_test false true f g = absurd (g tt)
same_test false false f g = refl

-- ---- every number of a range

pub all_from : (f : ℕ → Bool) (a n : ℕ) → T (all f (from a n)) → (k : ℕ) → a ≤ k → k < a + n → T (f k)
all_from f a zero t k h l = absurd (omega arith)
all_from f a (suc n) t k h l = go (λ g. all_from f (suc a) n (and_right (f a) (all f (from (suc a) n)) t) k g (omega arith)) (eq-or-lt_of_le h)
  where
    go : (a < k → T (f k)) → ((a ≡ k) ⊎ (a < k)) → T (f k)
    go ih (inl e) = subst (λ (m : ℕ). T (f m)) e (and_left (f a) (all f (from (suc a) n)) t)
    go ih (inr g) = ih g

pub from_all : (f : ℕ → Bool) (a n : ℕ) → ((k : ℕ) → a ≤ k → k < a + n → T (f k)) → T (all f (from a n))
from_all f a zero g = tt
from_all f a (suc n) g =
    and_both (f a) (all f (from (suc a) n)) (g a (le_refl a) (omega arith))
    (from_all f (suc a) n (λ k h l. g k (omega arith) (omega arith)))

-- ---- some number of a range
pub any_from : (f : ℕ → Bool) (a n k : ℕ) → a ≤ k → k < a + n → T (f k) → T (any f (from a n))
any_from f a zero k h l t = absurd (omega arith)
any_from f a (suc n) k h l t = go (λ g. any_from f (suc a) n k g (omega arith) t) (eq-or-lt_of_le h)
  where
    go : (a < k → T (any f (from (suc a) n))) → ((a ≡ k) ⊎ (a < k)) → T (f a || any f (from (suc a) n))
    go ih (inl e) = or_left (f a) (any f (from (suc a) n)) (subst (λ (m : ℕ). T (f m)) (sym e) t)
    go ih (inr g) = or_right (f a) (any f (from (suc a) n)) (ih g)

pub from_any : (f : ℕ → Bool) (a n : ℕ) → T (any f (from a n)) → (k : ℕ) × (a ≤ k) × (k < a + n) × T (f k)
from_any f a zero t = absurd t
from_any f a (suc n) t = go (λ s. from_any f (suc a) n s) (or_cases (f a) (any f (from (suc a) n)) t)
  where
    go : (T (any f (from (suc a) n)) → (k : ℕ) × (suc a ≤ k) × (k < suc a + n) × T (f k)) → (T (f a)) ⊎ (T (any f (from (suc a) n)))
        → (k : ℕ) × (a ≤ k) × (k < a + suc n) × T (f k)
    go ih (inl s) = (a, le_refl a, omega arith, s)
    go ih (inr s) = let r = ih s in let low = r.1 in let high = r.2 in (r.0, omega arith, omega arith, r.3)

-- ---- lists in other forms

pub all_append : {A : Type 0} (f : A → Bool) (xs ys : List A) → all f (xs ++ ys) ≡ (all f xs && all f ys)
all_append f [] ys = refl
all_append f (x ∷ xs) ys = go (f x) (all_append f xs ys)
  where
    go : (b : Bool) → all f (xs ++ ys) ≡ (all f xs && all f ys) → (b && all f (xs ++ ys)) ≡ ((b && all f xs) && all f ys)
    go true ih = ih
    go false ih = refl

pub all_map : {A B : Type 0} (f : B → Bool) (g : A → B) (xs : List A) → all f (map g xs) ≡ all (λ x. f (g x)) xs
all_map f g [] = refl
all_map f g (x ∷ xs) = ap (λ (t : Bool). f (g x) && t) (all_map f g xs)

pub all_flat : {A : Type 0} (f : A → Bool) (xss : List (List A)) → all f (flat xss) ≡ all (all f) xss
all_flat f [] = refl
all_flat f (xs ∷ xss) = all_append f xs (flat xss) ∙ ap (λ (t : Bool). all f xs && t) (all_flat f xss)

-- what is kept, asked one by one
pub all_keep : {A B : Type 0} (f : B → Bool) (g : A → B) (h : A → Bool) (xs : List A)
    → all f (map g (keep h xs)) ≡ all (λ x. not (h x) || f (g x)) xs
all_keep f g h [] = refl
all_keep f g h (x ∷ xs) = go (all_keep f g h xs) (h x)
  where
    go : all f (map g (keep h xs)) ≡ all (λ x. not (h x) || f (g x)) xs → (b : Bool)
        → all f (map g (cond b (x ∷ keep h xs) (keep h xs))) ≡ ((not b || f (g x)) && all (λ x. not (h x) || f (g x)) xs)
    go ih true = ap (λ (t : Bool). f (g x) && t) ih
    go ih false = ih
