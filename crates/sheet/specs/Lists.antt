-- Lists that compute: the folds that every rule is said with.
use Rattle.std.specs.Prelude.{ℕ, zero, suc, List, [], ◌∷◌, ◌++◌, Bool, true, false, ◌&&◌, ◌||◌, cond, leb}

-- n numbers, from a on
abbrev pub from : ℕ → ℕ → List ℕ
from a zero = []
from a (suc n) = a ∷ from (suc a) n

-- f holds of every element
abbrev pub all : {A : Type 0} → (A → Bool) → List A → Bool
all f [] = true
all f (x ∷ xs) = f x && all f xs

-- f holds of some element
abbrev pub any : {A : Type 0} → (A → Bool) → List A → Bool
any f [] = false
any f (x ∷ xs) = f x || any f xs

-- the elements that f holds of
abbrev pub keep : {A : Type 0} → (A → Bool) → List A → List A
keep f [] = []
keep f (x ∷ xs) = let r = keep f xs in cond (f x) (x ∷ r) r

abbrev pub flat : {A : Type 0} → List (List A) → List A
flat [] = []
flat (x ∷ xs) = x ++ flat xs

-- the place, counted from k, of the first element that f does not hold of; 0 where it holds of all
abbrev pub first_bad : {A : Type 0} → (A → Bool) → ℕ → List A → ℕ
first_bad f k [] = 0
first_bad f k (x ∷ xs) = let r = first_bad f (suc k) xs in cond (f x) r k

-- x is from lo to hi
abbrev pub within : ℕ → ℕ → ℕ → Bool
within lo hi x = leb lo x && leb x hi
