-- A function that answers a test is asked, and the branch on its answer tells the test; of a test after others that are passed, it alone is left.
use Prim.Native.Nat.{ℕ, ◌≤◌, ◌<◌}
use mathlib.Core.Path.{◌≡◌, sym, ◌∙◌}
use mathlib.Core.Bool.{Bool, true, false, ◌&&◌}
use native.Mathlib.Omega.{arith}
use lib.Dec.{T, leb, leb→le, le→leb}

module _ {a b : Bool} (e : a ≡ b) where
  pub passed : a ≡ true → b ≡ true
  passed t = sym e ∙ t

  pub stopped : a ≡ false → b ≡ false
  stopped f = sym e ∙ f

-- a test behind another: asked where that is passed, and else that settles the answer
module _ {a b : Bool} (e : a ≡ b) where
  pub and_then : {x c : Bool} → a ≡ true → x ≡ c → x ≡ (b && c)
  and_then t f = rw (sym e ∙ t) f

  pub and_else : {x : Bool} (c : Bool) → a ≡ false → x ≡ a → x ≡ (b && c)
  and_else c l f = rw (sym e ∙ l) (f ∙ l)

pub both : {a b : Bool} → a ≡ true → b ≡ true → (a && b) ≡ true
both e f = rw (e, f)

pub ends : {a : Bool} (b : Bool) → a ≡ false → false ≡ (a && b)
ends b e = rw e

pub last : {a : Bool} (b : Bool) → a ≡ true → b ≡ (a && b)
last b e = rw e

-- a function that answers the most that x may be
module _ {most r x : ℕ} (e : r ≡ most) where
  pub under : x ≤ r → T (leb x most)
  under h = le→leb x most (omega arith)

  pub above : r < x → T (leb x most) → ⊥
  above h t = let under = leb→le x most t in omega arith
