-- An array that a closure fills has at each place what the closure answers there, where no call changes the closure: by induction on the calls.
use Rattle.std.proofs.Common.{◌≡◌, refl, ◌∙◌, subst, ℕ, zero, suc, ◌+◌, ◌<◌, List, get_or, arith, add-zero}
use Rattle.std.specs.Array.{IsFromFnResult, IsFromFnResultFrom}
use denote.Param.Members.{Mut, Called}

module _ {F B : Type 0} {g : Mut F (ℕ × Unit {0}) B} {f : F} (h : ℕ → B) (answers : (i : ℕ) (y : B) (q : F) → Called g f (i, tt) y q → (q ≡ f) × (y ≡ h i)) where
  from_place : (ys : List B) (a n : ℕ) (p : F) → p ≡ f → IsFromFnResultFrom g p ys a n → (k : ℕ) (d : B) → k < n → get_or ys (a + k) d ≡ h (a + k)
  from_place ys a zero p e made k d l = absurd (omega arith)
  from_place ys a (suc n) p e (q, y, at, call, later) zero d l =
      rw add-zero (at.1 d ∙ (answers a y q (subst (λ (s : F). Called g s (a, tt) y q) e call)).1)
  from_place ys a (suc n) p e (q, y, at, call, later) (suc k) d l =
      let place : a + suc k ≡ a + 1 + k = omega arith in
      let same = (answers a y q (subst (λ (s : F). Called g s (a, tt) y q) e call)).0 in
      rw place (from_place ys (a + 1) n q same later k d (omega arith))

  pub made_at : (ys : List B) (n : ℕ) → IsFromFnResult g f ys n → (k : ℕ) (d : B) → k < n → get_or ys k d ≡ h k
  made_at ys n made k d l = let e : 0 + k ≡ k = omega arith in rw e at (from_place ys 0 n f refl made.each k d l)
