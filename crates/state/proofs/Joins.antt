-- Tests joined by an order, by `||`, as a condition or as an equivalence, and tests of every entry of a list, say what is said of their parts.
use Prim.Native.Nat.{ℕ, ◌-◌, ◌≤◌, ◌<◌}
use mathlib.Core.Path.{◌≡◌}
use mathlib.Core.Logic.{◌⊎◌, inl, inr, ⊎_elim, ◌↔◌}
use mathlib.Core.List.{List}
use mathlib.Core.Bool.{Bool, true, false, not, ◌||◌, cond}
use native.Mathlib.Omega.{arith}
use lib.Dec.{T, leb, eqb, ltb, ltb→lt, lt→ltb}
use lib.ListN.{get_or}
use Rattle.sheet.specs.Lists.{from, all, within}
use Rattle.sheet.proofs.TestWords.{Tells, tells, decide, eq_words, le_words, and_words, or_words, cond_words, not_words, range_words}
use Rattle.state.specs.WellFormed.{same}

pub lt_words : (a b : ℕ) → Tells (ltb a b) (a < b)
lt_words a b = tells (ltb a b) (ltb→lt a b, lt→ltb a b)

pub within_words : (lo hi x : ℕ) → Tells (within lo hi x) ((lo ≤ x) × (x ≤ hi))
within_words lo hi x = and_words (le_words lo x) (λ _. le_words x hi)

module _ {A B : Type 0} {a b : Bool} (f : Tells a A) (g : Tells b B) where
  pub either_words : Tells (a || b) (A ⊎ B)
  either_words =
      let e = (or_words f g).says in
      tells (a || b) (λ t. ⊎_elim inl (λ n. inr (e.0 t n)) (decide f), λ s. e.1 (λ n. ⊎_elim (λ x. absurd (n x)) (λ y. y) s))

  pub if_words : Tells (not a || b) (A → B)
  if_words =
      let e = (or_words (not_words f) g).says in
      tells (not a || b) (λ t x. e.0 t (λ n. n x), λ h. e.1 (λ n. ⊎_elim h (λ o. absurd (n o)) (decide f)))

  pub same_words : Tells (same a b) (A ↔ B)
  same_words =
      let e = (cond_words f g (not_words g)).says in
      tells (same a b) (
        λ t. let (h, n) = e.0 t in (h, λ y. ⊎_elim (λ x. x) (λ o. absurd (n o y)) (decide f)),
        λ h. e.1 (h.0, λ n y. n (h.1 y)),
      )

-- every entry from a place on is zero
pub past_words : (xs : List ℕ) (start size : ℕ)
    → Tells (all (λ j. eqb (get_or xs j 0) 0) (from start (size - start))) ((j : ℕ) → start ≤ j → j < size → get_or xs j 0 ≡ 0)
past_words xs start size =
    let e = (range_words start (size - start) (λ j. eq_words (get_or xs j 0) 0)).says in
    tells _ (λ t j low high. e.0 t j low (omega arith), λ h. e.1 (λ j low high. h j low (omega arith)))

-- at most `most` where the test is passed, else zero
pub most_words : {B : Type 0} {b : Bool} → Tells b B → (x most : ℕ) → Tells (leb x (cond b most 0)) ((B → x ≤ most) × ((B → ⊥) → x ≡ 0))
most_words {B} {b} f x most = tells (leb x (cond b most 0)) (go b f.says)
  where
    go : (b : Bool) → T b ↔ B → T (leb x (cond b most 0)) ↔ (B → x ≤ most) × ((B → ⊥) → x ≡ 0)
    go true e = let l = (le_words x most).says in (λ t. (λ _. l.0 t, λ n. absurd (n (e.0 tt))), λ h. l.1 (h.0 (e.0 tt)))
    go false e =
        let l = (le_words x 0).says in
        (λ t. (λ y. absurd (e.1 y), λ n. let z = l.0 t in omega arith), λ h. let z = h.1 e.1 in l.1 (omega arith))
