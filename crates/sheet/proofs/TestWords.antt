-- A test that is made of tests says what they say, joined in words: by cases on the first of them.
use Prim.Native.Nat.{ℕ, ◌+◌, ◌≤◌, ◌<◌}
use mathlib.Core.Path.{◌≡◌}
use mathlib.Core.Logic.{◌⊎◌, inl, inr, ⊎_elim, ◌↔◌}
use mathlib.Core.Bool.{Bool, true, false, not, ◌&&◌, ◌||◌, cond}
use borrow.Author.Tests.{eq-eqb}
use lib.Dec.{T, leb, eqb, leb→le, le→leb, eqb→eq, T_not, not_T}
use Rattle.sheet.specs.Lists.{from, all}
use Rattle.sheet.specs.Rows.{slots}
use Rattle.sheet.specs.Words.{IsSlot}
use Rattle.sheet.specs.declared.rows.Slot.{Slot}
use Rattle.sheet.proofs.Folds.{and_left, and_right, and_both, held, either, all_from, from_all}
use Rattle.sheet.proofs.Slots.{all_slots, slots_all}

-- the test is passed exactly if A holds
pub record Tells (b : Bool) (A : Type 0) : Type 0 where
  pub says : T b ↔ A

pub tells : {A : Type 0} (b : Bool) → T b ↔ A → Tells b A
tells b e = record { says = e }

-- A holds or not, as the test finds out
pub decide : {A : Type 0} {b : Bool} → Tells b A → A ⊎ (A → ⊥)
decide {A} {b} e = ⊎_elim (λ t. inl (e.says.0 t)) (λ n. inr (λ x. n (e.says.1 x))) (either b)

pub eq_words : (a b : ℕ) → Tells (eqb a b) (a ≡ b)
eq_words a b = tells (eqb a b) (eqb→eq a b, λ e. held (eqb a b) (eq-eqb a b e))

pub le_words : (a b : ℕ) → Tells (leb a b) (a ≤ b)
le_words a b = tells (leb a b) (leb→le a b, le→leb a b)

module _ {A B : Type 0} where
  -- what the second says may rest on the first
  pub and_words : {a b : Bool} → Tells a A → (A → Tells b B) → Tells (a && b) (A × B)
  and_words {a} {b} f g =
      tells (a && b) (
        λ t. let x = f.says.0 (and_left a b t) in (x, (g x).says.0 (and_right a b t)),
        λ p. and_both a b (f.says.1 p.0) ((g p.0).says.1 p.1),
      )

  pub or_words : {a b : Bool} → Tells a A → Tells b B → Tells (a || b) ((A → ⊥) → B)
  or_words {a} {b} f g = tells (a || b) (go a f.says)
    where
      go : (a : Bool) → T a ↔ A → T (a || b) ↔ ((A → ⊥) → B)
      go true e = (λ t n. absurd (n (e.0 tt)), λ h. tt)
      go false e = (λ t n. g.says.0 t, λ h. g.says.1 (h e.1))

  pub cond_words : {C : Type 0} {a b c : Bool} → Tells a A → Tells b B → Tells c C → Tells (cond a b c) ((A → B) × ((A → ⊥) → C))
  cond_words {C} {a} {b} {c} f g h = tells (cond a b c) (go a f.says)
    where
      go : (a : Bool) → T a ↔ A → T (cond a b c) ↔ (A → B) × ((A → ⊥) → C)
      go true e = (λ t. (λ x. g.says.0 t, λ n. absurd (n (e.0 tt))), λ p. g.says.1 (p.0 (e.0 tt)))
      go false e = (λ t. (λ x. absurd (e.1 x), λ n. h.says.0 t), λ p. h.says.1 (p.1 e.1))

pub not_words : {A : Type 0} {a : Bool} → Tells a A → Tells (not a) (A → ⊥)
not_words {A} {a} f = tells (not a) (λ t x. T_not a t (f.says.1 x), λ n. not_T a (λ t. n (f.says.0 t)))

-- a test of every row
pub all_words : {P : Slot → Type 0} {f : Slot → Bool} (n : ℕ) → ((q : Slot) → IsSlot n q → Tells (f q) (P q))
    → Tells (all f (slots n)) ((q : Slot) → IsSlot n q → P q)
all_words {P} {f} n g =
    tells (all f (slots n)) (λ t q s. (g q s).says.0 (all_slots f n t q s), λ h. slots_all f n (λ q s. (g q s).says.1 (h q s)))

-- a test of every number of a range
pub range_words : {P : ℕ → Type 0} {f : ℕ → Bool} (a n : ℕ) → ((k : ℕ) → Tells (f k) (P k))
    → Tells (all f (from a n)) ((k : ℕ) → a ≤ k → k < a + n → P k)
range_words {P} {f} a n g =
    tells (all f (from a n)) (λ t k h m. (g k).says.0 (all_from f a n t k h m), λ h. from_all f a n (λ k m o. (g k).says.1 (h k m o)))
