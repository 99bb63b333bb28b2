-- The builder's tests say document 01's words: the ranges are the check's for a sheet of one unit, and a sheet is given test by test.
use Prim.Native.Nat.{ℕ, ◌-◌, ◌*◌, ◌≤◌}
use mathlib.Core.Path.{◌≡◌}
use mathlib.Core.Logic.{◌⊎◌, inl, inr, ⊎_elim}
use mathlib.Core.Bool.{Bool, ◌||◌}
use native.Mathlib.Omega.{arith}
use Rattle.sheet.specs.Rows.{Layout, no_row}
use Rattle.sheet.specs.Lists.{within}
use Rattle.rules.specs.Check.{numbers_ok}
use Rattle.builder.specs.Build.{given}
use Rattle.builder.specs.Given.{InRange, Given1, Given}
use Rattle.sheet.proofs.Folds.{and_left, and_both, or_left, or_right, or_cases}
use Rattle.sheet.proofs.TestWords.{Tells, tells, eq_words, le_words, and_words, cond_words}
use Rattle.rules.proofs.RuleWords.{header_says}

-- ---- the ranges

pub numbers_words : (kind bound n : ℕ) → Tells (numbers_ok kind bound n) (InRange kind bound n)
numbers_words kind bound n =
    let l : Layout = record { kind = kind; bound = bound; parties = n; units = 1; row = λ _. no_row } in
    let e = header_says l in
    tells (numbers_ok kind bound n) (
      λ t.
          let h = e.0 (and_both (numbers_ok kind bound n) (within 1 1024 1) t tt) in
          record {
            one_or_two = h.kind;
            bound_least = h.bound_least;
            bound_most = h.bound_most;
            parties_least = h.parties_least;
            parties_most = h.parties_most;
          },
      λ r.
          and_left (numbers_ok kind bound n) (within 1 1024 1)
          (e.1
          (record {
            kind = r.one_or_two;
            bound_least = r.bound_least;
            bound_most = r.bound_most;
            parties_least = r.parties_least;
            parties_most = r.parties_most;
            units_least = omega arith;
            units_most = omega arith;
          })),
    )

pub kind_most : {kind bound n : ℕ} → InRange kind bound n → kind ≤ 2
kind_most r = ⊎_elim (λ e. omega arith) (λ e. omega arith) r.one_or_two

-- ---- the sheets that there are

-- a sheet of kind 2 has room in each round's word
pub word_room : {kind bound n : ℕ} → Given kind bound n → (kind ≡ 1 → ⊥) → 2 * n - 1 ≤ bound
word_room g other = ⊎_elim (λ e. absurd (other e)) g.two g.numbers.one_or_two

either_words : {A B : Type 0} {a b : Bool} → Tells a A → Tells b B → Tells (a || b) (A ⊎ B)
either_words {A} {B} {a} {b} f g =
    tells (a || b) (
      λ t. ⊎_elim (λ s. inl (f.says.0 s)) (λ s. inr (g.says.0 s)) (or_cases a b t),
      ⊎_elim (λ x. or_left a b (f.says.1 x)) (λ y. or_right a b (g.says.1 y)),
    )

given1_words : (bound n : ℕ) → Tells (given 1 bound n) (Given1 bound n)
given1_words bound n =
    either_words (eq_words n 1)
    (either_words (and_words (eq_words n 2) (λ _. le_words 3 bound)) (and_words (eq_words n 3) (λ _. le_words 5 bound)))

pub given_words : (kind bound n : ℕ) → InRange kind bound n → Tells (given kind bound n) (Given kind bound n)
given_words kind bound n r =
    let parts = cond_words (eq_words kind 1) (given1_words bound n) (le_words (2 * n - 1) bound) in
    tells (given kind bound n) (
      λ t. let (one, other) = parts.says.0 t in record { numbers = r; one = one; two = λ e. other (λ o. omega arith) },
      λ g. parts.says.1 (g.one, word_room g),
    )
