-- The first pass keeps whether some byte so far is bad; where none is, there is no first one, and else the second pass stops at it.
use Rattle.std.proofs.Common.{rules, tests, ◌≡◌, ℕ, suc, ◌+◌, Bool, true, false, not, ◌||◌, cond, Option, Some, MatchOption, List, [], ◌∷◌, refl, sym, ◌∙◌, subst, fold, add-one}
use Rattle.std.proofs.lemmas.Iterator.{YieldsList-from_slice}
use Rattle.std.proofs.lemmas.Iterator.Consumers.{fold_from_yields_List}
use Rattle.std.proofs.lemmas.Iterator.Search.{position_from_yields_List}
use Rattle.std.proofs.lemmas.Iterator.Adapters.{position_from-zero}
use Rattle.std.specs.List.{position_from}
use Rattle.sheet.specs.Lists.{first_bad}
use Rattle.steps.specs.Run.{byte_ok}
use Rattle.sheet.proofs.Folds.{held, failed}
use Rattle.session.proofs.runs.first_bad_byte.Goals as goal

module _ {A : Type 0} (f : A → Bool) where
  -- what the first pass keeps
  abbrev some_bad : Bool → List A → Bool
  some_bad bad xs = fold (λ b x. b || not (f x)) bad xs

  stays_bad : (xs : List A) → some_bad true xs ≡ true
  stays_bad [] = refl
  stays_bad (x ∷ xs) = stays_bad xs

  none_bad : (a : ℕ) (xs : List A) → some_bad false xs ≡ false → first_bad f a xs ≡ 0
  none_bad a [] e = refl
  none_bad a (x ∷ xs) e = at_x _ (f x) e (none_bad (suc a) xs)
    where
      at_x : (first : ℕ) (b : Bool) → some_bad (not b) xs ≡ false → (some_bad false xs ≡ false → first ≡ 0) → cond b first a ≡ 0
      at_x first true e later = later e
      at_x first false e later = absurd (failed _ e (held _ (stays_bad xs)))

  -- o is the index of the first bad element, and none is bad where there is none
  abbrev Finds : ℕ → List A → Option ℕ → Type 0
  Finds a xs o = MatchOption o (first_bad f (suc a) xs ≡ 0) (λ k. first_bad f (suc a) xs ≡ k + 1)

  finds : (a : ℕ) (xs : List A) → Finds a xs (position_from (λ x. not (f x)) a xs)
  finds a [] = refl
  finds a (x ∷ xs) = at_x _ _ (f x) (rw (← add-one a) (finds (a + 1) xs))
    where
      at_x : (later : Option ℕ) (first : ℕ) (b : Bool) → MatchOption later (first ≡ 0) (λ k. first ≡ k + 1)
          → MatchOption (cond (not b) (Some a) later) (cond b first (suc a) ≡ 0) (λ k. cond b first (suc a) ≡ k + 1)
      at_x later first true there = there
      at_x later first false there = sym (add-one a)

pub returns-then-fold : goal.returns-then-fold
returns-then-fold c =
    let good = byte_ok c.args.n in
    let schedule = c.args.schedule.now in
    let found =
    position_from_yields_List (λ b. not (good b)) _ _ c.position.result c.position.ensures.ran (YieldsList-from_slice schedule (cc)) (λ x b q k. search (rules, tests))
    ∙ position_from-zero (λ b. not (good b)) schedule in
    subst (Finds good 0 schedule) (sym found) (finds good 0 schedule)

pub returns-else-fold : goal.returns-else-fold
returns-else-fold c =
    let good = byte_ok c.args.n in
    let schedule = c.args.schedule.now in
    let passed =
    fold_from_yields_List _ (λ bad b. bad || not (good b)) false c.fold.result c.fold.ensures.ran (YieldsList-from_slice schedule (cc))
    (λ bad x b q k. search (rules, tests)) in
    none_bad good 1 schedule (sym passed ∙ c.if-fold.false)
