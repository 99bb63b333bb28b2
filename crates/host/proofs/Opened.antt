-- A slice holds N proposals of an accepted sheet exactly where it is of 4 × N bytes, so the host opens and refuses as a session does.
use Prim.Native.Nat.{ℕ, ◌*◌, ◌≤◌}
use mathlib.Core.Path.{◌≡◌, refl, sym, ap, ◌∙◌}
use mathlib.Core.Logic.{◌↔◌, ◌⊎◌, inl, inr, ⊎_elim}
use mathlib.Core.List.{List}
use mathlib.Core.Bool.{Bool, true, false, cond}
use native.Mathlib.Decide.{ℕ_discrete}
use native.Mathlib.Omega.{arith}
use borrow.Author.Tests.{eq-eqb, ne_eqb}
use lib.Dec.{eqb}
use lib.ListN.{length}
use Rattle.sheet.specs.Rows.{parties_of}
use Rattle.sheet.specs.Bytes.{num}
use Rattle.answers.specs.Answers.{Answer, done}
use Rattle.rules.specs.Check.{check_answer}
use Rattle.sheet.proofs.Folds.{held, failed}
use Rattle.state.specs.Opening.{open_answer}
use Rattle.state.proofs.FormWords.{accepted_says}
use Rattle.sheet.proofs.Ranges.{length_range}
use Rattle.steps.proofs.RunSays.{check_most}
use Rattle.image.specs.Image.{proposals_of, proposal_count, proposals_in}
use Rattle.image.proofs.Counts.{counted}
use Rattle.host.specs.Calls.{unless_unopened, proposals_for}

-- what is chosen where a test is passed has a property, and what where it is not
pub chosen : {A : Type 0} (P : A → Type 0) {x y : A} (b : Bool) → (b ≡ true → P x) → (b ≡ false → P y) → P (cond b x y)
chosen P true f g = f refl
chosen P false f g = g refl

module _ (sheet : List ℕ) where
  abbrev ok : Bool
  ok = eqb (check_answer sheet).number 0

  abbrev n : ℕ
  n = parties_of sheet

  abbrev Most : ℕ → Answer → Type 0
  Most k a = a.number ≤ k

  -- an opening is refused with at most 7
  pub open_most : (xs : List ℕ) → (open_answer sheet xs).number ≤ 7
  open_most xs =
      chosen (Most 7) ok (λ _. chosen (Most 7) (eqb (length xs) n) (λ _. omega arith) (λ _. omega arith)) (λ _. omega (arith, check_most sheet))

  -- ---- the proposals that the bytes hold

  module _ (bytes : List ℕ) where
    abbrev count : ℕ
    count = proposal_count (length bytes)

    abbrev xs : List ℕ
    xs = proposals_in bytes

    abbrev pub Opens : Type 0
    Opens = (open_answer sheet xs ≡ done) × (xs ≡ proposals_for sheet bytes) × ((rest : Answer) → unless_unopened sheet bytes rest ≡ rest)

    abbrev pub Refuses : Type 0
    Refuses = (eqb (open_answer sheet xs).number 0 ≡ false) × ((rest : Answer) → unless_unopened sheet bytes rest ≡ open_answer sheet xs)

    size : length xs ≡ count
    size = length_range (λ j. num bytes (4 * j) 4) 0 count

    -- past the check
    module _ (e : ok ≡ true) where
      same : (count ≡ n) ↔ (length bytes ≡ 4 * n)
      same =
          let header = ((accepted_says sheet).0 (held ok e)).before.before.before.header in
          (counted (length bytes)).fits n header.parties_least header.parties_most

      by_count : Dec (length bytes ≡ 4 * n) → Opens ⊎ Refuses
      by_count (yes d) =
          let is = same.1 d in
          let all = eq-eqb (length xs) n (size ∙ is) in
          let long = eq-eqb (length bytes) (4 * n) d in
          inl (rw (e, all), ap (λ (k : ℕ). proposals_of k bytes) is, λ rest. rw (e, long))
      by_count (no d) =
          let some = ne_eqb (length xs) n (λ z. d (same.0 (sym size ∙ z))) in
          let other = ne_eqb (length bytes) (4 * n) d in
          inr (rw (e, some), λ rest. rw (e, some, other))

    pub lent : Opens ⊎ Refuses
    lent = by ok refl
      where
        by : (o : Bool) → ok ≡ o → Opens ⊎ Refuses
        by true e = by_count e (ℕ_discrete (length bytes) (4 * n))
        by false e = inr (rw (e, e), λ rest. rw e)

    is_done : Answer → Bool
    is_done a = eqb a.number 0

    -- not both
    apart : open_answer sheet xs ≡ done → is_done (open_answer sheet xs) ≡ false → ⊥
    unfolding is_done
    apart e f = failed (is_done (open_answer sheet xs)) f (held (is_done (open_answer sheet xs)) (ap is_done e))

    pub if_opened : open_answer sheet xs ≡ done → Opens
    unfolding is_done
    if_opened e = ⊎_elim (λ z. z) (λ z. absurd (apart e z.0)) lent

    pub if_refused : eqb (open_answer sheet xs).number 0 ≡ false → Refuses
    unfolding is_done
    if_refused f = ⊎_elim (λ z. absurd (apart z.0 f)) (λ z. z) lent
