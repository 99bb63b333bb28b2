-- A schedule that has a byte at an index which counts as bad is refused as its part before that byte is, or at that byte.
use Prim.Native.Nat.{ℕ, suc, ◌+◌, ◌-◌, ◌≤◌, ◌<◌}
use mathlib.Core.Path.{◌≡◌, refl, sym, ap, ◌∙◌}
use mathlib.Core.Logic.{◌≢◌, ◌⊎◌, inl, inr, ⊎_elim}
use mathlib.Core.List.{List, [], ◌∷◌, ◌++◌}
use mathlib.Core.Bool.{Bool, true, false, cond}
use native.Mathlib.Nat.{add-zero}
use native.Mathlib.Omega.{arith}
use borrow.Author.Tests.{lt-ltb, le-ltb, eq-eqb, ne_eqb}
use lib.Dec.{ltb, eqb, T}
use lib.ListN.{length, take, drop}
use lib.Seq.{length-take-le}
use Rattle.sheet.specs.Rows.{parties_of}
use Rattle.sheet.specs.Lists.{first_bad}
use Rattle.answers.specs.Answers.{Answer, answer, done}
use Rattle.sheet.proofs.Folds.{either, held, failed}
use Rattle.sheet.proofs.FirstBad.{first_on, first_here}
use Rattle.state.specs.Opening.{open_answer}
use Rattle.record.specs.Record.{record_length}
use Rattle.steps.specs.Run.{byte_ok, run_answer}
use Rattle.host.specs.Word.{answer_word}
use Rattle.host.specs.Calls.{bad_at}
use Rattle.host.proofs.Opened.{open_most}

-- the first bad element is one of the front's, or the bad one behind it
first_joined : {A : Type 0} (f : A → Bool) (a : ℕ) (xs : List A) (x : A) (ys : List A) → 1 ≤ a → (T (f x) → ⊥)
    → first_bad f a (xs ++ (x ∷ ys)) ≡ (let r = first_bad f a xs in cond (eqb r 0) (a + length xs) r)
first_joined f a [] x ys one bad = first_here f a x ys bad ∙ sym (add-zero a)
first_joined f a (z ∷ zs) x ys one bad =
    ⊎_elim
    (λ t.
    let e = first_on f a z zs t in
    let further : suc a + length zs ≡ a + suc (length zs) = omega arith in
    first_on f a z (zs ++ (x ∷ ys)) t
    ∙ first_joined f (suc a) zs x ys (omega arith) bad
    ∙ ap (λ (r : ℕ). cond (eqb r 0) (suc a + length zs) r) (sym e)
    ∙ ap (λ (k : ℕ). let r = first_bad f a (z ∷ zs) in cond (eqb r 0) k r) further)
    (λ t.
    let e = first_here f a z zs t in
    first_here f a z (zs ++ (x ∷ ys)) t
    ∙ sym (ap (λ (r : ℕ). cond (eqb r 0) (a + suc (length zs)) r) e ∙ rw (ne_eqb a 0 (λ z. omega arith))))
    (either (f z))

-- a schedule that has no such byte is heard as it is
pub unheard : (last : ℕ) (schedule : List ℕ) → length schedule ≤ last → bad_at last schedule ≡ schedule
unheard last schedule l = rw (le-ltb last (length schedule) l)

-- a word that is 11 is of number 11
number_11 : (a : Answer) → answer_word a ≡ 11 → a.number ≡ 11
number_11 a e = omega (arith, e)

module _ (last : ℕ) (sheet xs schedule : List ℕ) (long : last < length schedule) where
  abbrev front : List ℕ
  front = take last schedule

  abbrev ok : ℕ → Bool
  ok = byte_ok (parties_of sheet)

  abbrev bad : ℕ
  bad = first_bad ok 1 front

  is_heard : bad_at last schedule ≡ front ++ (0 ∷ drop (suc last) schedule)
  is_heard = rw (lt-ltb last (length schedule) long)

  pub heard_bad : first_bad ok 1 (bad_at last schedule) ≡ cond (eqb bad 0) (1 + last) bad
  heard_bad =
      ap (first_bad ok 1) is_heard
      ∙ first_joined ok 1 front 0 (drop (suc last) schedule) (omega arith) (λ t. t)
      ∙ ap (λ (k : ℕ). cond (eqb bad 0) (1 + k) bad) (length-take-le last schedule (omega arith))

  pub heard_some : first_bad ok 1 (bad_at last schedule) ≢ 0
  heard_some z = by (eqb bad 0) refl (sym heard_bad ∙ z)
    where
      by : (b : Bool) → eqb bad 0 ≡ b → cond b (1 + last) bad ≡ 0 → ⊥
      by true d e = omega arith
      by false d e = failed (eqb bad 0) d (held (eqb bad 0) (eq-eqb bad 0 e))

  -- what the run of the front answers with no room for a record, and what the run of the schedule answers
  abbrev fronts : Answer
  fronts = run_answer sheet xs front 1

  abbrev whole : Answer
  whole = run_answer sheet xs (bad_at last schedule) 0

  abbrev Cases : Type 0
  Cases = ((fronts ≡ answer 11 0) × (whole ≡ answer 8 last)) ⊎ ((fronts.number ≢ 11) × (fronts ≡ whole))

  -- where the opening is not refused
  module _ (e : eqb (open_answer sheet xs).number 0 ≡ true) where
    whole_at : ℕ → Answer
    whole_at b = cond (eqb b 0) (cond (ltb 0 (record_length (parties_of sheet))) (answer 11 0) done) (answer 8 (b - 1))

    whole_is : whole ≡ whole_at (cond (eqb bad 0) (1 + last) bad)
    unfolding whole_at
    whole_is = rw e (ap whole_at heard_bad)

    good_front : eqb bad 0 ≡ true → Cases
    unfolding whole_at
    good_front d =
        let behind : 1 + last - 1 ≡ last = omega arith in
        let at : whole_at (1 + last) ≡ answer 8 last = rw (ne_eqb (1 + last) 0 (λ z. omega arith), behind) in
        inl (
          rw (e, d, lt-ltb 1 (record_length (parties_of sheet)) (omega arith)),
          whole_is ∙ ap (λ (t : Bool). whole_at (cond t (1 + last) bad)) d ∙ at,
        )

    bad_front : eqb bad 0 ≡ false → Cases
    unfolding whole_at
    bad_front d =
        let is : fronts ≡ answer 8 (bad - 1) = rw (e, d) in
        let at : whole_at bad ≡ answer 8 (bad - 1) = rw d in
        inr (
          λ z. let w = sym (ap (λ (a : Answer). a.number) is) ∙ z in absurd (omega arith),
          is ∙ sym (whole_is ∙ ap (λ (t : Bool). whole_at (cond t (1 + last) bad)) d ∙ at),
        )

  cases : Cases
  cases = by (eqb (open_answer sheet xs).number 0) refl (eqb bad 0) refl
    where
      by : (o : Bool) → eqb (open_answer sheet xs).number 0 ≡ o → (b : Bool) → eqb bad 0 ≡ b → Cases
      by true e true d = good_front e d
      by true e false d = bad_front e d
      by false e b d =
          let is : fronts ≡ open_answer sheet xs = rw e in
          let most = open_most sheet xs in
          inr (λ z. let w = sym (ap (λ (a : Answer). a.number) is) ∙ z in absurd (omega arith), is ∙ sym (rw e))

  -- the front's answer is the whole's, or 11, and then the bad byte is the first
  pub bad_behind : fronts.number ≡ 11 → answer 8 last ≡ whole
  bad_behind z = by cases
    where
      by : Cases → answer 8 last ≡ whole
      by (inl x) = sym x.1
      by (inr x) = absurd (x.0 z)

  pub bad_before : fronts.number ≢ 11 → fronts ≡ whole
  bad_before n = by cases
    where
      by : Cases → fronts ≡ whole
      by (inl x) = absurd (n (ap (λ (a : Answer). a.number) x.0))
      by (inr x) = x.1

  -- the same of the words that say them
  module _ (w : ℕ) (e : w ≡ answer_word fronts) where
    pub word_behind : w ≡ 11 → answer_word (answer 8 last) ≡ answer_word whole
    word_behind z = ap answer_word (bad_behind (number_11 fronts (sym e ∙ z)))

    pub word_before : w ≢ 11 → w ≡ answer_word whole
    word_before n = by cases
      where
        by : Cases → w ≡ answer_word whole
        by (inl x) = absurd (n (e ∙ ap answer_word x.0))
        by (inr x) = e ∙ ap answer_word x.1
