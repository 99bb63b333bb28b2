-- The answer is of the first rule that fails: where the rules before hold, their tests pass, and the answer is what the next test decides.
use Prim.Native.Nat.{ℕ, zero, suc, ◌≤◌, ◌<◌}
use mathlib.Core.Path.{◌≡◌, refl, sym, ◌∙◌, subst}
use mathlib.Core.Logic.{◌⊎◌, inl, inr, ⊎_elim, ◌↔◌}
use mathlib.Core.List.{List}
use mathlib.Core.Bool.{Bool, true, false, not, cond}
use native.Mathlib.Nat.{lt_of_not-le}
use borrow.Author.Tests.{lt-ltb, le-ltb, ne_eqb, eqb-false}
use lib.Dec.{T, leb, ltb, eqb}
use lib.ListN.{length, get_or}
use Rattle.answers.specs.Answers.{Answer, answer, done}
use Rattle.sheet.specs.Lists.{first_bad}
use Rattle.sheet.specs.Rows.{Layout, layout_of, slots}
use Rattle.rules.specs.Rules.{row_rule, writer_rule}
use Rattle.rules.specs.Check.{header_ok, length_ok, unless_row, unless_unfit, check_answer}
use Rattle.sheet.specs.Words.{IsSlot}
use Rattle.rules.specs.Words.{RowRule, WriterRule, Every, FirstFailing, Rules1, Rules2, Rules3, Rules4, Rules5, Rules6}
use Rattle.rules.specs.Says.{CheckSays}
use Rattle.sheet.specs.declared.rows.Slot.{Slot}
use Rattle.sheet.proofs.Folds.{holds, fails}
use Rattle.sheet.proofs.FirstBad.{first_every, first_row}
use Rattle.sheet.proofs.TestWords.{Tells, tells, decide, eq_words, le_words}
use Rattle.rules.proofs.RuleWords.{header_says, length_says, row_says, writer_says}

-- ---- the first row that fails, in words

module _ (l : Layout) (f : Slot → Bool) (R : Layout → Slot → Type 0) (e : (p : Slot) → IsSlot l.parties p → T (f p) ↔ R l p) where
  every_says : first_bad f 1 (slots l.parties) ≡ 0 ↔ Every R l
  every_says =
      let says = first_every f l.parties in
      (λ z p s. (e p s).0 (says.0 z p s), λ g. says.1 (λ p s. (e p s).1 (g p s)))

  failing_says : (k : ℕ) → 1 ≤ l.parties → (first_bad f 1 (slots l.parties) ≡ k) × (k ≡ 0 → ⊥) ↔ FirstFailing R l k
  failing_says k one =
      let says = first_row f l.parties k one in (
        λ z.
            let b = says.0 z in
            record {
              slot = b.slot;
              is_slot = b.is_slot;
              number = b.number;
              fails = λ r. b.fails ((e b.slot b.is_slot).1 r);
              earlier = λ q s h. (e q s).0 (b.earlier q s h);
            },
        λ b.
            says.1
            (record {
              slot = b.slot;
              is_slot = b.is_slot;
              number = b.number;
              fails = λ t. b.fails ((e b.slot b.is_slot).0 t);
              earlier = λ q s h. (e q s).1 (b.earlier q s h);
            }),
      )

-- ---- the answer where the rules before hold

module _ (s : List ℕ) where
  abbrev pub rows : ℕ
  rows = first_bad (row_rule (layout_of s)) 1 (slots (layout_of s).parties)

  abbrev pub writers : ℕ
  writers = first_bad (writer_rule (layout_of s)) 1 (slots (layout_of s).parties)

  pub says_1 : Tells (leb 8 (length s)) (Rules1 s)
  says_1 = let e = (le_words 8 (length s)).says in tells _ (λ t. record { whole = e.0 t }, λ r. e.1 r.whole)

  pub says_2 : Rules1 s → Tells (eqb (get_or s 2 0) 1) (Rules2 s)
  says_2 r = let e = (eq_words (get_or s 2 0) 1).says in tells _ (λ t. record { before = r; version = e.0 t }, λ q. e.1 q.version)

  pub says_3 : Rules2 s → Tells (header_ok (layout_of s)) (Rules3 s)
  says_3 r = let e = header_says (layout_of s) in tells _ (λ t. record { before = r; header = e.0 t }, λ q. e.1 q.header)

  pub says_4 : Rules3 s → Tells (length_ok s) (Rules4 s)
  says_4 r = let e = length_says s in tells _ (λ t. record { before = r; lengths = e.0 t }, λ q. e.1 q.lengths)

  pub every_5 : Rules4 s → rows ≡ 0 ↔ Every RowRule (layout_of s)
  every_5 r = every_says (layout_of s) (row_rule (layout_of s)) RowRule (row_says (layout_of s) r.before.header)

  pub fails_5 : Rules4 s → (k : ℕ) → (rows ≡ k) × (k ≡ 0 → ⊥) ↔ FirstFailing RowRule (layout_of s) k
  fails_5 r k =
      failing_says (layout_of s) (row_rule (layout_of s)) RowRule (row_says (layout_of s) r.before.header) k r.before.header.parties_least

  pub every_6 : Rules5 s → writers ≡ 0 ↔ Every WriterRule (layout_of s)
  every_6 r = every_says (layout_of s) (writer_rule (layout_of s)) WriterRule (writer_says (layout_of s) r.before.before.header r.rows)

  pub fails_6 : Rules5 s → (k : ℕ) → (writers ≡ k) × (k ≡ 0 → ⊥) ↔ FirstFailing WriterRule (layout_of s) k
  fails_6 r k =
      let h = r.before.before.header in
      failing_says (layout_of s) (writer_rule (layout_of s)) WriterRule (writer_says (layout_of s) h r.rows) k h.parties_least

  -- what the later rules decide
  module _ (after : Answer) where
    abbrev from_4 : Answer
    from_4 = cond (not (length_ok s)) (answer 4 0) (unless_row 5 rows after)

    abbrev from_3 : Answer
    from_3 = cond (not (header_ok (layout_of s))) (answer 3 0) from_4

    pub at_1 : (Rules1 s → ⊥) → unless_unfit s after ≡ answer 1 0
    at_1 n = let h : length s < 8 = lt_of_not-le (λ e. n (record { whole = e })) in rw (lt-ltb (length s) 8 h)

    past_1 : Rules1 s → unless_unfit s after ≡ cond (not (eqb (get_or s 2 0) 1)) (answer 2 0) from_3
    past_1 r = rw (le-ltb (length s) 8 r.whole)

    pub at_2 : Rules1 s → (Rules2 s → ⊥) → unless_unfit s after ≡ answer 2 0
    at_2 r n = past_1 r ∙ rw (fails (eqb (get_or s 2 0) 1) (λ t. n ((says_2 r).says.0 t)))

    past_2 : Rules2 s → unless_unfit s after ≡ from_3
    past_2 r = past_1 r.before ∙ rw (holds (eqb (get_or s 2 0) 1) ((says_2 r.before).says.1 r))

    pub at_3 : Rules2 s → (Rules3 s → ⊥) → unless_unfit s after ≡ answer 3 0
    at_3 r n = past_2 r ∙ rw (fails (header_ok (layout_of s)) (λ t. n ((says_3 r).says.0 t)))

    past_3 : Rules3 s → unless_unfit s after ≡ from_4
    past_3 r = past_2 r.before ∙ rw (holds (header_ok (layout_of s)) ((says_3 r.before).says.1 r))

    pub at_4 : Rules3 s → (Rules4 s → ⊥) → unless_unfit s after ≡ answer 4 0
    at_4 r n = past_3 r ∙ rw (fails (length_ok s) (λ t. n ((says_4 r).says.0 t)))

    past_4 : Rules4 s → unless_unfit s after ≡ unless_row 5 rows after
    past_4 r = past_3 r.before ∙ rw (holds (length_ok s) ((says_4 r.before).says.1 r))

    pub at_5 : Rules4 s → (k : ℕ) → FirstFailing RowRule (layout_of s) k → unless_unfit s after ≡ answer 5 k
    at_5 r k f = let (e, z) = (fails_5 r k).1 f in past_4 r ∙ rw (e, ne_eqb k 0 z)

    pub past_5 : Rules5 s → unless_unfit s after ≡ after
    past_5 r = past_4 r.before ∙ rw ((every_5 r.before).1 r.rows)

  -- what the writer rule decides
  abbrev from_6 : Answer
  from_6 = unless_row 6 writers done

  pub at_6 : Rules5 s → (k : ℕ) → FirstFailing WriterRule (layout_of s) k → check_answer s ≡ answer 6 k
  at_6 r k f = let (e, z) = (fails_6 r k).1 f in past_5 from_6 r ∙ rw (e, ne_eqb k 0 z)

  pub past_6 : Rules6 s → check_answer s ≡ done
  past_6 r = past_5 from_6 r.before ∙ rw ((every_6 r.before).1 r.writers)

  pub rows_of_none : Rules4 s → first_bad (row_rule (layout_of s)) 1 (slots (layout_of s).parties) ≡ 0 → Rules5 s
  rows_of_none r e = record { before = r; rows = (every_5 r).0 e }

-- ---- what an answer tells

abbrev Told : List ℕ → ℕ → ℕ → Type 0
Told s zero k = Rules6 s
Told s (suc zero) k = Rules1 s → ⊥
Told s (suc (suc zero)) k = Rules1 s × (Rules2 s → ⊥)
Told s (suc (suc (suc zero))) k = Rules2 s × (Rules3 s → ⊥)
Told s (suc (suc (suc (suc zero)))) k = Rules3 s × (Rules4 s → ⊥)
Told s (suc (suc (suc (suc (suc zero))))) k = Rules4 s × FirstFailing RowRule (layout_of s) k
Told s (suc (suc (suc (suc (suc (suc n)))))) k = Rules5 s × FirstFailing WriterRule (layout_of s) k

module _ (s : List ℕ) where
  says : Answer → Type 0
  says a = Told s a.number a.position

  put : {a b : Answer} → a ≡ b → says b → says a
  put e t = subst says (sym e) t

  -- the rules but the writer rule hold, or one of their refusals is due, whatever comes after
  fit_or : Rules5 s ⊎ ((after : Answer) → says (unless_unfit s after))
  unfolding says
  fit_or = ⊎_elim second (λ n. inr (λ a. put (at_1 s a n) n)) (decide (says_1 s))
    where
      fifth : Rules4 s → Rules5 s ⊎ ((after : Answer) → says (unless_unfit s after))
      fifth r =
          ⊎_elim
          (λ e. inl (rows_of_none s r e))
          (λ n. let f = (fails_5 s r (rows s)).0 (refl, n) in inr (λ a. put (at_5 s a r (rows s) f) (r, f)))
          (decide (eq_words (rows s) 0))

      fourth : Rules3 s → Rules5 s ⊎ ((after : Answer) → says (unless_unfit s after))
      fourth r = ⊎_elim fifth (λ n. inr (λ a. put (at_4 s a r n) (r, n))) (decide (says_4 s r))

      third : Rules2 s → Rules5 s ⊎ ((after : Answer) → says (unless_unfit s after))
      third r = ⊎_elim fourth (λ n. inr (λ a. put (at_3 s a r n) (r, n))) (decide (says_3 s r))

      second : Rules1 s → Rules5 s ⊎ ((after : Answer) → says (unless_unfit s after))
      second r = ⊎_elim third (λ n. inr (λ a. put (at_2 s a r n) (r, n))) (decide (says_2 s r))

  told : says (check_answer s)
  unfolding says
  told =
      ⊎_elim
      (λ r.
      ⊎_elim
      (λ e. let all : Rules6 s = record { before = r; writers = (every_6 s r).0 e } in put (past_6 s all) all)
      (λ n. let f = (fails_6 s r (writers s)).0 (refl, n) in put (at_6 s r (writers s) f) (r, f))
      (decide (eq_words (writers s) 0)))
      (λ g. g (from_6 s))
      fit_or

  -- where none of the refusals 1 to 5 is due, those rules hold
  pub fit_says : unless_unfit s done ≡ done → Rules5 s
  unfolding says
  fit_says e = ⊎_elim (λ r. r) (λ g. let all : Rules6 s = subst says e (g done) in all.before) fit_or

pub check_says : (s : List ℕ) → CheckSays s
unfolding says
check_says s =
    record {
      accepted = (tell, past_6 s);
      one = (tell, at_1 s (from_6 s));
      two = (tell, λ (r, n). at_2 s (from_6 s) r n);
      three = (tell, λ (r, n). at_3 s (from_6 s) r n);
      four = (tell, λ (r, n). at_4 s (from_6 s) r n);
      five = λ k. (tell, λ (r, f). at_5 s (from_6 s) r k f);
      six = λ k. (tell, λ (r, f). at_6 s r k f);
    }
  where
    tell : {a : Answer} → check_answer s ≡ a → says s a
    tell e = subst (says s) e (told s)

-- ---- a refusal of 1 to 5 stays, whatever comes after

unfit_tests : (a b c d : Bool) (k : ℕ) (none : Bool) (after : Answer) → eqb k 0 ≡ none
    → eqb (cond a (answer 1 0) (cond b (answer 2 0) (cond c (answer 3 0) (cond d (answer 4 0) (cond none done (answer 5 k)))))).number 0 ≡ false
    → cond a (answer 1 0) (cond b (answer 2 0) (cond c (answer 3 0) (cond d (answer 4 0) (cond none done (answer 5 k)))))
    ≡ cond a (answer 1 0) (cond b (answer 2 0) (cond c (answer 3 0) (cond d (answer 4 0) (cond none after (answer 5 k)))))
unfit_tests true b c d k none after e n = refl
unfit_tests false true c d k none after e n = refl
unfit_tests false false true d k none after e n = refl
unfit_tests false false false true k none after e n = refl
unfit_tests false false false false k false after e n = refl
unfit_tests false false false false k true after e n = absurd (eqb-false 0 0 n refl)

pub unfit_stays : (s : List ℕ) (after : Answer) → eqb (unless_unfit s done).number 0 ≡ false → unless_unfit s done ≡ unless_unfit s after
unfit_stays s after =
    unfit_tests (ltb (length s) 8) (not (eqb (get_or s 2 0) 1)) (not (header_ok (layout_of s))) (not (length_ok s)) (rows s) (eqb (rows s) 0) after refl
