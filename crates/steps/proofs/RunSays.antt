-- A run's answer tells which tests came before it: each answer is given where its words hold, the cases leave no other, and the check's refusals are 1 to 6.
use Prim.Native.Nat.{ℕ, ◌-◌, ◌≤◌, ◌<◌}
use mathlib.Core.Path.{◌≡◌, refl, sym, ap, ◌∙◌, subst}
use mathlib.Core.Logic.{⊎_elim}
use mathlib.Core.List.{List}
use mathlib.Core.Bool.{Bool, true, false, not, cond}
use native.Mathlib.Omega.{arith}
use borrow.Author.Tests.{ne_eqb, eqb-false}
use lib.Dec.{ltb, eqb}
use lib.ListN.{length, get_or}
use Rattle.answers.specs.Answers.{Answer, answer, done}
use Rattle.sheet.specs.Rows.{layout_of, parties_of}
use Rattle.sheet.specs.Lists.{first_bad}
use Rattle.sheet.proofs.Folds.{fails, lt_or_le}
use Rattle.sheet.proofs.FirstBad.{first_none, none_first, first_at, first_found}
use Rattle.sheet.proofs.TestWords.{tells, decide, eq_words}
use Rattle.rules.specs.Check.{header_ok, length_ok, check_answer}
use Rattle.rules.specs.Words.{Rules6}
use Rattle.rules.proofs.Says.{rows, writers, past_6}
use Rattle.state.specs.Opening.{open_answer}
use Rattle.state.proofs.FormWords.{accepted_says}
use Rattle.state.proofs.Openings.{not_accepted, miscounted, opens}
use Rattle.record.specs.Record.{record_length}
use Rattle.steps.specs.Run.{byte_ok, run_answer}
use Rattle.steps.specs.RunSays.{Openable, Obeyable, FirstBadByte, RunSays}
use Rattle.steps.proofs.RunAnswers.{run_unscheduled, run_unfit, run_done, out_written}

-- ---- the check's refusals

one_of : (b : Bool) (x y : Answer) → x.number ≤ 6 → y.number ≤ 6 → (cond b x y).number ≤ 6
one_of true x y l h = l
one_of false x y l h = h

pub check_most : (s : List ℕ) → (check_answer s).number ≤ 6
check_most s =
    one_of (ltb (length s) 8) _ _ (omega arith)
    (one_of (not (eqb (get_or s 2 0) 1)) _ _ (omega arith)
    (one_of (not (header_ok (layout_of s))) _ _ (omega arith)
    (one_of (not (length_ok s)) _ _ (omega arith)
    (one_of (eqb (rows s) 0) _ _ (one_of (eqb (writers s) 0) _ _ (omega arith) (omega arith)) (omega arith)))))

-- where the opening refuses, so does the run
stays : (a o rest : Answer) → a ≡ o → eqb a.number 0 ≡ false → cond (eqb o.number 0) rest o ≡ a
stays a o rest e f = subst (λ (o : Answer). cond (eqb o.number 0) rest o ≡ a) e (rw f)

module _ (sheet proposals schedule out : List ℕ) where
  abbrev said : Answer
  said = run_answer sheet proposals schedule (length out)

  abbrev n : ℕ
  n = parties_of sheet

  abbrev bad : ℕ
  bad = first_bad (byte_ok n) 1 schedule

  -- ---- the answer where the words before hold

  not_0 : (Rules6 sheet → ⊥) → eqb (check_answer sheet).number 0 ≡ false
  not_0 refused = fails (eqb (check_answer sheet).number 0) (λ t. refused ((accepted_says sheet).0 t))

  at_check : (Rules6 sheet → ⊥) → said ≡ check_answer sheet
  at_check refused = stays (check_answer sheet) (open_answer sheet proposals) _ (not_accepted sheet proposals (not_0 refused)) (not_0 refused)

  at_7 : Rules6 sheet → (length proposals ≡ n → ⊥) → said ≡ answer 7 0
  at_7 r c = stays (answer 7 0) (open_answer sheet proposals) _ (miscounted sheet proposals (past_6 sheet r) c) refl

  opened : Openable sheet proposals → done ≡ open_answer sheet proposals
  opened (r, c) = opens sheet proposals (past_6 sheet r) c

  at_8 : Openable sheet proposals → (k : ℕ) → FirstBadByte n schedule k → said ≡ answer 8 k
  at_8 o k f =
      let e = first_at (byte_ok n) 0 1 k schedule f.index f.bad f.earlier in
      let last : bad - 1 ≡ k = omega arith in
      sym (run_unscheduled sheet proposals schedule out (opened o) (λ z. omega arith)) ∙ ap (λ (i : ℕ). answer 8 i) last

  none : Obeyable sheet proposals schedule → bad ≡ 0
  none g = first_none (byte_ok n) 1 schedule g.1

  at_11 : Obeyable sheet proposals schedule → length out < record_length n → said ≡ answer 11 0
  at_11 g short = sym (run_unfit sheet proposals schedule out (opened g.0) (none g) short)

  at_done : Obeyable sheet proposals schedule → record_length n ≤ length out → said ≡ done
  at_done g room = sym (run_done sheet proposals schedule out (opened g.0) (none g) room)

  -- ---- what an answer tells, by its number and position

  Told : ℕ → ℕ → Type 0
  Told m k =
      cond (eqb m 0) (Obeyable sheet proposals schedule × (record_length n ≤ length out))
      (cond (eqb m 7) (Rules6 sheet × (length proposals ≡ n → ⊥))
      (cond (eqb m 8) (Openable sheet proposals × FirstBadByte n schedule k)
      (cond (eqb m 11) (Obeyable sheet proposals schedule × (length out < record_length n)) (Unit {0}))))

  Says : Answer → Type 0
  Says a = Told a.number a.position

  put : {a : Answer} → said ≡ a → Says a → Says said
  put e t = subst Says (sym e) t

  -- of the check's refusals there is nothing to tell
  told_few : (m k : ℕ) → (m ≡ 0 → ⊥) → m ≤ 6 → Told m k
  unfolding Told
  told_few m k some few =
      rw (ne_eqb m 0 some, ne_eqb m 7 (λ e. omega arith), ne_eqb m 8 (λ e. omega arith), ne_eqb m 11 (λ e. omega arith)) tt

  told : Says said
  unfolding Told Says
  told = ⊎_elim second refuse (decide (tells (eqb (check_answer sheet).number 0) (accepted_says sheet)))
    where
      refuse : (Rules6 sheet → ⊥) → Says said
      refuse refused =
          let some = eqb-false (check_answer sheet).number 0 (not_0 refused) in
          put (at_check refused) (told_few (check_answer sheet).number (check_answer sheet).position some (check_most sheet))

      fourth : Obeyable sheet proposals schedule → Says said
      fourth g = ⊎_elim (λ short. put (at_11 g short) (g, short)) (λ room. put (at_done g room) (g, room)) (lt_or_le (length out) (record_length n))

      third : Openable sheet proposals → Says said
      third o =
          ⊎_elim
          (λ z. fourth (o, none_first (byte_ok n) 1 schedule (omega arith) z))
          (λ some.
          let r = first_found (byte_ok n) 0 1 schedule some in
          let f : FirstBadByte n schedule r.0 = record { index = r.2; bad = r.3; earlier = r.4 } in
          put (at_8 o r.0 f) (o, f))
          (decide (eq_words bad 0))

      second : Rules6 sheet → Says said
      second r = ⊎_elim (λ c. third (r, c)) (λ c. put (at_7 r c) (r, c)) (decide (eq_words (length proposals) n))

  -- number 0 is given where the run is done only
  pub run_tells : said.number ≡ 0 → Obeyable sheet proposals schedule × (record_length n ≤ length out)
  unfolding Told Says
  run_tells z = subst (λ (m : ℕ). Told m said.position) z told

  pub run_says : RunSays sheet proposals schedule out
  unfolding Told Says
  run_says =
      record {
        written = (tell, λ (g, room). at_done g room);
        unaccepted = λ refused. at_check (λ r. refused (past_6 sheet r));
        seven = (tell, λ (r, c). at_7 r c);
        eight = λ k. (tell, λ (o, f). at_8 o k f);
        eleven = (tell, λ (g, short). at_11 g short);
        output = λ e. sym (out_written sheet proposals schedule out (sym e));
        kept = λ refused. rw (ne_eqb said.number 0 (λ z. let (g, room) = run_tells z in refused (at_done g room)));
      }
    where
      tell : {a : Answer} → said ≡ a → Says a
      tell e = subst Says e told
