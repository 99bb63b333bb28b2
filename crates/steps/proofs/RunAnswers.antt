-- A run's answer is of the first test that fails: where the tests before pass, it is what the next one decides, and a refusal leaves the output.
use Rattle.std.specs.Prelude.{Result, Err}
use Prim.Native.Nat.{ℕ, ◌-◌, ◌≤◌, ◌<◌}
use mathlib.Core.Path.{◌≡◌, refl, sym, ap, ◌∙◌}
use mathlib.Core.List.{List, ◌++◌}
use mathlib.Core.Bool.{cond}
use mathlib.Core.Logic.{◌≢◌}
use borrow.Author.Tests.{lt-ltb, le-ltb, eq-eqb, ne_eqb}
use lib.Dec.{ltb, eqb}
use lib.ListN.{length, drop}
use Rattle.sheet.specs.Rows.{parties_of}
use Rattle.sheet.specs.Lists.{first_bad}
use Rattle.answers.specs.Answers.{Answer, answer, done, answer_of}
use Rattle.answers.specs.declared.Refusal.{Refusal}
use Rattle.state.specs.Opening.{open_answer}
use Rattle.answers.proofs.Refused.{refused_number}
use Rattle.record.specs.Record.{record_length, record_bytes}
use Rattle.steps.specs.Run.{byte_ok, run_answer, ran, run_out}

module _ (sheet proposals schedule out : List ℕ) where
  abbrev bad : ℕ
  bad = first_bad (byte_ok (parties_of sheet)) 1 schedule

  -- what the schedule and the output decide, where the opening answers o
  run_at : Answer → Answer
  run_at o =
      cond (eqb o.number 0)
      (cond (eqb bad 0) (cond (ltb (length out) (record_length (parties_of sheet))) (answer 11 0) done) (answer 8 (bad - 1)))
      o

  -- the output where the run answers a
  out_at : Answer → List ℕ
  out_at a =
      cond (eqb a.number 0)
      (record_bytes (parties_of sheet) (ran sheet proposals schedule).parties ++ drop (record_length (parties_of sheet)) out)
      out

  -- ---- the answer

  pub run_unopened : (v : Result (Unit {0}) Refusal) (r : Refusal) → v ≡ Err r → answer_of v ≡ open_answer sheet proposals
      → answer_of v ≡ run_answer sheet proposals schedule (length out)
  unfolding run_at
  run_unopened v r o e = sym (ap run_at (sym e) ∙ rw (refused_number (answer_of v) v r refl o))

  module _ (opened : done ≡ open_answer sheet proposals) where
    pub run_unscheduled : bad ≢ 0 → answer 8 (bad - 1) ≡ run_answer sheet proposals schedule (length out)
    unfolding run_at
    run_unscheduled n = sym (ap run_at (sym opened) ∙ rw (ne_eqb bad 0 n))

    pub run_unfit : bad ≡ 0 → length out < record_length (parties_of sheet) → answer 11 0 ≡ run_answer sheet proposals schedule (length out)
    unfolding run_at
    run_unfit e l = sym (ap run_at (sym opened) ∙ rw (eq-eqb bad 0 e, lt-ltb (length out) (record_length (parties_of sheet)) l))

    pub run_done : bad ≡ 0 → record_length (parties_of sheet) ≤ length out → done ≡ run_answer sheet proposals schedule (length out)
    unfolding run_at
    run_done e l = sym (ap run_at (sym opened) ∙ rw (eq-eqb bad 0 e, le-ltb (length out) (record_length (parties_of sheet)) l))

  -- ---- the output

  -- a result that refuses, and the output as it was
  pub run_refused : (v : Result (Unit {0}) Refusal) (r : Refusal) → v ≡ Err r → answer_of v ≡ run_answer sheet proposals schedule (length out)
      → (answer_of v ≡ run_answer sheet proposals schedule (length out)) × (out ≡ run_out sheet proposals schedule out)
  unfolding out_at
  run_refused v r o e = (e, sym (ap out_at (sym e) ∙ rw (refused_number (answer_of v) v r refl o)))

  pub out_written : done ≡ run_answer sheet proposals schedule (length out)
      → record_bytes (parties_of sheet) (ran sheet proposals schedule).parties ++ drop (record_length (parties_of sheet)) out
      ≡ run_out sheet proposals schedule out
  unfolding out_at
  out_written e = ap out_at e
