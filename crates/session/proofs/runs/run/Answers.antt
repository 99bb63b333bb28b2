-- Each refusal is that of the first test that fails, and then the output is untouched; past the tests the schedule is obeyed and the record written.
use Rattle.std.specs.Prelude.{Err}
use Prim.Native.Nat.{◌+◌, ◌-◌}
use mathlib.Core.Path.{◌≡◌, refl, sym, ap, ◌∙◌}
use mathlib.Core.List.{List, ◌++◌}
use native.Mathlib.Omega.{arith}
use lib.ListN.{drop}
use Rattle.sheet.specs.Rows.{parties_of}
use Rattle.answers.specs.Answers.{answer, done}
use Rattle.sheet.specs.Lists.{first_bad}
use Rattle.answers.specs.declared.Refusal.TheVariants.{Schedule, Output}
use Rattle.sheet.proofs.FirstBad.{none_first}
use Rattle.state.specs.Opening.{open_answer}
use Rattle.state.specs.declared.kept.Party.{Party}
use Rattle.state.proofs.Openings.{opens_says}
use Rattle.record.specs.Record.{record_bytes, record_length}
use Rattle.record.proofs.Records.{recorded}
use Rattle.steps.specs.Run.{byte_ok}
use Rattle.steps.proofs.RunAnswers.{run_unscheduled, run_unfit, run_done, run_refused, out_written}
use Rattle.session.proofs.runs.run.Goals as goal

pub returns-in-Some : goal.returns-in-Some
returns-in-Some c =
    let a = c.args in
    let sheet = a.sheet.now in
    let proposals = a.proposals.now in
    let schedule = a.schedule.now in
    let opening : done ≡ open_answer sheet proposals = c.in_ok-opens.ensures in
    let bad : first_bad (byte_ok (parties_of sheet)) 1 schedule ≡ c.in-Some.at + 1 = c.in-Some.ensures in
    let r = Schedule c.in-Some.at in
    let place : c.in-Some.at ≡ first_bad (byte_ok (parties_of sheet)) 1 schedule - 1 = omega (arith, bad) in
    let e = ap (answer 8) place ∙ run_unscheduled sheet proposals schedule a.out.now opening (λ none. omega (arith, bad, none)) in
    let told = run_refused sheet proposals schedule a.out.now (Err r) r refl e in
    record { result_value = told.0; out_after = told.1 }

pub returns-then-out-record_length : goal.returns-then-out-record_length
returns-then-out-record_length c =
    let a = c.args in
    let sheet = a.sheet.now in
    let proposals = a.proposals.now in
    let schedule = a.schedule.now in
    let opening : done ≡ open_answer sheet proposals = c.in_ok-opens.ensures in
    let none = c.in_default.ensures in
    let e = run_unfit sheet proposals schedule a.out.now opening none (omega arith) in
    let told = run_refused sheet proposals schedule a.out.now (Err Output) Output refl e in
    record { result_value = told.0; out_after = told.1 }

pub obey-parties-requires : goal.obey-parties-requires
obey-parties-requires c =
    let a = c.args in
    let sheet = a.sheet.now in
    let proposals = a.proposals.now in
    let schedule = a.schedule.now in
    let opening : done ≡ open_answer sheet proposals = c.in_ok-opens.ensures in
    let says = opens_says sheet proposals (sym opening) in
    (says.0, refl, says.1, none_first (byte_ok (parties_of sheet)) 1 schedule (omega arith) c.in_default.ensures)

pub returns : goal.returns
returns c =
    let a = c.args in
    let sheet = a.sheet.now in
    let proposals = a.proposals.now in
    let schedule = a.schedule.now in
    let opening : done ≡ open_answer sheet proposals = c.in_ok-opens.ensures in
    let says = opens_says sheet proposals (sym opening) in
    let few = says.0.before.before.before.header.parties_most in
    let n = parties_of sheet in
    let none = c.in_default.ensures in
    let e = run_done sheet proposals schedule a.out.now opening none (omega arith) in
    record {
      result_value = e;
      out_after =
          recorded n _ a.out.now _ few (omega arith) c.put_record.ensures
          ∙ ap (λ (ps : List Party). record_bytes n ps ++ drop (record_length n) a.out.now) c.obey-parties.ensures
          ∙ out_written sheet proposals schedule a.out.now e;
    }
