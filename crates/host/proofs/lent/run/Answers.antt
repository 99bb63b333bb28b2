-- The proposals that the slice holds are lent to the run; a schedule with a byte at the last index is refused and nothing is written.
use Prim.Native.Nat.{ℕ}
use mathlib.Core.Path.{sym, ap, ◌∙◌}
use mathlib.Core.List.{List}
use mathlib.Core.Bool.{cond}
use native.Mathlib.Omega.{arith}
use lib.Dec.{eqb}
use lib.ListN.{length}
use Rattle.answers.specs.Answers.{Answer}
use Rattle.steps.specs.Run.{run_answer, run_out}
use Rattle.image.specs.Image.{proposals_in}
use Rattle.host.specs.Calls.{unless_unopened, proposals_for, last_index, heard}
use Rattle.image.proofs.Filling.{lent}
use Rattle.host.proofs.Heard.{unheard, heard_some}
use Rattle.host.proofs.HostRun.{run_is, out_is, bad_any, bad_kept}
use Rattle.host.proofs.lent.run.Goals as goal

pub returns-then-schedule-gt-LAST_INDEX : goal.returns-then-schedule-gt-LAST_INDEX
returns-then-schedule-gt-LAST_INDEX c =
    let a = c.args in
    let sheet = a.sheet.now in
    let bytes = a.proposals.now in
    let out = a.out.now in
    let given = c.proposals_from-given in
    let held = lent bytes given.ensures.count_value given.ensures.numbers_value c.as_slice.ensures in
    let h = heard a.schedule.now in
    let bad = heard_some last_index sheet (proposals_in bytes) a.schedule.now (omega (arith, c.if-schedule-gt-LAST_INDEX.true)) in
    let told = ap (λ (xs : List ℕ). run_answer sheet xs h 0) held in
    record {
      answer = c.run_long.ensures ∙ told ∙ bad_any sheet bytes h out bad 0;
      out_after = bad_kept sheet bytes h out bad (run_out sheet (proposals_for sheet bytes) a.schedule.now out);
    }

pub returns : goal.returns
returns c =
    let a = c.args in
    let sheet = a.sheet.now in
    let bytes = a.proposals.now in
    let out = a.out.now in
    let given = c.proposals_from-given in
    let held = lent bytes given.ensures.count_value given.ensures.numbers_value c.as_slice-2.ensures in
    let numbers = proposals_for sheet bytes in
    let all = sym (unheard last_index a.schedule.now c.if-schedule-gt-LAST_INDEX.false) in
    let answer : List ℕ → Answer = λ s. unless_unopened sheet bytes (run_answer sheet numbers s (length out)) in
    let told =
    c.run.ensures.result_value
    ∙ ap (λ (xs : List ℕ). run_answer sheet xs a.schedule.now (length out)) held
    ∙ run_is sheet bytes a.schedule.now (length out)
    ∙ ap answer all in
    let left =
    c.run.ensures.out_after
    ∙ ap (λ (xs : List ℕ). run_out sheet xs a.schedule.now out) held
    ∙ out_is sheet bytes a.schedule.now out
    ∙ ap (λ (s : List ℕ). cond (eqb (answer s).number 0) (run_out sheet numbers a.schedule.now out) out) all in
    record { answer = told; out_after = left }
