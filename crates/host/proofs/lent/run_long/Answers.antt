-- The front of the schedule is run with no room for a record: where that alone refuses it, the byte behind the front is the first bad one.
use Rattle.std.proofs.Common.{sym, ap, ◌∙◌, arith}
use Rattle.std.proofs.lemmas.List.{length-take-le}
use Rattle.answers.specs.Answers.{Answer, number_of}
use Rattle.answers.proofs.Refused.{only_output}
use Rattle.host.specs.Calls.{last_index}
use Rattle.host.proofs.Heard.{bad_behind, bad_before}
use Rattle.host.proofs.lent.run_long.Goals as goal

pub slice_bounds-run-end : goal.slice_bounds-run-end
slice_bounds-run-end c = sym (length-take-le last_index c.args.schedule.now (omega (arith, c.requires)))

pub returns-in-Ok : goal.returns-in-Ok
returns-in-Ok c =
    let a = c.args in
    let fronts = c.in-Ok.ensures.result_value in
    fronts ∙ bad_before last_index a.sheet.now a.proposals.now a.schedule.now c.requires (λ z. omega (arith, ap (λ (x : Answer). x.number) fronts, z))

pub returns-in-Output : goal.returns-in-Output
returns-in-Output c =
    let a = c.args in
    let fronts = c.in-Err.ensures.result_value in
    bad_behind last_index a.sheet.now a.proposals.now a.schedule.now c.requires (sym (ap (λ (x : Answer). x.number) fronts) ∙ ap number_of c.in-Output.is)

pub returns-in_default : goal.returns-in_default
returns-in_default c =
    let a = c.args in
    let fronts = c.in-Err.ensures.result_value in
    fronts
    ∙ bad_before last_index a.sheet.now a.proposals.now a.schedule.now c.requires
    (λ z. c.in_default.not-Output (only_output c.in-Err.refusal (ap (λ (x : Answer). x.number) fronts ∙ z)))
