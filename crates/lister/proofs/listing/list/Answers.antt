-- The sheet is the builder's, so the run's answer and record are those of the text's definition; each arm puts the text of its case.
use Rattle.std.proofs.Common.{ℕ, ◌≡◌, ◌∙◌, List, length, sym, ap, ap₂, Err}
use Rattle.answers.specs.Answers.{done, answer_of}
use Rattle.lister.specs.Text.{listing, refused_text}
use Rattle.lister.specs.Listed.{answered, recorded, listed}
use Rattle.lister.proofs.Outcomes.{listed_done, listed_refused}
use Rattle.lister.proofs.listing.list.Goals as goal

-- the text of the record of a run that is done
record_text : (schedule bytes : List ℕ) → done ≡ answered schedule → bytes ≡ recorded schedule → listing bytes (length schedule) ≡ listed schedule
record_text schedule bytes ok kept = ap (λ (b : List ℕ). listing b (length schedule)) kept ∙ sym (listed_done schedule (sym ok))

pub returns-in-Ok-clause-value : goal.returns-in-Ok-clause-value
returns-in-Ok-clause-value c =
    let ok : done ≡ answered c.args.schedule.now = rw c.build.ensures.out_after at c.in-Ok.ensures.result_value in
    let kept : c.run.new.out ≡ recorded c.args.schedule.now = rw c.build.ensures.out_after at c.in-Ok.ensures.out_after in
    c.put_listing.ensures.value ∙ ap length (record_text c.args.schedule.now c.run.new.out ok kept)

pub returns-in-Ok-clause-out_after : goal.returns-in-Ok-clause-out_after
returns-in-Ok-clause-out_after c =
    let ok : done ≡ answered c.args.schedule.now = rw c.build.ensures.out_after at c.in-Ok.ensures.result_value in
    let kept : c.run.new.out ≡ recorded c.args.schedule.now = rw c.build.ensures.out_after at c.in-Ok.ensures.out_after in
    rw (record_text c.args.schedule.now c.run.new.out ok kept) at c.put_listing.ensures.out_after

pub returns-in-Err-clause-value : goal.returns-in-Err-clause-value
returns-in-Err-clause-value c =
    let told : answer_of {A = Unit {0}} (Err c.in-Err.refusal) ≡ answered c.args.schedule.now = rw c.build.ensures.out_after at c.in-Err.ensures.result_value in
    let text = listed_refused c.args.schedule.now c.in-Err.refusal told in
    c.put_refused.ensures.value ∙ ap length (ap₂ refused_text c.number.ensures c.position.ensures ∙ sym text)

pub returns-in-Err-clause-out_after : goal.returns-in-Err-clause-out_after
returns-in-Err-clause-out_after c =
    let told : answer_of {A = Unit {0}} (Err c.in-Err.refusal) ≡ answered c.args.schedule.now = rw c.build.ensures.out_after at c.in-Err.ensures.result_value in
    let text = ap₂ refused_text c.number.ensures c.position.ensures ∙ sym (listed_refused c.args.schedule.now c.in-Err.refusal told) in
    rw text at c.put_refused.ensures.out_after
