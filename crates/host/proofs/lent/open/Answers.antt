-- The proposals that the slice holds are lent to the opening, which decides; then a fresh session is written.
use Rattle.std.proofs.Common.{ap, ◌∙◌}
use Rattle.std.proofs.lemmas.Result.{err_from_is_err_and}
use Rattle.state.specs.Opening.{open_answer}
use Rattle.image.proofs.Filling.{lent}
use Rattle.host.proofs.HostOpen.{open_refused, open_short, open_filled}
use Rattle.host.proofs.lent.open.Goals as goal

pub returns-in_err-opens : goal.returns-in_err-opens
returns-in_err-opens c =
    let sheet = c.args.sheet.now in
    let bytes = c.args.proposals.now in
    let r = open_refused sheet bytes c.args.session.now _ (c.in_err-opens.ensures ∙ ap (open_answer sheet) (lent c.args.proposals.now c.proposals_from-given.ensures.count_value c.proposals_from-given.ensures.numbers_value c.as_slice.ensures)) in
    let p = err_from_is_err_and c.from_residual.result c.from_residual.ensures.1 in
    record { answer = rw (p.1, p.2) r.0; session_after = r.1 }

pub returns-then-session-ne-SESSION_LENGTH : goal.returns-then-session-ne-SESSION_LENGTH
returns-then-session-ne-SESSION_LENGTH c =
    let sheet = c.args.sheet.now in
    let r = open_short sheet c.args.proposals.now c.args.session.now (c.in_ok-opens.ensures ∙ ap (open_answer sheet) (lent c.args.proposals.now c.proposals_from-given.ensures.count_value c.proposals_from-given.ensures.numbers_value c.as_slice.ensures)) c.if-session-ne-SESSION_LENGTH.true in
    record { answer = r.0; session_after = r.1 }

pub returns : goal.returns
returns c =
    let sheet = c.args.sheet.now in
    let given = c.proposals_from-given in
    let r = open_filled sheet c.args.proposals.now c.args.session.now (c.in_ok-opens.ensures ∙ ap (open_answer sheet) (lent c.args.proposals.now c.proposals_from-given.ensures.count_value c.proposals_from-given.ensures.numbers_value c.as_slice.ensures)) given.result.numbers
    c.fresh_parties-parties.result given.ensures.numbers_value c.fresh_parties-parties.ensures c.if-session-ne-SESSION_LENGTH.false _ c.write_fresh.ensures in
    record { answer = r.0; session_after = r.1 }
