-- The session is read out of the bytes, and its parties are counted.
use Rattle.std.proofs.Common.{sym, ap, ◌∙◌}
use Rattle.std.proofs.lemmas.Result.{err_from_is_err_and}
use Rattle.steps.specs.Calls.{live_told}
use Rattle.host.proofs.OnSession.{other_length, this_length, whole}
use Rattle.host.proofs.lent.live.Goals as goal

pub returns-in_err-sized : goal.returns-in_err-sized
returns-in_err-sized c =
    let no = c.in_err-sized.ensures.refused in
    let p = err_from_is_err_and c.from_residual.result c.from_residual.ensures.1 in
    rw (p.1, p.2, no.0) (sym (other_length c.args.session.now live_told no.1))

pub returns : goal.returns
returns c =
    let bytes = c.args.session.now in
    let l = c.in_ok-sized.ensures.length in
    c.live_in.ensures ∙ ap live_told (whole bytes l _ _ c.read.ensures) ∙ sym (this_length bytes live_told l)
