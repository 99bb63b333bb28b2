-- The session is read out of the bytes, the call on it is as it promises, and what it leaves is written over the bytes.
use Rattle.std.proofs.Common.{refl, ap, ◌∙◌, arith}
use Rattle.std.proofs.lemmas.Result.{err_from_is_err_and}
use Rattle.answers.proofs.Refused.{refuses}
use Rattle.state.specs.declared.kept.Session.{Session}
use Rattle.steps.specs.Calls.{stop_told, stopped}
use Rattle.steps.proofs.CallSays.{stop_says}
use Rattle.image.specs.Image.{Below, session_bytes, session_of}
use Rattle.host.proofs.OnSession.{refused_9, answered, refused, whole, parties_written}
use Rattle.host.proofs.lent.stop.Goals as goal

pub returns-in_err-sized : goal.returns-in_err-sized
returns-in_err-sized c =
    let party = c.args.party in
    let no = c.in_err-sized.ensures.refused in
    let r = refused_9 c.args.session.now (λ s. stop_told s party) (λ s. stopped s party) no.1 in
    let p = err_from_is_err_and c.from_residual.result c.from_residual.ensures.1 in
    record { reply = rw (p.1, p.2, no.0) r.0; session_after = r.1 }

pub returns-in_err-status : goal.returns-in_err-status
returns-in_err-status c =
    let party = c.args.party in
    let l = c.in_ok-sized.ensures.length in
    let same = whole c.args.session.now l _ _ c.read.ensures in
    let tells = c.in_err-status.ensures.reply_value ∙ ap (λ (s : Session). stop_told s party) same in
    let r = refused c.args.session.now (λ s. stop_told s party) (λ s. stopped s party) _ l tells (λ z. omega (arith, refuses c.in_err-status.field-0.0, z)) in
    let p = err_from_is_err_and c.from_residual-in_err-status.result c.from_residual-in_err-status.ensures.1 in
    record { reply = rw (p.1, p.2) r.0; session_after = r.1 }

pub returns : goal.returns
returns c =
    let bytes = c.args.session.now in
    let party = c.args.party in
    let l = c.in_ok-sized.ensures.length in
    let same = whole bytes l _ _ c.read.ensures in
    let ensures = c.in_ok-status.ensures in
    let tells = ensures.reply_value ∙ ap (λ (s : Session). stop_told s party) same in
    let left = ensures.session_after ∙ ap (λ (s : Session). stopped s party) same in
    let says = stop_says (session_of bytes) party in
    let low : Below 256 bytes = λ k h. omega (arith, c.slice_known-1.given k) in
    let u = c.stop_in.new.s in
    let sheet = ap (λ (s : Session). s.sheet) left ∙ says.sheet in
    let proposals = ap (λ (s : Session). s.proposals) left ∙ says.proposals in
    let written = parties_written bytes l low u sheet proposals (ap (λ (s : Session). s.marks) left ∙ says.marks) (ap (λ (s : Session). s.published) left ∙ says.published) c.write_parties.ensures in
    let r = answered bytes (λ s. stop_told s party) (λ s. stopped s party) _ l tells _ refl (written ∙ ap session_bytes left) in
    record { reply = r.0; session_after = r.1 }
