-- The session is read out of the bytes, the call on it is as it promises, and what it leaves is written over the bytes.
use Rattle.std.proofs.Common.{refl, ap, ◌∙◌, arith}
use Rattle.std.proofs.lemmas.Result.{err_from_is_err_and}
use Rattle.answers.proofs.Refused.{refuses}
use Rattle.state.specs.declared.kept.Session.{Session}
use Rattle.steps.specs.Calls.{step_told, stepped}
use Rattle.steps.proofs.CallSays.{step_says}
use Rattle.image.specs.Image.{Below, session_bytes, session_of}
use Rattle.host.proofs.OnSession.{refused_9, answered, refused, whole, acted_written}
use Rattle.host.proofs.lent.step.Goals as goal

pub returns-in_err-sized : goal.returns-in_err-sized
returns-in_err-sized c =
    let party = c.args.party in
    let no = c.in_err-sized.ensures.refused in
    let r = refused_9 c.args.session.now (λ s. step_told s party) (λ s. stepped s party) no.1 in
    let p = err_from_is_err_and c.from_residual.result c.from_residual.ensures.1 in
    record { reply = rw (p.1, p.2, no.0) r.0; session_after = r.1 }

pub returns-in_err-place : goal.returns-in_err-place
returns-in_err-place c =
    let party = c.args.party in
    let l = c.in_ok-sized.ensures.length in
    let same = whole c.args.session.now l _ _ c.read.ensures in
    let tells = c.in_err-place.ensures.reply_value ∙ ap (λ (s : Session). step_told s party) same in
    let r = refused c.args.session.now (λ s. step_told s party) (λ s. stepped s party) _ l tells (λ z. omega (arith, refuses c.in_err-place.field-0.0, z)) in
    let p = err_from_is_err_and c.from_residual-in_err-place.result c.from_residual-in_err-place.ensures.1 in
    record { reply = rw (p.1, p.2) r.0; session_after = r.1 }

pub returns : goal.returns
returns c =
    let bytes = c.args.session.now in
    let party = c.args.party in
    let l = c.in_ok-sized.ensures.length in
    let same = whole bytes l _ _ c.read.ensures in
    let ensures = c.in_ok-place.ensures in
    let tells = ensures.reply_value ∙ ap (λ (s : Session). step_told s party) same in
    let left = ensures.session_after ∙ ap (λ (s : Session). stepped s party) same in
    let says = step_says (session_of bytes) party in
    let low : Below 256 bytes = λ k h. omega (arith, c.slice_known-1.given k) in
    let u = c.step_in.new.s in
    let sheet = ap (λ (s : Session). s.sheet) left ∙ says.sheet in
    let proposals = ap (λ (s : Session). s.proposals) left ∙ says.proposals in
    let written = acted_written bytes l low u sheet proposals c.write_acted.ensures in
    let r = answered bytes (λ s. step_told s party) (λ s. stepped s party) _ l tells _ refl (written ∙ ap session_bytes left) in
    record { reply = r.0; session_after = r.1 }
