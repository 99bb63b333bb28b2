-- Past the two refusals the party is stopped as the definition says, and put among the parties.
use Rattle.std.proofs.Common.{◌≡◌, ℕ, ◌-◌, ◌<◌, length, set, get_or-set_same, sym, ap, ◌∙◌, arith, rules}
use Rattle.std.proofs.lemmas.Result.{err_from_is_err_and}
use Rattle.state.specs.Session.{no_party, party_of}
use Rattle.state.specs.declared.kept.Party.{Party}
use Rattle.state.specs.declared.kept.Session.{Session}
use Rattle.steps.specs.Step.{stopped_party, stop}
use Rattle.steps.specs.Calls.{told}
use Rattle.steps.proofs.Refusals.{refused, answered}
use Rattle.calls.proofs.stopping.stop_in.Goals as goal

module _ (s : Session) (i : ℕ) where
  abbrev put : Party → Session
  put q = record { sheet = s.sheet; proposals = s.proposals; marks = s.marks; published = s.published; parties = set s.parties (i - 1) q }

  abbrev status : ℕ
  status = (party_of (stop s i).parties i).status

  module _ (q : Party) (e : q ≡ stopped_party (party_of s.parties i)) where
    stops : put q ≡ stop s i
    unfolding stop
    stops = ap put e

    tells : i - 1 < length s.parties → q.status ≡ status
    unfolding stop
    tells h = ap (λ (p : Party). p.status) (e ∙ sym (get_or-set_same s.parties (i - 1) _ no_party h))

pub returns-in_err-asked : goal.returns-in_err-asked
returns-in_err-asked c =
    let s = c.args.s.now in
    let i = c.args.party in
    let r = refused s i (stop s i) (status s i) _ c.in_err-asked.ensures.refused in
    let p = err_from_is_err_and c.from_residual.result c.from_residual.ensures.1 in
    record { session_after = r.0; reply_value = rw (p.1, p.2) r.1 }

pub returns : goal.returns
returns c =
    let s = c.args.s.now in
    let i = c.args.party in
    let known = c.in_ok-asked.ensures.past in
    let q = c.stop_party-p in
    let size : length s.parties ≡ 16 = search rules in
    let inside = tells s i q.result q.ensures (omega (arith, known.few, known.least, size)) in
    let r = answered s i (stop s i) (status s i) known in
    record { session_after = stops s i q.result q.ensures ∙ r.0; reply_value = ap (told 0) inside ∙ r.1 }
