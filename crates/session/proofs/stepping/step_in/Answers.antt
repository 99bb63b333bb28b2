-- Past the two refusals a party that is not live leaves all as it is; what the act of a live one gives is put where the definition puts it.
use Rattle.std.proofs.Common.{◌≡◌, ℕ, ◌-◌, ◌<◌, Bool, true, false, List, cond, length, take, set, sym, ap, ◌∙◌, subst, arith, rules}
use Rattle.std.proofs.lemmas.Result.{err_from_is_err_and}
use borrow.Author.Tests.{lt-ltb, le-ltb}
use Rattle.sheet.specs.Rows.{layout_of, parties_of}
use Rattle.state.specs.Session.{carried, party_of}
use Rattle.state.specs.Words.{PartyRule}
use Rattle.state.specs.declared.kept.Party.{Party}
use Rattle.state.specs.declared.kept.Session.{Session}
use Rattle.state.proofs.Carried.{front_carried}
use Rattle.state.proofs.FormWords.{well_formed_says}
use Rattle.steps.specs.Step.{Place, is_live, place_of, counted, party_acted, marks_after, published_after, acted, step, place_acted}
use Rattle.steps.specs.Ready.{Past, Ready}
use Rattle.steps.specs.Calls.{told}
use Rattle.steps.proofs.Refusals.{refused, answered}
use Rattle.session.proofs.stepping.step_in.Goals as goal

module _ (s : Session) (i : ℕ) where
  -- a party stays, or acts
  abbrev gives : Bool → Session × ℕ
  gives live = (cond live (acted s i) s, cond live (party_of s.parties i).place 8)

  stays : is_live (party_of s.parties i) ≡ false → (s ≡ step s i) × (8 ≡ place_acted s i)
  unfolding step
  stays e = (ap (λ (b : Bool). (gives b).0) (sym e), ap (λ (b : Bool). (gives b).1) (sym e))

  acts : is_live (party_of s.parties i) ≡ true → (acted s i ≡ step s i) × ((party_of s.parties i).place ≡ place_acted s i)
  unfolding step
  acts e = (ap (λ (b : Bool). (gives b).0) (sym e), ap (λ (b : Bool). (gives b).1) (sym e))

  -- what the act gives of the front of the copy, put into the session
  abbrev put : List ℕ → List ℕ → Party → Session
  put marks published q = record { sheet = s.sheet; proposals = s.proposals; marks = marks; published = published; parties = set s.parties (i - 1) q }

  abbrev p : Party
  p = party_of s.parties i

  abbrev at : Place
  at = place_of p.place

  abbrev own : List ℕ → Party
  own l = counted (party_acted (layout_of l) s.proposals s.marks s.published i p at)

  puts : (l marks published : List ℕ) (q : Party) → l ≡ carried s
      → (q ≡ own l) × ((marks ≡ marks_after (layout_of l) i p s.marks at) × (published ≡ published_after i p s.published at))
      → put marks published q ≡ acted s i
  puts l marks published q e (own_is, (marks-is, published-is)) =
      (λ j. put (marks-is j) (published-is j) (own_is j))
      ∙ ap (λ (k : List ℕ). put (marks_after (layout_of k) i p s.marks at) (published_after i p s.published at) (own k)) e

  -- a live party of a well-formed session is ready to act
  ready : Past s i → p.status < 2 → Ready (carried s) s.published i p (parties_of s.sheet)
  ready known live =
      let words = (well_formed_says s).0 known.formed in
      record {
        rules = words.sheet.before;
        parties = known.parties;
        least = known.least;
        most = omega (arith, known.most, known.parties);
        party = subst (λ (m : ℕ). PartyRule m s.published i p) (sym known.parties) (words.parties i known.least known.most);
        live = live;
      }

pub returns-in_err-asked : goal.returns-in_err-asked
returns-in_err-asked c =
    let s = c.args.s.now in
    let i = c.args.party in
    let r = refused s i (step s i) (place_acted s i) _ c.in_err-asked.ensures.refused in
    let p = err_from_is_err_and c.from_residual.result c.from_residual.ensures.1 in
    record { session_after = r.0; reply_value = rw (p.1, p.2) r.1 }

pub returns-then-p-ge-DECIDED : goal.returns-then-p-ge-DECIDED
returns-then-p-ge-DECIDED c =
    let s = c.args.s.now in
    let i = c.args.party in
    let same = stays s i (le-ltb (party_of s.parties i).status 2 (omega (arith, c.if-p-ge-DECIDED.true))) in
    let r = answered s i (step s i) (place_acted s i) c.in_ok-asked.ensures.past in
    record { session_after = same.0 ∙ r.0; reply_value = ap (told 0) same.1 ∙ r.1 }

pub act-requires : goal.act-requires
act-requires c =
    let s = c.args.s.now in
    let i = c.args.party in
    let len = c.carried_length in
    let whole : length s.sheet ≡ 1898 = search rules in
    let front : take len.result s.sheet ≡ carried s = front_carried s.sheet 1898 len.result whole len.ensures in
    subst (λ (l : List ℕ). Ready l s.published i (party_of s.parties i) (parties_of s.sheet)) (sym front)
    (ready s i c.in_ok-asked.ensures.past (omega (arith, c.if-p-ge-DECIDED.false)))

pub returns : goal.returns
returns c =
    let s = c.args.s.now in
    let i = c.args.party in
    let len = c.carried_length in
    let whole : length s.sheet ≡ 1898 = search rules in
    let front : take len.result s.sheet ≡ carried s = front_carried s.sheet 1898 len.result whole len.ensures in
    let went = acts s i (lt-ltb (party_of s.parties i).status 2 (omega (arith, c.if-p-ge-DECIDED.false))) in
    let r = answered s i (step s i) (place_acted s i) c.in_ok-asked.ensures.past in
    let put = puts s i _ _ _ c.act.result front c.act.ensures in
    record { session_after = put ∙ went.0 ∙ r.0; reply_value = ap (told 0) went.1 ∙ r.1 }
