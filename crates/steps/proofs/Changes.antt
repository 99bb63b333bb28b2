-- What a step and a stop change, and what not: a step sets the acting party's entries, at place 2 the marks of its row's set, at place 1 its published cell.
use Prim.Native.Nat.{ℕ, zero, suc, ◌+◌, ◌-◌, ◌≤◌, ◌<◌}
use mathlib.Core.Path.{◌≡◌, refl, sym, ap, ◌∙◌, subst}
use mathlib.Core.Logic.{◌≢◌}
use mathlib.Core.List.{List}
use mathlib.Core.Bool.{Bool, true, false, cond}
use native.Mathlib.Omega.{arith}
use borrow.Author.Tests.{lt-ltb, le-ltb}
use lib.Dec.{ltb, eqb}
use lib.ListN.{length, get_or, set}
use lib.Seq.{get_or-set_same, get_or-set_other, set-set}
use Rattle.sheet.specs.Rows.{Layout, slot, writes}
use Rattle.state.specs.Session.{layout, no_party, party_of, cell}
use Rattle.state.specs.declared.kept.Party.{Party}
use Rattle.state.specs.declared.kept.Session.{Session}
use Rattle.steps.specs.Step.{Place, announce, publish, write, read_top, read_own, read_pair, fetch, decide, done, place_of, counted, seen, party_acted, party_after, won, next_k, lowers_win, goes, decided, marks_after, published_after, is_live, acted, step, place_acted, stopped_party, stop}
use Rattle.steps.proofs.Stamps.{get_or_passed}

-- ---- the sheet and the proposals

module _ (s : Session) (i : ℕ) where
  -- what holds of the session and of the act holds of the step
  pub step_either : (P : Session → Type 0) → P (acted s i) → P s → P (step s i)
  unfolding step
  step_either P a b = by (is_live (party_of s.parties i))
    where
      by : (t : Bool) → P (cond t (acted s i) s)
      by true = a
      by false = b

  pub step_sheet : (step s i).sheet ≡ s.sheet
  step_sheet = step_either (λ t. t.sheet ≡ s.sheet) refl refl

  pub step_proposals : (step s i).proposals ≡ s.proposals
  step_proposals = step_either (λ t. t.proposals ≡ s.proposals) refl refl

  -- ---- the marks and the published candidates

  -- a unit that is not in the row's set keeps its mark
  pub marks_apart : (u : ℕ) → u < length s.marks → writes ((layout s).row (slot (party_of s.parties i).round i)) u ≡ false
      → get_or (step s i).marks u 0 ≡ get_or s.marks u 0
  unfolding marks_after
  marks_apart u h e = step_either (λ t. get_or t.marks u 0 ≡ get_or s.marks u 0) (at (place_of (party_of s.parties i).place)) refl
    where
      at : (q : Place) → get_or (marks_after (layout s) i (party_of s.parties i) s.marks q) u 0 ≡ get_or s.marks u 0
      at announce = refl
      at publish = refl
      at write =
          let p = party_of s.parties i in
          get_or_passed (writes ((layout s).row (slot p.round i))) (cond (eqb i p.round) 2 1) s.marks u h e
      at read_top = refl
      at read_own = refl
      at read_pair = refl
      at fetch = refl
      at decide = refl
      at done = refl

  -- away from place 2 all marks stay
  pub marks_kept : (party_of s.parties i).place ≢ 2 → (step s i).marks ≡ s.marks
  unfolding marks_after
  marks_kept n = step_either (λ t. t.marks ≡ s.marks) (at (party_of s.parties i).place n) refl
    where
      at : (m : ℕ) → m ≢ 2 → marks_after (layout s) i (party_of s.parties i) s.marks (place_of m) ≡ s.marks
      at zero h = refl
      at (suc zero) h = refl
      at (suc (suc zero)) h = absurd (h refl)
      at (suc (suc (suc zero))) h = refl
      at (suc (suc (suc (suc zero)))) h = refl
      at (suc (suc (suc (suc (suc zero))))) h = refl
      at (suc (suc (suc (suc (suc (suc zero)))))) h = refl
      at (suc (suc (suc (suc (suc (suc (suc zero))))))) h = refl
      at (suc (suc (suc (suc (suc (suc (suc (suc m)))))))) h = refl

  -- a cell that is not the party's of its round keeps its candidate
  pub published_apart : (j : ℕ) → j ≢ cell (party_of s.parties i).round i → get_or (step s i).published j 0 ≡ get_or s.published j 0
  unfolding published_after
  published_apart j n =
      step_either (λ t. get_or t.published j 0 ≡ get_or s.published j 0) (at (place_of (party_of s.parties i).place)) refl
    where
      at : (q : Place) → get_or (published_after i (party_of s.parties i) s.published q) j 0 ≡ get_or s.published j 0
      at announce = refl
      at publish = get_or-set_other s.published (cell (party_of s.parties i).round i) j (party_of s.parties i).candidate 0 n
      at write = refl
      at read_top = refl
      at read_own = refl
      at read_pair = refl
      at fetch = refl
      at decide = refl
      at done = refl

  -- away from place 1 all published candidates stay
  pub published_kept : (party_of s.parties i).place ≢ 1 → (step s i).published ≡ s.published
  unfolding published_after
  published_kept n = step_either (λ t. t.published ≡ s.published) (at (party_of s.parties i).place n) refl
    where
      at : (m : ℕ) → m ≢ 1 → published_after i (party_of s.parties i) s.published (place_of m) ≡ s.published
      at zero h = refl
      at (suc zero) h = absurd (h refl)
      at (suc (suc zero)) h = refl
      at (suc (suc (suc zero))) h = refl
      at (suc (suc (suc (suc zero)))) h = refl
      at (suc (suc (suc (suc (suc zero))))) h = refl
      at (suc (suc (suc (suc (suc (suc zero)))))) h = refl
      at (suc (suc (suc (suc (suc (suc (suc zero))))))) h = refl
      at (suc (suc (suc (suc (suc (suc (suc (suc m)))))))) h = refl

-- ---- own steps and status

-- what holds of both ways holds of the way that is taken
either_way : (P : Party → Type 0) (b : Bool) (x y : Party) → P x → P y → P (cond b x y)
either_way P true x y u v = u
either_way P false x y u v = v

-- what holds of a party that goes anywhere, of one that decides and of p itself holds of p after its act
module _ (l : Layout) (proposals marks published : List ℕ) (i : ℕ) (p : Party) (P : Party → Type 0)
    (going : (place r k c : ℕ) → P (goes p place r k c)) (deciding : P (decided (get_or proposals (p.candidate - 1) 0) p)) (staying : P p) where
  won_any : (r c : ℕ) → P (won l.parties p r c)
  unfolding won
  won_any r c = either_way P (ltb r l.parties) _ _ (going 1 (r + 1) 0 c) (going 7 0 0 c)

  next_any : P (next_k l.parties p)
  unfolding next_k
  next_any = either_way P (ltb (p.k + 1) p.round) _ _ (going 4 p.round (p.k + 1) p.candidate) (won_any p.round p.round)

  lower_any : P (lowers_win l.parties i p)
  unfolding lowers_win
  lower_any = either_way P (ltb i p.round) _ _ (won_any p.round p.candidate) (going 6 p.round p.k p.candidate)

  pub after_any : (q : Place) → P (party_acted l proposals marks published i p q)
  unfolding seen party_after
  after_any announce =
      either_way P (eqb l.parties 1) _ _ (going 7 0 0 p.candidate)
      (either_way P (eqb i 1) _ _ (going 1 2 0 p.candidate) (going 2 i 0 p.candidate))
  after_any publish = going 2 p.round 0 p.candidate
  after_any write = either_way P (eqb i p.round) _ _ (going 4 p.round 1 p.candidate) (going 3 p.round 0 p.candidate)
  after_any read_top = either_way P (eqb (get_or marks (l.row (slot p.round p.round)).own 0) 0) _ _ lower_any (going 4 p.round 1 p.candidate)
  after_any read_own = either_way P (eqb (get_or marks (l.row (slot p.round p.k)).own 0) 0) _ _ next_any (going 5 p.round p.k p.candidate)
  after_any read_pair = either_way P (eqb (get_or marks (l.row (slot p.round p.k)).pair 0) 2) _ _ lower_any next_any
  after_any fetch = won_any p.round (get_or published (cell p.round p.k) 0)
  after_any decide = deciding
  after_any done = staying

module _ (s : Session) (i : ℕ) (fits : i - 1 < length s.parties) where
  -- own steps grow by one where the party is live, and not else
  pub step_live : (party_of s.parties i).status < 2 → (party_of (step s i).parties i).steps ≡ (party_of s.parties i).steps + 1
  unfolding step
  step_live h =
      let p = party_of s.parties i in
      rw (lt-ltb p.status 2 h)
      (ap (λ (q : Party). q.steps) (get_or-set_same s.parties (i - 1) (counted (party_acted (layout s) s.proposals s.marks s.published i p (place_of p.place))) no_party fits)
      ∙ ap (λ (n : ℕ). n + 1)
      (after_any (layout s) s.proposals s.marks s.published i p (λ q. q.steps ≡ p.steps) (λ _ _ _ _. refl) refl refl (place_of p.place)))

  -- and a live party is running or has decided afterwards
  pub step_status : (party_of s.parties i).status < 2 → (party_of (step s i).parties i).status ≤ 2
  unfolding step
  step_status h =
      let p = party_of s.parties i in
      let after = party_acted (layout s) s.proposals s.marks s.published i p (place_of p.place) in
      rw (lt-ltb p.status 2 h)
      (subst (λ (q : Party). q.status ≤ 2) (sym (get_or-set_same s.parties (i - 1) (counted after) no_party fits))
      (after_any (layout s) s.proposals s.marks s.published i p (λ q. q.status ≤ 2) (λ _ _ _ _. omega arith) (omega arith) (omega arith) (place_of p.place)))

  -- a party that has decided or stopped changes nothing, and the answer is 8
  pub step_over : 2 ≤ (party_of s.parties i).status → (step s i ≡ s) × (place_acted s i ≡ 8)
  unfolding step
  step_over h = let e = le-ltb (party_of s.parties i).status 2 h in (rw e, rw e)

  -- stopping twice changes nothing
  pub stop_twice : stop (stop s i) i ≡ stop s i
  unfolding stop
  stop_twice =
      let p = party_of s.parties i in
      let again = get_or-set_same s.parties (i - 1) (stopped_party p) no_party fits in
      λ t. record {
        sheet = s.sheet;
        proposals = s.proposals;
        marks = s.marks;
        published = s.published;
        parties = (set-set s.parties (i - 1) (stopped_party p) _ ∙ ap (set s.parties (i - 1)) (ap stopped_party again ∙ idempotent p)) t;
      }
    where
      idempotent : (p : Party) → stopped_party (stopped_party p) ≡ stopped_party p
      idempotent p = λ t. record {
        status = same (eqb p.status 2) t;
        place = p.place;
        round = p.round;
        k = p.k;
        candidate = p.candidate;
        steps = p.steps;
        decision = p.decision;
      }
        where
          same : (b : Bool) → ◌≡◌ {A = ℕ} (cond (eqb (cond b 2 3) 2) 2 3) (cond b 2 3)
          same true = refl
          same false = refl
