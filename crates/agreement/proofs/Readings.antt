-- Numbers that are each party's status, own steps and decision say of the parties what demand 3 says of the session.
use Prim.Native.Nat.{ℕ, ◌≤◌}
use mathlib.Core.Path.{◌≡◌, refl, sym, ap, ◌∙◌, subst, subst⁻¹}
use native.Mathlib.Decide.{ℕ_discrete}
use native.Mathlib.Omega.{arith}
use mathlib.Core.List.{List}
use Rattle.sheet.specs.Rows.{parties_of}
use Rattle.state.specs.Session.{party_of}
use Rattle.state.specs.Readings.{Readings, of_parties}
use Rattle.state.specs.declared.kept.Party.{Party}
use Rattle.state.specs.declared.kept.Session.{Session}
use Rattle.steps.specs.Moves.{Move}
use Rattle.steps.specs.Reach.{Reached, Lasting, step_limit}
use Rattle.steps.proofs.Given.{Follows}
use Rattle.agreement.specs.Demand.{Opens, proposal_of, Demand, Demanded, LastingRead}
use Rattle.agreement.proofs.Demands as demands
use Rattle.agreement.proofs.Demands.{rules}
use Rattle.agreement.proofs.Parties.{has_begun, undecided, rule}

-- what is read of party i is p
pub record Says (p : Party) (r : Readings) (i : ℕ) : Type 0 where
  pub status : r.status i ≡ p.status
  pub steps : r.steps i ≡ p.steps
  pub decision : r.decision i ≡ p.decision

-- of each of n parties
abbrev pub Reads : ℕ → Session → Readings → Type 0
Reads n s r = (i : ℕ) → 1 ≤ i → i ≤ n → Says (party_of s.parties i) r i

pub reads_itself : (n : ℕ) (s : Session) → Reads n s (of_parties s.parties)
reads_itself n s i l m = record { status = refl; steps = refl; decision = refl }

module _ (sheet proposals : List ℕ) (o : Opens sheet proposals) {s : Session} (R : Reached sheet proposals s)
    (r : Readings) (says : Reads (parties_of sheet) s r) where
  abbrev n : ℕ
  n = parties_of sheet

  demand : Demand n proposals s
  demand = demands.demand sheet proposals o R

  -- ---- the status of a party that has not decided

  module _ (i : ℕ) (l : 1 ≤ i) (m : i ≤ n) where
    abbrev p : Party
    p = party_of s.parties i

    -- one that is not stopped and has no own steps is idle; with some it is not
    fresh_idle : (p.status ≡ 3 → ⊥) → p.steps ≡ 0 → p.status ≡ 0
    fresh_idle up none = ((rule sheet proposals o R i l m).idle up).1 (by (ℕ_discrete p.place 0))
      where
        by : Dec (p.place ≡ 0) → p.place ≡ 0
        by (yes e) = e
        by (no d) = absurd (let one = has_begun sheet proposals (rules o) i l m R d in omega arith)

    begun_running : (p.status ≡ 2 → ⊥) → (p.status ≡ 3 → ⊥) → 1 ≤ p.steps → p.status ≡ 1
    begun_running undone up some = by (ℕ_discrete p.status 0) (ℕ_discrete p.status 2) (ℕ_discrete p.status 3)
      where
        by : Dec (p.status ≡ 0) → Dec (p.status ≡ 2) → Dec (p.status ≡ 3) → p.status ≡ 1
        by (yes e) _ _ =
            let place = ((rule sheet proposals o R i l m).idle up).0 e in
            absurd (let none = (rule sheet proposals o R i l m).no_steps place in omega arith)
        by (no _) (yes e) _ = absurd (undone e)
        by (no _) (no _) (yes e) = absurd (up e)
        by (no a) (no b) (no c) = let most = (rule sheet proposals o R i l m).status in omega arith

    over_stopped : (p.status ≡ 2 → ⊥) → 2 ≤ p.status → p.status ≡ 3
    over_stopped undone over = by (ℕ_discrete p.status 2)
      where
        by : Dec (p.status ≡ 2) → p.status ≡ 3
        by (yes e) = absurd (undone e)
        by (no d) = let most = (rule sheet proposals o R i l m).status in omega arith

  -- where the own steps are the acts, and the statuses follow the moves
  pub read : (moves : List Move) (acts : ℕ → ℕ) → ((i : ℕ) → 1 ≤ i → i ≤ n → (party_of s.parties i).steps ≡ acts i) → Follows n s moves
      → Demanded n (proposal_of proposals) moves acts r
  read moves acts counted follows =
      let h = demand.holder in
      let a = demand.agreed.least in
      let b = demand.agreed.most in
      record {
        holder = h;
        holder_least = a;
        holder_most = b;
        agreed = λ i l m e. (says i l m).decision ∙ demand.agreed.decision i l m (sym (says i l m).status ∙ e);
        announced = λ i l m e.
            let far = demand.agreed.announced i l m (sym (says i l m).status ∙ e) in
            let own = has_begun sheet proposals (rules o) h a b R far in
            subst⁻¹ (λ (k : ℕ). 1 ≤ k) (says h a b).steps own;
        undecided = λ i l m e. (says i l m).decision ∙ undecided sheet proposals o R i l m (λ d. e ((says i l m).status ∙ d));
        own_steps = λ i l m. (says i l m).steps ∙ counted i l m;
        most = λ i l m. subst⁻¹ (λ (k : ℕ). k ≤ step_limit n i) (says i l m).steps (demand.most i l m);
        decides = λ i l m g. (says i l m).status ∙ demand.decides i l m (subst (λ (k : ℕ). step_limit n i ≤ k) (says i l m).steps g);
        enough = λ i l m g. (says i l m).status ∙ follows.enough i l m g;
        stopped = λ i l m e t. (says i l m).status ∙ over_stopped i l m (λ d. e ((says i l m).status ∙ d)) (follows.over i l m t);
        running = λ i l m e t g.
            (says i l m).status
            ∙ begun_running i l m (λ d. e ((says i l m).status ∙ d)) (λ d. t (follows.stopped i l m d)) (subst⁻¹ (λ (k : ℕ). 1 ≤ k) (counted i l m) g);
        idle = λ i l m t g. (says i l m).status ∙ fresh_idle i l m (λ d. t (follows.stopped i l m d)) (counted i l m ∙ g);
      }

-- ---- later

module _ (sheet proposals : List ℕ) (o : Opens sheet proposals) {s t : Session} (R : Reached sheet proposals s)
    (L : Lasting (parties_of sheet) proposals s t) where
  pub read_lasting : (r q : Readings) → Reads (parties_of sheet) s r → Reads (parties_of sheet) t q → LastingRead (parties_of sheet) (proposal_of proposals) r q
  read_lasting r q old new =
      let h = L.holder in
      let a = L.before.least in
      let b = L.before.most in
      record {
        holder = h;
        holder_least = a;
        holder_most = b;
        before = λ i l m e. (old i l m).decision ∙ L.before.decision i l m (sym (old i l m).status ∙ e);
        after = λ i l m e. (new i l m).decision ∙ L.after.decision i l m (sym (new i l m).status ∙ e);
        announced = λ i l m e.
            let far = L.before.announced i l m (sym (old i l m).status ∙ e) in
            subst⁻¹ (λ (k : ℕ). 1 ≤ k) (old h a b).steps (has_begun sheet proposals (rules o) h a b R far);
        rests = λ i l m e.
            let same = L.rests i l m (subst (λ (k : ℕ). 2 ≤ k) (old i l m).status e) in
            record {
              status = (new i l m).status ∙ ap (λ (p : Party). p.status) same ∙ sym (old i l m).status;
              steps = (new i l m).steps ∙ ap (λ (p : Party). p.steps) same ∙ sym (old i l m).steps;
              decision = (new i l m).decision ∙ ap (λ (p : Party). p.decision) same ∙ sym (old i l m).decision;
            };
      }

-- ---- the same proposals by another function

module _ {n : ℕ} {f g : ℕ → ℕ} (same : (h : ℕ) → 1 ≤ h → h ≤ n → f h ≡ g h) where
  pub demanded_by : {moves : List Move} {acts : ℕ → ℕ} {r : Readings} → Demanded n f moves acts r → Demanded n g moves acts r
  demanded_by D =
      record {
        holder = D.holder;
        holder_least = D.holder_least;
        holder_most = D.holder_most;
        agreed = λ i l m e. D.agreed i l m e ∙ same D.holder D.holder_least D.holder_most;
        announced = D.announced;
        undecided = D.undecided;
        own_steps = D.own_steps;
        most = D.most;
        decides = D.decides;
        enough = D.enough;
        stopped = D.stopped;
        running = D.running;
        idle = D.idle;
      }

  pub lasting_by : {r q : Readings} → LastingRead n f r q → LastingRead n g r q
  lasting_by L =
      let one = same L.holder L.holder_least L.holder_most in
      record {
        holder = L.holder;
        holder_least = L.holder_least;
        holder_most = L.holder_most;
        before = λ i l m e. L.before i l m e ∙ one;
        after = λ i l m e. L.after i l m e ∙ one;
        announced = L.announced;
        rests = L.rests;
      }
