-- What step, stop and live tell of every session, whatever it holds, and what they leave: the statements about the calls, proved in `proofs/CallSays.antt`.
use Rattle.std.specs.Prelude.{ℕ, ◌+◌, ◌≤◌, ◌≡◌, ◌⊎◌, ◌↔◌}
use Rattle.state.specs.Session.{layout, party_of}
use Rattle.state.specs.Status as Status
use Rattle.state.specs.Place as Place
use Rattle.state.specs.Words.{WellFormed}
use Rattle.state.specs.declared.kept.Party.{Party}
use Rattle.state.specs.declared.kept.Session.{Session}
use Rattle.steps.specs.Calls.{told, step_told, stepped, stop_told, stopped, live_number, live_told}

-- i is the number of a party
abbrev pub IsParty : Session → ℕ → Type 0
IsParty s i = (1 ≤ i) × (i ≤ (layout s).parties)

-- a party that acts, and one that has decided or stopped
abbrev pub Live : Party → Type 0
Live p = (p.status ≡ Status.idle) ⊎ (p.status ≡ Status.running)

abbrev pub Over : Party → Type 0
Over p = (p.status ≡ Status.decided) ⊎ (p.status ≡ Status.stopped)

-- every answer of a step of party i, and what it says: 9 exactly if the session is not well formed; 10 exactly if it is, and i is no party; 8 exactly if the party
-- has decided or stopped; any other place exactly if a live party stands there. A refusal changes no session, nor does 8; any other place is one own step.
-- Nothing is changed of the others, the sheet and the proposals
pub record StepSays (s : Session) (i : ℕ) : Type 0 where
  pub nine : step_told s i ≡ told 9 0 ↔ (WellFormed s → ⊥)
  pub ten : step_told s i ≡ told 10 0 ↔ WellFormed s × (IsParty s i → ⊥)
  pub over : step_told s i ≡ told 0 Place.done ↔ WellFormed s × IsParty s i × Over (party_of s.parties i)
  pub acts : (place : ℕ) → (place ≡ Place.done → ⊥)
      → step_told s i ≡ told 0 place ↔ WellFormed s × IsParty s i × Live (party_of s.parties i) × ((party_of s.parties i).place ≡ place)
  pub kept : ((step_told s i).number ≡ 0 → ⊥) → stepped s i ≡ s
  pub same : step_told s i ≡ told 0 Place.done → stepped s i ≡ s
  pub counts : (place : ℕ) → (place ≡ Place.done → ⊥) → step_told s i ≡ told 0 place
      → (party_of (stepped s i).parties i).steps ≡ (party_of s.parties i).steps + 1
  pub others : (j : ℕ) → 1 ≤ j → (j ≡ i → ⊥) → party_of (stepped s i).parties j ≡ party_of s.parties j
  pub sheet : (stepped s i).sheet ≡ s.sheet
  pub proposals : (stepped s i).proposals ≡ s.proposals

-- q is p, stopped unless it had decided
pub record StoppedFrom (p q : Party) : Type 0 where
  pub stays : p.status ≡ Status.decided → q.status ≡ Status.decided
  pub stops : (p.status ≡ Status.decided → ⊥) → q.status ≡ Status.stopped
  pub place : q.place ≡ p.place
  pub round : q.round ≡ p.round
  pub k : q.k ≡ p.k
  pub candidate : q.candidate ≡ p.candidate
  pub steps : q.steps ≡ p.steps
  pub decision : q.decision ≡ p.decision

-- every answer of a stop of party i, and what it says: 9 and 10 as of a step; 2 exactly if the party has decided, 3 exactly if not. A refusal changes no session;
-- else the party is stopped unless it had decided, and nothing else is changed
pub record StopSays (s : Session) (i : ℕ) : Type 0 where
  pub nine : stop_told s i ≡ told 9 0 ↔ (WellFormed s → ⊥)
  pub ten : stop_told s i ≡ told 10 0 ↔ WellFormed s × (IsParty s i → ⊥)
  pub two : stop_told s i ≡ told 0 Status.decided ↔ WellFormed s × IsParty s i × ((party_of s.parties i).status ≡ Status.decided)
  pub three : stop_told s i ≡ told 0 Status.stopped ↔ WellFormed s × IsParty s i × ((party_of s.parties i).status ≡ Status.decided → ⊥)
  pub kept : ((stop_told s i).number ≡ 0 → ⊥) → stopped s i ≡ s
  pub after : (stop_told s i).number ≡ 0 → StoppedFrom (party_of s.parties i) (party_of (stopped s i).parties i)
  pub others : (j : ℕ) → 1 ≤ j → (j ≡ i → ⊥) → party_of (stopped s i).parties j ≡ party_of s.parties j
  pub marks : (stopped s i).marks ≡ s.marks
  pub published : (stopped s i).published ≡ s.published
  pub sheet : (stopped s i).sheet ≡ s.sheet
  pub proposals : (stopped s i).proposals ≡ s.proposals

-- every answer of live, and what it says: 9 exactly if the session is not well formed, else the number of live parties, which is at most N; 0 exactly if all have
-- decided or stopped, N exactly if none has
pub record LiveSays (s : Session) : Type 0 where
  pub nine : live_told s ≡ told 9 0 ↔ (WellFormed s → ⊥)
  pub given : WellFormed s → live_told s ≡ told 0 (live_number s)
  pub most : (live_told s).value ≤ (layout s).parties
  pub none : live_told s ≡ told 0 0 ↔ WellFormed s × ((i : ℕ) → IsParty s i → Over (party_of s.parties i))
  pub all : live_told s ≡ told 0 (layout s).parties ↔ WellFormed s × ((i : ℕ) → IsParty s i → Live (party_of s.parties i))
