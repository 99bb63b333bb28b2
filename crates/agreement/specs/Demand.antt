-- Demand 3: what it says of a session, and of what is read of the parties after some moves and later.
use Rattle.std.specs.Prelude.{ℕ, ◌-◌, ◌≤◌, ◌≡◌, List, length, get_or, T}
use Rattle.sheet.specs.Rows.{parties_of}
use Rattle.answers.specs.Answers.{done}
use Rattle.rules.specs.Check.{check_answer}
use Rattle.state.specs.Session.{party_of}
use Rattle.state.specs.Status as Status
use Rattle.state.specs.Readings.{Readings}
use Rattle.state.specs.declared.kept.Session.{Session}
use Rattle.steps.specs.Moves.{Move, steps_before, stops_in}
use Rattle.steps.specs.Reach.{Agreed, step_limit}

-- a sheet that the check accepts, and a proposal for each of its parties
pub record Opens (sheet proposals : List ℕ) : Type 0 where
  pub accepted : check_answer sheet ≡ done
  pub count : length proposals ≡ parties_of sheet

-- the proposal of party h
abbrev pub proposal_of : List ℕ → ℕ → ℕ
proposal_of proposals h = get_or proposals (h - 1) 0

-- ---- of a session of n parties

pub record Demand (n : ℕ) (proposals : List ℕ) (s : Session) : Type 0 where
  -- 1. there is one party such that every party that has decided has its proposal as decision and it as candidate, and it has announced
  -- a constant meets this only if it is the proposal of a party that has announced, whatever the proposals are
  pub holder : ℕ
  pub agreed : Agreed n proposals s holder
  -- 2. no party takes more own steps than its limit, and one that has taken them has decided
  pub most : (i : ℕ) → 1 ≤ i → i ≤ n → (party_of s.parties i).steps ≤ step_limit n i
  pub decides : (i : ℕ) → 1 ≤ i → i ≤ n → step_limit n i ≤ (party_of s.parties i).steps → (party_of s.parties i).status ≡ Status.decided

-- ---- of what is read of n parties after some moves, in which party i acted so often

pub record Demanded (n : ℕ) (proposal : ℕ → ℕ) (moves : List Move) (acts : ℕ → ℕ) (r : Readings) : Type 0 where
  -- 1. every party that has decided has decided the proposal of one same party, which has taken an own step
  pub holder : ℕ
  pub holder_least : 1 ≤ holder
  pub holder_most : holder ≤ n
  pub agreed : (i : ℕ) → 1 ≤ i → i ≤ n → r.status i ≡ Status.decided → r.decision i ≡ proposal holder
  pub announced : (i : ℕ) → 1 ≤ i → i ≤ n → r.status i ≡ Status.decided → 1 ≤ r.steps holder
  -- who has not decided has no decision
  pub undecided : (i : ℕ) → 1 ≤ i → i ≤ n → (r.status i ≡ Status.decided → ⊥) → r.decision i ≡ 0
  -- 2. own steps are the acts; no party has more of them than its limit, and one that has them has decided
  pub own_steps : (i : ℕ) → 1 ≤ i → i ≤ n → r.steps i ≡ acts i
  pub most : (i : ℕ) → 1 ≤ i → i ≤ n → r.steps i ≤ step_limit n i
  pub decides : (i : ℕ) → 1 ≤ i → i ≤ n → step_limit n i ≤ r.steps i → r.status i ≡ Status.decided
  -- 3. and one that was given as many steps as its limit before any stop of its own has decided: a silent step takes nothing off
  pub enough : (i : ℕ) → 1 ≤ i → i ≤ n → step_limit n i ≤ steps_before i moves → r.status i ≡ Status.decided
  -- 4. who has not decided is stopped if a stop of its own came; else it is running if it has acted, and idle if not
  pub stopped : (i : ℕ) → 1 ≤ i → i ≤ n → (r.status i ≡ Status.decided → ⊥) → T (stops_in i moves) → r.status i ≡ Status.stopped
  pub running :
      (i : ℕ) → 1 ≤ i → i ≤ n → (r.status i ≡ Status.decided → ⊥) → (T (stops_in i moves) → ⊥) → 1 ≤ acts i → r.status i ≡ Status.running
  pub idle : (i : ℕ) → 1 ≤ i → i ≤ n → (T (stops_in i moves) → ⊥) → acts i ≡ 0 → r.status i ≡ Status.idle

-- ---- of what is read and what is read later

-- the same is read of party i
pub record SameRead (r later : Readings) (i : ℕ) : Type 0 where
  pub status : later.status i ≡ r.status i
  pub steps : later.steps i ≡ r.steps i
  pub decision : later.decision i ≡ r.decision i

pub record LastingRead (n : ℕ) (proposal : ℕ → ℕ) (r later : Readings) : Type 0 where
  -- the party whose proposal is decided is the same one at both moments
  pub holder : ℕ
  pub holder_least : 1 ≤ holder
  pub holder_most : holder ≤ n
  pub before : (i : ℕ) → 1 ≤ i → i ≤ n → r.status i ≡ Status.decided → r.decision i ≡ proposal holder
  pub after : (i : ℕ) → 1 ≤ i → i ≤ n → later.status i ≡ Status.decided → later.decision i ≡ proposal holder
  pub announced : (i : ℕ) → 1 ≤ i → i ≤ n → r.status i ≡ Status.decided → 1 ≤ r.steps holder
  -- who has decided or was stopped is later read as before
  pub rests : (i : ℕ) → 1 ≤ i → i ≤ n → Status.decided ≤ r.status i → SameRead r later i
