-- Sessions that steps and stops reach from an opening, and what demand 3 says of them.
use Rattle.std.specs.Prelude.{ℕ, ◌+◌, ◌-◌, ◌*◌, ◌≤◌, ◌≡◌, List, [], ◌∷◌, ◌++◌, cond, get_or, eqb}
use Rattle.sheet.specs.Rows.{parties_of}
use Rattle.state.specs.Session.{fresh_session, party_of}
use Rattle.state.specs.Status as Status
use Rattle.state.specs.Place as At
use Rattle.state.specs.declared.kept.Session.{Session}
use Rattle.steps.specs.Step.{step, stop}
use Rattle.steps.specs.Moves.{Move, step_of, stop_of}

-- any sequence of steps and stops of parties 1 to n leads from one session to another
pub data Leads (n : ℕ) (s : Session) : Session → Type 0 where
  here : Leads n s s
  by_step : {t : Session} (i : ℕ) → 1 ≤ i → i ≤ n → Leads n s t → Leads n s (step t i)
  by_stop : {t : Session} (i : ℕ) → 1 ≤ i → i ≤ n → Leads n s t → Leads n s (stop t i)

-- the steps and stops on the way, in their order
unfoldable pub moves_on : {n : ℕ} {s t : Session} → Leads n s t → List Move
moves_on here = []
moves_on (by_step i least most R) = moves_on R ++ (step_of i ∷ [])
moves_on (by_stop i least most R) = moves_on R ++ (stop_of i ∷ [])

-- reached from the fresh session with a sheet and proposals
abbrev pub Reached : List ℕ → List ℕ → Session → Type 0
Reached sheet proposals s = Leads (parties_of sheet) (fresh_session sheet proposals (parties_of sheet)) s

-- all parties that have decided have decided the proposal of one same party h, which has announced
pub record Agreed (n : ℕ) (proposals : List ℕ) (s : Session) (h : ℕ) : Type 0 where
  pub least : 1 ≤ h
  pub most : h ≤ n
  pub candidate : (i : ℕ) → 1 ≤ i → i ≤ n → (party_of s.parties i).status ≡ Status.decided → (party_of s.parties i).candidate ≡ h
  pub decision :
      (i : ℕ) → 1 ≤ i → i ≤ n → (party_of s.parties i).status ≡ Status.decided → (party_of s.parties i).decision ≡ get_or proposals (h - 1) 0
  pub announced : (i : ℕ) → 1 ≤ i → i ≤ n → (party_of s.parties i).status ≡ Status.decided → (party_of s.parties h).place ≡ At.announce → ⊥

-- what was decided stays: from a session to one that comes later
pub record Lasting (n : ℕ) (proposals : List ℕ) (s t : Session) : Type 0 where
  -- the party whose proposal is decided is the same one at both moments
  pub holder : ℕ
  pub before : Agreed n proposals s holder
  pub after : Agreed n proposals t holder
  -- who has decided or was stopped is later what it was, in every entry
  pub rests : (i : ℕ) → 1 ≤ i → i ≤ n → Status.decided ≤ (party_of s.parties i).status → party_of t.parties i ≡ party_of s.parties i

-- the most own steps of party i of n: (n + 1)² − 2 for party 1, (n + 1)² − i² + 1 for the others
abbrev pub step_limit : ℕ → ℕ → ℕ
step_limit n i = cond (eqb i 1) ((n + 1) * (n + 1) - 2) ((n + 1) * (n + 1) - i * i + 1)
