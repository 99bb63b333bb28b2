-- Demand 3, over the rules, over schedules, over what a caller calls, over a run's record and over built sheets: the statements, proved in `proofs/Theorems.antt`.
use Rattle.std.specs.Prelude.{ℕ, ◌^◌, ◌≤◌, ◌<◌, ◌≡◌, List, ◌++◌, length, get_or, T, eqb}
use Rattle.sheet.specs.Rows.{parties_of}
use Rattle.sheet.specs.Lists.{all}
use Rattle.answers.specs.Answers.{done}
use Rattle.builder.specs.Build.{built_sheet}
use Rattle.builder.specs.Given.{Given}
use Rattle.state.specs.Session.{fresh_session}
use Rattle.state.specs.Readings.{of_parties}
use Rattle.state.specs.Opening.{open_answer, opened}
use Rattle.state.specs.declared.kept.Session.{Session}
use Rattle.record.specs.Record.{record_length, of_record}
use Rattle.steps.specs.Calls.{Told}
use Rattle.steps.specs.Run.{byte_ok, moves_in, run_answer, ran, run_out}
use Rattle.steps.specs.Trace.{called, called_told, values_told, acts, acts_told}
use Rattle.steps.specs.Reach.{Leads, Reached, moves_on, Lasting}
use Rattle.agreement.specs.Demand.{Opens, proposal_of, Demand, Demanded, LastingRead}

-- ---- over the rules: any sequence of steps and stops from the fresh session

pub record OfReached (sheet proposals : List ℕ) (s : Session) (R : Reached sheet proposals s) : Type 0 where
  pub demand : Demand (parties_of sheet) proposals s
  pub told :
      Demanded (parties_of sheet) (proposal_of proposals) (moves_on R) (acts (fresh_session sheet proposals (parties_of sheet)) (moves_on R))
      (of_parties s.parties)
  -- whatever steps and stops follow
  pub later : (t : Session) → Leads (parties_of sheet) s t → Lasting (parties_of sheet) proposals s t

abbrev pub OverRules : Type 0
OverRules = (sheet proposals : List ℕ) → Opens sheet proposals → (s : Session) (R : Reached sheet proposals s) → OfReached sheet proposals s R

-- ---- over schedules of good bytes

pub record OfSchedule (sheet proposals schedule : List ℕ) : Type 0 where
  pub demand : Demand (parties_of sheet) proposals (ran sheet proposals schedule)
  pub told :
      Demanded (parties_of sheet) (proposal_of proposals) (moves_in schedule)
      (acts (fresh_session sheet proposals (parties_of sheet)) (moves_in schedule)) (of_parties (ran sheet proposals schedule).parties)
  -- a longer schedule agrees with a shorter
  pub later :
      (more : List ℕ) → T (all (byte_ok (parties_of sheet)) more)
      → Lasting (parties_of sheet) proposals (ran sheet proposals schedule) (ran sheet proposals (schedule ++ more))

-- ---- over the calls: any sequence of public step and stop calls for parties 1 to N on an opened session; what any other call tells and leaves is said in `CallSays`

pub record OfCalls (sheet proposals schedule : List ℕ) : Type 0 where
  -- the opening is done
  pub opens : open_answer sheet proposals ≡ done
  -- no call is refused
  pub unrefused : T (all (λ (t : Told). eqb t.number 0) (called_told (opened sheet proposals) schedule))
  -- the session that they leave is as demanded; own steps are the step calls that told something other than 8
  pub demand : Demand (parties_of sheet) proposals (called (opened sheet proposals) schedule)
  pub told :
      Demanded (parties_of sheet) (proposal_of proposals) (moves_in schedule)
      (λ i. acts_told i (moves_in schedule) (values_told (opened sheet proposals) schedule)) (of_parties (called (opened sheet proposals) schedule).parties)
  -- whatever such calls follow
  pub later :
      (more : List ℕ) → T (all (byte_ok (parties_of sheet)) more)
      → Lasting (parties_of sheet) proposals (called (opened sheet proposals) schedule) (called (opened sheet proposals) (schedule ++ more))

-- ---- over the run's record, with an output that it fits

pub record OfRecord (sheet proposals schedule out : List ℕ) : Type 0 where
  -- the run is done
  pub done : run_answer sheet proposals schedule (length out) ≡ done
  -- what the record's bytes say is as demanded
  pub told :
      Demanded (parties_of sheet) (proposal_of proposals) (moves_in schedule)
      (acts (fresh_session sheet proposals (parties_of sheet)) (moves_in schedule)) (of_record (run_out sheet proposals schedule out))
  -- the record of a longer schedule agrees with that of a shorter
  pub later :
      (more : List ℕ) → T (all (byte_ok (parties_of sheet)) more) → (other : List ℕ) → record_length (parties_of sheet) ≤ length other
      → LastingRead (parties_of sheet) (proposal_of proposals) (of_record (run_out sheet proposals schedule out))
      (of_record (run_out sheet proposals (schedule ++ more) other))

-- ---- every accepted sheet, with proposals of 4 bytes, every schedule of good bytes

-- each of its proposals fits 4 bytes
abbrev pub Words : List ℕ → Type 0
Words proposals = (j : ℕ) → get_or proposals j 0 < 2 ^ 32

-- as entries of the run and as calls; and its record
pub record OfOpening (sheet proposals : List ℕ) : Type 0 where
  pub schedule : (schedule : List ℕ) → T (all (byte_ok (parties_of sheet)) schedule) → OfSchedule sheet proposals schedule
  pub calls : (schedule : List ℕ) → T (all (byte_ok (parties_of sheet)) schedule) → OfCalls sheet proposals schedule
  pub run :
      Words proposals → (schedule : List ℕ) → T (all (byte_ok (parties_of sheet)) schedule)
      → (out : List ℕ) → record_length (parties_of sheet) ≤ length out → OfRecord sheet proposals schedule out

abbrev pub OverOpenings : Type 0
OverOpenings = (sheet proposals : List ℕ) → Opens sheet proposals → OfOpening sheet proposals

-- a built sheet is accepted, so all of this holds of it with no condition
abbrev pub OverBuilt : Type 0
OverBuilt = (kind bound n : ℕ) → Given kind bound n → (proposals : List ℕ) → length proposals ≡ n → OfOpening (built_sheet kind bound n) proposals
