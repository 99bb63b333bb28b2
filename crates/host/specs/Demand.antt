-- Demand 3, over the bytes of a session and the words of the calls on it, and over the run's word and bytes. Each statement is proved in `proofs/Theorems.antt`.
use Rattle.std.specs.Prelude.{ℕ, ◌-◌, ◌*◌, ◌/◌, ◌%◌, ◌^◌, ◌≤◌, ◌≡◌, ◌↔◌, List, [], ◌∷◌, ◌++◌, map, cond, length, drop, T}
use Rattle.sheet.specs.Rows.{parties_of}
use Rattle.sheet.specs.Lists.{within, all}
use Rattle.sheet.specs.Bytes.{num}
use Rattle.answers.specs.Answers.{done}
use Rattle.rules.specs.Check.{check_answer}
use Rattle.builder.specs.Build.{built_sheet}
use Rattle.builder.specs.Given.{Given}
use Rattle.state.specs.Session.{fresh_session}
use Rattle.state.specs.Status as Status
use Rattle.image.specs.Sizes.{session_length}
use Rattle.image.specs.Image.{party_from, party_place, of_image, Below}
use Rattle.record.specs.Record.{record_length, of_record}
use Rattle.steps.specs.Moves.{Move, step_of, stop_of, whose}
use Rattle.steps.specs.Run.{byte_ok, moves_in}
use Rattle.steps.specs.Trace.{acts, acts_told}
use Rattle.agreement.specs.Demand.{Demanded, LastingRead}
use Rattle.host.specs.Word.{answer_word, told_word}
use Rattle.host.specs.Calls.{proposals_for, host_open, open_bytes, host_step, step_bytes, host_stop, stop_bytes, last_index, host_run, run_bytes}

-- the proposal of party h, of 4 bytes each
abbrev pub proposal_in : List ℕ → ℕ → ℕ
proposal_in proposals h = num proposals (4 * (h - 1)) 4

-- ---- calls on the bytes of a session: a step or a stop of any number, also of one that is no party

-- the bytes after a call
abbrev pub after : List ℕ → Move → List ℕ
after bytes (step_of i) = step_bytes bytes i
after bytes (stop_of i) = stop_bytes bytes i

-- the word that it answers
abbrev pub call_word : List ℕ → Move → ℕ
call_word bytes (step_of i) = told_word (host_step bytes i)
call_word bytes (stop_of i) = told_word (host_stop bytes i)

-- each call in turn, on the bytes that the one before left
abbrev pub after_all : List ℕ → List Move → List ℕ
after_all bytes [] = bytes
after_all bytes (c ∷ cs) = after_all (after bytes c) cs

-- the words that they answer
abbrev pub words_of : List ℕ → List Move → List ℕ
words_of bytes [] = []
words_of bytes (c ∷ cs) = call_word bytes c ∷ words_of (after bytes c) cs

-- the values that words say, in bits 8 to 31: places and statuses
abbrev pub values_in : List ℕ → List ℕ
values_in words = map (λ w. w / 256 % 2 ^ 24) words

-- the refusal number of a call: 0 for a party 1 to n, and 10 for any other number
abbrev pub refusal_of : ℕ → Move → ℕ
refusal_of n c = cond (within 1 n (whose c)) 0 10

-- ---- an opening, and any calls

-- the bytes that they leave
abbrev pub left_by : List ℕ → List ℕ → List ℕ → List Move → List ℕ
left_by sheet proposals session calls = after_all (open_bytes sheet proposals session) calls

pub record OfHost (sheet proposals session : List ℕ) (calls : List Move) : Type 0 where
  -- the opening is done
  pub opens : host_open sheet proposals (length session) ≡ done
  -- the bytes are still 3,418
  pub length : length (left_by sheet proposals session calls) ≡ session_length
  -- of each call the refusal number is 0 where it is of a party 1 to N, and 10 otherwise, so never 9
  pub numbers :
      map (λ w. w % 256) (words_of (open_bytes sheet proposals session) calls) ≡ map (refusal_of (parties_of sheet)) calls
  -- what the bytes say is as demanded; own steps are the step calls whose word says something other than 8
  pub told :
      Demanded (parties_of sheet) (proposal_in proposals) calls
      (λ i. acts_told i calls (values_in (words_of (open_bytes sheet proposals session) calls))) (of_image (left_by sheet proposals session calls))
  -- whatever calls follow
  pub later :
      (more : List Move)
      → LastingRead (parties_of sheet) (proposal_in proposals) (of_image (left_by sheet proposals session calls))
      (of_image (left_by sheet proposals session (calls ++ more)))
  -- and what the 11 bytes of a party that has decided or was stopped say stays whole, its candidate with it
  pub rests :
      (more : List Move) (i : ℕ) → 1 ≤ i → i ≤ parties_of sheet → Status.decided ≤ (of_image (left_by sheet proposals session calls)).status i
      → party_from (drop (party_place i) (left_by sheet proposals session (calls ++ more)))
      ≡ party_from (drop (party_place i) (left_by sheet proposals session calls))

-- every opening that is done, with sheet and proposals of bytes, and every list of calls
abbrev pub OverHostCalls : Type 0
OverHostCalls =
    (sheet proposals session : List ℕ) → Below 256 sheet → Below 256 proposals → host_open sheet proposals (length session) ≡ done
    → (calls : List Move) → OfHost sheet proposals session calls

-- ---- a run

pub record OfHostRun (sheet proposals schedule out : List ℕ) : Type 0 where
  -- its word is 0: done
  pub word : answer_word (host_run sheet proposals schedule (length out)) ≡ 0
  -- what its bytes say is as demanded
  pub told :
      Demanded (parties_of sheet) (proposal_in proposals) (moves_in schedule)
      (acts (fresh_session sheet (proposals_for sheet proposals) (parties_of sheet)) (moves_in schedule))
      (of_record (run_bytes sheet proposals schedule out))

-- an accepted sheet, proposals of 4 × N bytes, a schedule of good bytes with none at index 2^32 − 1, and an output that the record fits
pub record Runs (sheet proposals schedule out : List ℕ) : Type 0 where
  pub accepted : check_answer sheet ≡ done
  pub bytes : Below 256 proposals
  pub count : length proposals ≡ 4 * parties_of sheet
  pub good : T (all (byte_ok (parties_of sheet)) schedule)
  pub indexed : length schedule ≤ last_index
  pub room : record_length (parties_of sheet) ≤ length out

-- a run is done exactly so, with proposals of bytes and whatever else it is lent
abbrev pub HostRunDone : Type 0
HostRunDone =
    (sheet proposals schedule out : List ℕ) → Below 256 proposals
    → host_run sheet proposals schedule (length out) ≡ done ↔ Runs sheet proposals schedule out

-- and the record of a longer schedule agrees with that of a shorter
abbrev pub LaterRun : List ℕ → List ℕ → List ℕ → List ℕ → Type 0
LaterRun sheet proposals schedule out =
    (more other : List ℕ) → Runs sheet proposals (schedule ++ more) other
    → LastingRead (parties_of sheet) (proposal_in proposals) (of_record (run_bytes sheet proposals schedule out))
    (of_record (run_bytes sheet proposals (schedule ++ more) other))

abbrev pub OverHostRuns : Type 0
OverHostRuns =
    (sheet proposals schedule out : List ℕ) → Runs sheet proposals schedule out
    → OfHostRun sheet proposals schedule out × LaterRun sheet proposals schedule out

-- ---- a built sheet is accepted, so all of this holds of it with proposals of 4 bytes each, and a session of 3,418

pub record OfHostBuilt (kind bound n : ℕ) (proposals : List ℕ) : Type 0 where
  pub calls : (session : List ℕ) → length session ≡ session_length → (calls : List Move) → OfHost (built_sheet kind bound n) proposals session calls
  pub run :
      (schedule out : List ℕ) → T (all (byte_ok n) schedule) → length schedule ≤ last_index → record_length n ≤ length out
      → OfHostRun (built_sheet kind bound n) proposals schedule out × LaterRun (built_sheet kind bound n) proposals schedule out

abbrev pub OverHostBuilt : Type 0
OverHostBuilt =
    (kind bound n : ℕ) → Given kind bound n → (proposals : List ℕ) → Below 256 proposals → length proposals ≡ 4 * n
    → OfHostBuilt kind bound n proposals
