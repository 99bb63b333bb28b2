-- What a call leaves of the bytes that it is lent, and what its word says: the statements about all calls, proved in `proofs/Says.antt`.
use Rattle.std.specs.Prelude.{ℕ, ◌/◌, ◌%◌, ◌^◌, ◌≡◌, ◌≢◌, List, length, drop}
use Rattle.sheet.specs.Rows.{sheet_length, parties_of}
use Rattle.answers.specs.Answers.{Answer}
use Rattle.rules.specs.Check.{check_answer}
use Rattle.builder.specs.Build.{build_answer, out_after}
use Rattle.record.specs.Record.{record_length}
use Rattle.steps.specs.Calls.{Told}
use Rattle.host.specs.Word.{answer_word, told_word}
use Rattle.host.specs.Calls.{host_open, open_bytes, host_step, step_bytes, host_stop, stop_bytes, host_live, host_run, run_bytes}

-- ---- a refusal changes no lent byte and no session

-- bytes that a call is lent, at entry and afterwards: an answer whose number is not 0 changes none, and none changes their count
pub record Leaves (number : ℕ) (entry exit : List ℕ) : Type 0 where
  pub kept : number ≢ 0 → exit ≡ entry
  pub count : length exit ≡ length entry

-- what is past the first n bytes is as it was
abbrev pub SamePast : ℕ → List ℕ → List ℕ → Type 0
SamePast n entry exit = drop n exit ≡ drop n entry

-- of each call that may change what it is lent, whatever it is lent
pub record RefusalsKeep : Type 0 where
  pub build : (kind bound n : ℕ) (out : List ℕ) → Leaves (build_answer kind bound n (length out)).number out (out_after kind bound n out)
  pub build_past : (kind bound n : ℕ) (out : List ℕ) → SamePast (sheet_length n) out (out_after kind bound n out)
  pub opening :
      (sheet proposals session : List ℕ)
      → Leaves (host_open sheet proposals (length session)).number session (open_bytes sheet proposals session)
  pub step : (session : List ℕ) (party : ℕ) → Leaves (host_step session party).number session (step_bytes session party)
  pub stop : (session : List ℕ) (party : ℕ) → Leaves (host_stop session party).number session (stop_bytes session party)
  pub run :
      (sheet proposals schedule out : List ℕ)
      → Leaves (host_run sheet proposals schedule (length out)).number out (run_bytes sheet proposals schedule out)
  pub run_past :
      (sheet proposals schedule out : List ℕ) → SamePast (record_length (parties_of sheet)) out (run_bytes sheet proposals schedule out)

-- ---- the value is 0 in a refused answer, and the position except for 5, 6 and 8

abbrev pub NoPosition : ℕ → ℕ → Type 0
NoPosition number position = number ≢ 5 → number ≢ 6 → number ≢ 8 → position ≡ 0

-- an answer that has no value
abbrev pub AnswerZeros : Answer → Type 0
AnswerZeros a = NoPosition a.number a.position

-- what a call on a session tells
pub record ToldZeros (t : Told) : Type 0 where
  pub value : t.number ≢ 0 → t.value ≡ 0
  pub position : NoPosition t.number t.position

pub record RefusedValue : Type 0 where
  pub check : (sheet : List ℕ) → AnswerZeros (check_answer sheet)
  pub build : (kind bound n len : ℕ) → AnswerZeros (build_answer kind bound n len)
  pub opening : (sheet proposals : List ℕ) (len : ℕ) → AnswerZeros (host_open sheet proposals len)
  pub step : (session : List ℕ) (party : ℕ) → ToldZeros (host_step session party)
  pub stop : (session : List ℕ) (party : ℕ) → ToldZeros (host_stop session party)
  pub live : (session : List ℕ) → ToldZeros (host_live session)
  pub run : (sheet proposals schedule : List ℕ) (len : ℕ) → AnswerZeros (host_run sheet proposals schedule len)

-- ---- packing loses nothing: each field of an answer is read back from its word

-- bits 0 to 7 the number, bits 8 to 31 the value, bits 32 to 63 the position
pub record ReadBack (word number value position : ℕ) : Type 0 where
  pub read_number : word % 256 ≡ number
  pub read_value : word / 256 % 2 ^ 24 ≡ value
  pub read_position : word / 2 ^ 32 ≡ position

-- an answer that has no value is read as one with the value 0
abbrev pub AnswerRead : Answer → Type 0
AnswerRead a = ReadBack (answer_word a) a.number 0 a.position

abbrev pub ToldRead : Told → Type 0
ToldRead t = ReadBack (told_word t) t.number t.value t.position

pub record FieldsRead : Type 0 where
  pub check : (sheet : List ℕ) → AnswerRead (check_answer sheet)
  pub build : (kind bound n len : ℕ) → AnswerRead (build_answer kind bound n len)
  pub opening : (sheet proposals : List ℕ) (len : ℕ) → AnswerRead (host_open sheet proposals len)
  pub step : (session : List ℕ) (party : ℕ) → ToldRead (host_step session party)
  pub stop : (session : List ℕ) (party : ℕ) → ToldRead (host_stop session party)
  pub live : (session : List ℕ) → ToldRead (host_live session)
  pub run : (sheet proposals schedule : List ℕ) (len : ℕ) → AnswerRead (host_run sheet proposals schedule len)
