-- What the run's answers and its output tell: the statement about the run, proved in `proofs/RunSays.antt`.
use Rattle.std.specs.Prelude.{ℕ, ◌≤◌, ◌<◌, ◌≡◌, List, ◌++◌, ◌↔◌, length, get_or, drop, T}
use Rattle.sheet.specs.Rows.{parties_of}
use Rattle.sheet.specs.Lists.{all}
use Rattle.answers.specs.Answers.{answer, done}
use Rattle.rules.specs.Check.{check_answer}
use Rattle.rules.specs.Words.{Rules6}
use Rattle.record.specs.Record.{record_length, record_bytes}
use Rattle.steps.specs.Run.{byte_ok, run_answer, ran, run_out}

-- every rule holds of the sheet, and there is a proposal for each party
abbrev pub Openable : List ℕ → List ℕ → Type 0
Openable sheet proposals = Rules6 sheet × (length proposals ≡ parties_of sheet)

-- and every byte of the schedule is good
abbrev pub Obeyable : List ℕ → List ℕ → List ℕ → Type 0
Obeyable sheet proposals schedule = Openable sheet proposals × T (all (byte_ok (parties_of sheet)) schedule)

-- byte k of the schedule, counted from 0, is the first that is bad for n parties
pub record FirstBadByte (n : ℕ) (schedule : List ℕ) (k : ℕ) : Type 0 where
  pub index : k < length schedule
  pub bad : T (byte_ok n (get_or schedule k 0)) → ⊥
  pub earlier : (j : ℕ) → j < k → T (byte_ok n (get_or schedule j 0))

-- every answer of the run for these bytes, these proposals and this output, and what it says: done exactly if every rule holds, there is a proposal for each
-- party, every byte is good and the output has room for the record; else the check's refusal, or 7, 8 with the index of the first bad byte, or 11, exactly if
-- that is the first that is due. At done the output is the record of what the schedule leads to, and past it what was there; after a refusal it is as it was
pub record RunSays (sheet proposals schedule out : List ℕ) : Type 0 where
  pub written :
      run_answer sheet proposals schedule (length out) ≡ done ↔ Obeyable sheet proposals schedule × (record_length (parties_of sheet) ≤ length out)
  pub unaccepted : (check_answer sheet ≡ done → ⊥) → run_answer sheet proposals schedule (length out) ≡ check_answer sheet
  pub seven : run_answer sheet proposals schedule (length out) ≡ answer 7 0 ↔ Rules6 sheet × (length proposals ≡ parties_of sheet → ⊥)
  pub eight :
      (k : ℕ)
      → run_answer sheet proposals schedule (length out) ≡ answer 8 k ↔ Openable sheet proposals × FirstBadByte (parties_of sheet) schedule k
  pub eleven :
      run_answer sheet proposals schedule (length out) ≡ answer 11 0
      ↔ Obeyable sheet proposals schedule × (length out < record_length (parties_of sheet))
  pub output :
      run_answer sheet proposals schedule (length out) ≡ done
      → run_out sheet proposals schedule out
      ≡ record_bytes (parties_of sheet) (ran sheet proposals schedule).parties ++ drop (record_length (parties_of sheet)) out
  pub kept : (run_answer sheet proposals schedule (length out) ≡ done → ⊥) → run_out sheet proposals schedule out ≡ out
