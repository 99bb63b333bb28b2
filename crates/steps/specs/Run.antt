-- The run: what a schedule does from a fresh session, the call's answer, and the output afterwards.
use Rattle.std.specs.Prelude.{ℕ, ◌+◌, ◌-◌, List, [], ◌∷◌, ◌++◌, map, Bool, ◌||◌, cond, length, drop, ltb, eqb}
use Rattle.sheet.specs.Rows.{parties_of}
use Rattle.sheet.specs.Lists.{first_bad, within}
use Rattle.answers.specs.Answers.{Answer, answer, done}
use Rattle.state.specs.Session.{fresh_session}
use Rattle.state.specs.Opening.{open_answer}
use Rattle.state.specs.declared.kept.Session.{Session}
use Rattle.record.specs.Record.{record_length, record_bytes}
use Rattle.steps.specs.Step.{step, stop}
use Rattle.steps.specs.Moves.{Move, step_of, stop_of}

-- ---- the schedule

-- byte i (1 to N) is a step of party i, byte 128 + i its stop
abbrev pub byte_ok : ℕ → ℕ → Bool
byte_ok n b = within 1 n b || within 129 (128 + n) b

-- the step or stop that a byte stands for, and those of a schedule
abbrev pub move_of : ℕ → Move
move_of b = cond (ltb b 128) (step_of b) (stop_of (b - 128))

abbrev pub moves_in : List ℕ → List Move
moves_in schedule = map move_of schedule

-- what a byte makes of a session
abbrev pub entry : Session → ℕ → Session
entry s b = cond (ltb b 128) (step s b) (stop s (b - 128))

-- it obeys each byte in turn
abbrev pub obeyed : Session → List ℕ → Session
obeyed s [] = s
obeyed s (b ∷ bs) = obeyed (entry s b) bs

-- ---- the call: sheet, 7, 8 (index of the first bad byte, counted from 0), 11

abbrev pub run_answer : List ℕ → List ℕ → List ℕ → ℕ → Answer
run_answer sheet proposals schedule len =
    let n = parties_of sheet in
    let bad = first_bad (byte_ok n) 1 schedule in
    cond (eqb (open_answer sheet proposals).number 0)
    (cond (eqb bad 0) (cond (ltb len (record_length n)) (answer 11 0) done) (answer 8 (bad - 1)))
    (open_answer sheet proposals)

-- the session that the schedule leads to
abbrev pub ran : List ℕ → List ℕ → List ℕ → Session
ran sheet proposals schedule = obeyed (fresh_session sheet proposals (parties_of sheet)) schedule

-- the output afterwards: the record, and past it what was there; after a refusal all that was there
abbrev pub run_out : List ℕ → List ℕ → List ℕ → List ℕ → List ℕ
run_out sheet proposals schedule out =
    let n = parties_of sheet in
    cond (eqb (run_answer sheet proposals schedule (length out)).number 0)
    (record_bytes n (ran sheet proposals schedule).parties ++ drop (record_length n) out) out
