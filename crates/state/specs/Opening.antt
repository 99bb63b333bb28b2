-- Open: its refusals in their order, and the session that it gives.
use Rattle.std.specs.Prelude.{ℕ, List, [], cond, length, eqb, Result, Ok, Err}
use Rattle.sheet.specs.Rows.{parties_of}
use Rattle.answers.specs.Answers.{Answer, answer, done}
use Rattle.answers.specs.declared.Refusal.{Refusal}
use Rattle.rules.specs.Check.{check_answer}
use Rattle.state.specs.Session.{fresh_session}
use Rattle.state.specs.declared.kept.Session.{Session}

-- ---- open: sheet, 7

abbrev pub open_answer : List ℕ → List ℕ → Answer
open_answer sheet proposals =
    cond (eqb (check_answer sheet).number 0) (cond (eqb (length proposals) (parties_of sheet)) done (answer 7 0)) (check_answer sheet)

-- a refused open gives a session of zeros
abbrev pub opened : List ℕ → List ℕ → Session
opened sheet proposals =
    cond (eqb (open_answer sheet proposals).number 0) (fresh_session sheet proposals (parties_of sheet)) (fresh_session [] [] 0)

-- the session that an open gives: of a refused one zeros
abbrev pub session_given : Result Session Refusal → Session
session_given (Ok s) = s
session_given (Err _) = fresh_session [] [] 0
