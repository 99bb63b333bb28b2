-- The host's calls on sessions and runs: the answer, and the lent bytes afterwards. Proposals are 4 bytes each, a session is 3,418.
use Rattle.std.specs.Prelude.{ℕ, suc, ◌*◌, List, ◌∷◌, ◌++◌, cond, length, take, drop, ltb, eqb}
use Rattle.sheet.specs.Rows.{parties_of}
use Rattle.answers.specs.Answers.{Answer, answer, done}
use Rattle.rules.specs.Check.{check_answer}
use Rattle.state.specs.Session.{fresh_session}
use Rattle.state.specs.declared.kept.Session.{Session}
use Rattle.steps.specs.Calls.{Told, told, step_told, stepped, stop_told, stopped, live_told}
use Rattle.steps.specs.Run.{run_answer, run_out}
use Rattle.image.specs.Sizes.{session_length}
use Rattle.image.specs.Image.{proposals_of, session_bytes, session_of}

-- ---- open and run: sheet, 7

-- the sheet's refusal, then 7 for a proposal slice not of 4 × N bytes, then the rest
abbrev pub unless_unopened : List ℕ → List ℕ → Answer → Answer
unless_unopened sheet proposals rest =
    cond (eqb (check_answer sheet).number 0) (cond (eqb (length proposals) (4 * parties_of sheet)) rest (answer 7 0)) (check_answer sheet)

-- the proposals that a slice says, where it is of 4 × N bytes
abbrev pub proposals_for : List ℕ → List ℕ → List ℕ
proposals_for sheet proposals = proposals_of (parties_of sheet) proposals

-- ---- open: then 11, for a session slice of another length

abbrev pub host_open : List ℕ → List ℕ → ℕ → Answer
host_open sheet proposals len = unless_unopened sheet proposals (cond (eqb len session_length) done (answer 11 0))

abbrev pub open_bytes : List ℕ → List ℕ → List ℕ → List ℕ
open_bytes sheet proposals session =
    cond (eqb (host_open sheet proposals (length session)).number 0)
    (session_bytes (fresh_session sheet (proposals_for sheet proposals) (parties_of sheet))) session

-- ---- step, stop and live: 9 for a session slice of another length, then as on the session that the bytes say

abbrev pub on_session : List ℕ → (Session → Told) → Told
on_session bytes tell = cond (eqb (length bytes) session_length) (tell (session_of bytes)) (told 9 0)

-- the bytes of the session afterwards; a refusal changes nothing
abbrev pub bytes_after : List ℕ → Told → (Session → Session) → List ℕ
bytes_after bytes answer after = cond (eqb answer.number 0) (session_bytes (after (session_of bytes))) bytes

abbrev pub host_step : List ℕ → ℕ → Told
host_step bytes party = on_session bytes (λ s. step_told s party)

abbrev pub step_bytes : List ℕ → ℕ → List ℕ
step_bytes bytes party = bytes_after bytes (host_step bytes party) (λ s. stepped s party)

abbrev pub host_stop : List ℕ → ℕ → Told
host_stop bytes party = on_session bytes (λ s. stop_told s party)

abbrev pub stop_bytes : List ℕ → ℕ → List ℕ
stop_bytes bytes party = bytes_after bytes (host_stop bytes party) (λ s. stopped s party)

abbrev pub host_live : List ℕ → Told
host_live bytes = on_session bytes live_told

-- ---- run: then 8 and 11 as the run's

-- the last index that fits its field, 2 ^ 32 − 1
abbrev pub last_index : ℕ
last_index = 4294967295

-- a schedule whose byte at an index, if there is one, is heard as 0, which is neither a step nor a stop
abbrev pub bad_at : ℕ → List ℕ → List ℕ
bad_at index schedule = cond (ltb index (length schedule)) (take index schedule ++ (0 ∷ drop (suc index) schedule)) schedule

-- the byte at the last index counts as a bad byte
abbrev pub heard : List ℕ → List ℕ
heard schedule = bad_at last_index schedule

abbrev pub host_run : List ℕ → List ℕ → List ℕ → ℕ → Answer
host_run sheet proposals schedule len =
    unless_unopened sheet proposals (run_answer sheet (proposals_for sheet proposals) (heard schedule) len)

abbrev pub run_bytes : List ℕ → List ℕ → List ℕ → List ℕ → List ℕ
run_bytes sheet proposals schedule out =
    cond (eqb (host_run sheet proposals schedule (length out)).number 0) (run_out sheet (proposals_for sheet proposals) schedule out) out
