-- The sessions worked through: one list of cases, and what the rules say of each.
use Rattle.std.specs.Prelude.{ℕ, ◌≡◌, List, [], ◌∷◌, ◌++◌, take, replicate}
use Rattle.sheet.specs.Sizes.{most_sheet}
use Rattle.sheet.specs.Bytes.{bytes_of}
use Rattle.answers.specs.Answers.{answer, done}
use Rattle.builder.specs.Build.{built_sheet, build_answer}
use Rattle.record.specs.Record.{record_length, record_head}
use Rattle.steps.specs.Run.{run_answer, run_out}

-- what a party ends with: status, own steps, decision
pub record End : Type 0 where
  pub status : ℕ
  pub steps : ℕ
  pub decision : ℕ

abbrev pub end : ℕ → ℕ → ℕ → End
end s n d = record { status = s; steps = n; decision = d }

abbrev pub idle : End
idle = end 0 0 0

pub data Case : Type 0 where
  -- a builder sheet of kind 1 with bound B for N parties, a schedule, and what each party ends with
  session : (bound n : ℕ) → (schedule : List ℕ) → (ends : List End) → Case
  -- the builder's answer for a kind, a bound and N: given (0) or refused (12)
  builder : (kind bound n number : ℕ) → Case

-- n steps of party i
abbrev pub times : ℕ → ℕ → List ℕ
times i n = replicate n i

unfoldable pub cases : List Case
cases =
    -- P1. N = 1, B = 3: party 1 decides 500 at its step 2
    session 3 1 (times 1 2) (end 2 2 500 ∷ [])
    -- P2. N = 2, 1 five times: decides 500 at step 5
    ∷ session 3 2 (times 1 5) (end 2 5 500 ∷ idle ∷ [])
    -- P3. N = 2, 2 four times: decides 600 at step 4
    ∷ session 3 2 (times 2 4) (idle ∷ end 2 4 600 ∷ [])
    -- P4. 2, 2, then 1 seven times: party 1 decides 600 at its step 7. Then 2 three times: 600 at its step 5
    ∷ session 3 2 (times 2 2 ++ times 1 7) (end 2 7 600 ∷ end 1 2 0 ∷ [])
    ∷ session 3 2 (times 2 2 ++ times 1 7 ++ times 2 3) (end 2 7 600 ∷ end 2 5 600 ∷ [])
    -- P5. 1 three times, then 2 six times: party 2 decides 500 at its step 6. Then 1 four times: 500 at its step 7
    ∷ session 3 2 (times 1 3 ++ times 2 6) (end 1 3 0 ∷ end 2 6 500 ∷ [])
    ∷ session 3 2 (times 1 3 ++ times 2 6 ++ times 1 4) (end 2 7 500 ∷ end 2 6 500 ∷ [])
    -- P6. 1, 1, stop 1, then 2 four times: 600
    ∷ session 3 2 (times 1 2 ++ (129 ∷ times 2 4)) (end 3 2 0 ∷ end 2 4 600 ∷ [])
    -- P7. 1, 1, 1, stop 1, then 2 six times: 500, by a party that never decides
    ∷ session 3 2 (times 1 3 ++ (129 ∷ times 2 6)) (end 3 3 0 ∷ end 2 6 500 ∷ [])
    -- P8. N = 3, party 1 alone 8 steps, then 2 alone 9, then 3 alone 6: all decide 500
    ∷ session 5 3 (times 1 8 ++ times 2 9 ++ times 3 6) (end 2 8 500 ∷ end 2 9 500 ∷ end 2 6 500 ∷ [])
    -- P9. N = 3, party 3 alone: 700 at step 5
    ∷ session 5 3 (times 3 5) (idle ∷ idle ∷ end 2 5 700 ∷ [])
    -- P10. Builder, kind 2, N = 16: A = 31 given, A = 30 refused 12. Kind 1, N = 3: B = 5 given, B = 4 refused 12. N = 4, B = 64: refused 12
    ∷ builder 2 31 16 0
    ∷ builder 2 30 16 12
    ∷ builder 1 5 3 0
    ∷ builder 1 4 3 12
    ∷ builder 1 64 4 12
    ∷ []

-- the bytes of what the parties end with
abbrev pub end_bytes : List End → List ℕ
end_bytes [] = []
end_bytes (e ∷ es) = (e.status ∷ (bytes_of 2 e.steps ++ bytes_of 4 e.decision)) ++ end_bytes es

-- the run of the schedule with proposals 500, 600, 700 is done and its record has these ends; the builder's answer has this number
abbrev pub Holds : Case → Type 0
Holds (session b n schedule ends) =
    (run_answer (built_sheet 1 b n) (take n (500 ∷ 600 ∷ 700 ∷ [])) schedule (record_length n) ≡ done)
    × (run_out (built_sheet 1 b n) (take n (500 ∷ 600 ∷ 700 ∷ [])) schedule (replicate (record_length n) 0) ≡ record_head n ++ end_bytes ends)
Holds (builder kind bound n number) = build_answer kind bound n most_sheet ≡ answer number 0

abbrev pub Every : List Case → Type 0
Every [] = Unit
Every (c ∷ cs) = Holds c × Every cs
