-- The calls on a session: their refusals in their order, what they answer, and the session afterwards.
use Rattle.std.specs.Prelude.{ℕ, suc, List, [], ◌∷◌, Bool, ◌&&◌, cond, Result, Ok, Err}
use Rattle.sheet.specs.Lists.{from, within}
use Rattle.answers.specs.Answers.{number_of, position_of}
use Rattle.answers.specs.declared.Refusal.{Refusal}
use Rattle.state.specs.Session.{layout, party_of}
use Rattle.state.specs.WellFormed.{well_formed}
use Rattle.state.specs.declared.kept.Session.{Session}
use Rattle.steps.specs.Step.{is_live, step, place_acted, stop}

-- ---- what a call tells: a number and a position, and a value (place, status, live number), which is 0 in a refused answer
pub record Told : Type 0 where
  pub number : ℕ
  pub value : ℕ
  pub position : ℕ

abbrev pub told : ℕ → ℕ → Told
told n v = record { number = n; value = v; position = 0 }

-- document 01's numbers for each case of a call's result, in whose value a number is read
abbrev pub told_by : {A : Type 0} → (A → ℕ) → Result A Refusal → Told
told_by value (Ok a) = told 0 (value a)
told_by value (Err r) = record { number = number_of r; value = 0; position = position_of r }

-- of a call that gives a place, a status or a live number
abbrev pub told_of : Result ℕ Refusal → Told
told_of = told_by (λ v. v)

-- ---- step and stop: 9, 10

-- 9, then 10, or what is asked
abbrev pub unless_refused : Session → ℕ → ℕ → Told
unless_refused s i value = cond (well_formed s) (cond (within 1 (layout s).parties i) (told 0 value) (told 10 0)) (told 9 0)

-- a refusal changes nothing
abbrev pub unless_kept : Session → ℕ → Session → Session
unless_kept s i after = cond (well_formed s && within 1 (layout s).parties i) after s

abbrev pub step_told : Session → ℕ → Told
step_told s i = unless_refused s i (place_acted s i)

abbrev pub stepped : Session → ℕ → Session
stepped s i = unless_kept s i (step s i)

-- the status afterwards
abbrev pub stop_told : Session → ℕ → Told
stop_told s i = unless_refused s i (party_of (stop s i).parties i).status

abbrev pub stopped : Session → ℕ → Session
stopped s i = unless_kept s i (stop s i)

-- ---- live: 9

-- how many of the numbers a test holds of
abbrev pub count_of : (ℕ → Bool) → List ℕ → ℕ
count_of f [] = 0
count_of f (x ∷ xs) = let r = count_of f xs in cond (f x) (suc r) r

-- the number of parties with status 0 or 1
abbrev pub live_number : Session → ℕ
live_number s = count_of (λ i. is_live (party_of s.parties i)) (from 1 (layout s).parties)

abbrev pub live_told : Session → Told
live_told s = cond (well_formed s) (told 0 (live_number s)) (told 9 0)
