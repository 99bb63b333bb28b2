-- Steps and stops one after the other, how many steps a party is given before any stop of its own, and whether there is one.
use Rattle.std.specs.Prelude.{ℕ, suc, List, [], ◌∷◌, Bool, false, ◌||◌, cond, eqb}
use Rattle.state.specs.declared.kept.Session.{Session}
use Rattle.steps.specs.Step.{step, stop}

-- a step or a stop of party i
pub data Move : Type 0 where
  step_of : ℕ → Move
  stop_of : ℕ → Move

-- whose it is
abbrev pub whose : Move → ℕ
whose (step_of i) = i
whose (stop_of i) = i

-- what it makes of a session
abbrev pub moved : Session → Move → Session
moved s (step_of i) = step s i
moved s (stop_of i) = stop s i

-- each in turn
abbrev pub moved_by : Session → List Move → Session
moved_by s [] = s
moved_by s (m ∷ ms) = moved_by (moved s m) ms

-- how many steps of party i come before any stop of its own
abbrev pub steps_before : ℕ → List Move → ℕ
steps_before i [] = 0
steps_before i (step_of j ∷ ms) = let r = steps_before i ms in cond (eqb j i) (suc r) r
steps_before i (stop_of j ∷ ms) = let r = steps_before i ms in cond (eqb j i) 0 r

-- a stop of party i is among them
abbrev pub stops_in : ℕ → List Move → Bool
stops_in i [] = false
stops_in i (step_of j ∷ ms) = stops_in i ms
stops_in i (stop_of j ∷ ms) = eqb j i || stops_in i ms
