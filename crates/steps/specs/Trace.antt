-- A schedule seen from outside: the calls that it stands for, what they tell, and how often a party acts on the way.
use Rattle.std.specs.Prelude.{ℕ, suc, ◌-◌, List, [], ◌∷◌, map, Bool, false, not, ◌&&◌, cond, ltb, eqb}
use Rattle.state.specs.declared.kept.Session.{Session}
use Rattle.steps.specs.Step.{place_acted}
use Rattle.steps.specs.Moves.{Move, step_of, stop_of, whose, moved}
use Rattle.steps.specs.Calls.{Told, step_told, stepped, stop_told, stopped}

-- ---- the calls

-- byte i (1 to N) calls step of party i, byte 128 + i calls stop
abbrev pub call : Session → ℕ → Session
call s b = cond (ltb b 128) (stepped s b) (stopped s (b - 128))

abbrev pub call_told : Session → ℕ → Told
call_told s b = cond (ltb b 128) (step_told s b) (stop_told s (b - 128))

-- each call in turn, on the session that the one before left
abbrev pub called : Session → List ℕ → Session
called s [] = s
called s (b ∷ bs) = called (call s b) bs

-- what they tell
abbrev pub called_told : Session → List ℕ → List Told
called_told s [] = []
called_told s (b ∷ bs) = call_told s b ∷ called_told (call s b) bs

-- the values among it: places and statuses
abbrev pub values_told : Session → List ℕ → List ℕ
values_told s bs = map (λ t. t.value) (called_told s bs)

-- ---- the acts of a party

-- a move is a step of party i, of which something other than 8 was told
abbrev pub is_act : ℕ → Move → ℕ → Bool
is_act i (step_of j) value = eqb j i && not (eqb value 8)
is_act i (stop_of j) value = false

-- how often party i acts on the way
abbrev pub acts : Session → List Move → ℕ → ℕ
acts s [] i = 0
acts s (m ∷ ms) i = let r = acts (moved s m) ms i in cond (is_act i m (place_acted s (whose m))) (suc r) r

-- how many of the moves are its acts by the values that were told
abbrev pub acts_told : ℕ → List Move → List ℕ → ℕ
acts_told i [] values = 0
acts_told i (m ∷ ms) [] = 0
acts_told i (m ∷ ms) (x ∷ values) = let r = acts_told i ms values in cond (is_act i m x) (suc r) r
