-- Each step limit is reached: for one, two and three parties a schedule on which a party takes as many own steps as it may. Both sides compute.
use Prim.Native.Nat.{ℕ}
use mathlib.Core.Path.{◌≡◌, refl}
use mathlib.Core.List.{List, [], ◌∷◌, ◌++◌}
use lib.ListN.{take, replicate}
use Rattle.builder.specs.Build.{built_sheet}
use Rattle.state.specs.Session.{party_of}
use Rattle.steps.specs.Step.{won, next_k, lowers_win, seen, party_after, marks_after, published_after, step, stop}
use Rattle.steps.specs.Run.{ran}
use Rattle.steps.specs.Reach.{step_limit}

-- on this schedule party i of n takes as many own steps as it may
abbrev pub Reaches : ℕ → ℕ → ℕ → List ℕ → Type 0
Reaches bound n i schedule =
    (party_of (ran (built_sheet 1 bound n) (take n (500 ∷ 600 ∷ 700 ∷ [])) schedule).parties i).steps ≡ step_limit n i

abbrev pub times : ℕ → ℕ → List ℕ
times i n = replicate n i

pub tight_1 : Reaches 3 1 1 (times 1 2)
unfolding won next_k lowers_win seen party_after marks_after published_after step stop
tight_1 = refl

pub tight_2 :
    Reaches 3 2 1 (times 1 3 ++ times 2 2 ++ times 1 4)
    × Reaches 3 2 2 (times 1 3 ++ times 2 6)
unfolding won next_k lowers_win seen party_after marks_after published_after step stop
tight_2 = (refl, refl)

pub tight_3 :
    Reaches 5 3 1 (times 1 2 ++ times 2 3 ++ times 1 5 ++ times 2 2 ++ times 3 2 ++ times 1 7)
    × Reaches 5 3 2 (times 1 5 ++ times 2 7 ++ times 3 2 ++ times 1 1 ++ times 2 6)
    × Reaches 5 3 3 (times 1 5 ++ times 2 7 ++ times 3 2 ++ times 1 1 ++ times 3 6)
unfolding won next_k lowers_win seen party_after marks_after published_after step stop
tight_3 = (refl, refl, refl)
