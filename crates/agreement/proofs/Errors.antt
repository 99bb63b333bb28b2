-- Each changed rule has a schedule on which two parties decide differently, or a top fetches nothing: both sides compute.
use mathlib.Core.Path.{◌≡◌, refl}
use mathlib.Core.List.{[], ◌∷◌}
use Rattle.answers.specs.Answers.{answer}
use Rattle.rules.specs.Check.{check_answer}
use Rattle.builder.specs.Build.{built_sheet}
use Rattle.state.specs.Session.{fresh_session}
use Rattle.state.specs.declared.kept.Session.{Session}
use Rattle.steps.specs.Step.{won, next_k, lowers_win, seen, party_after, party_acted, marks_after, published_after}
use Rattle.agreement.specs.Errors.{step_by, steps_by, decisions, candidates, pair_first, last_mark, publish_late, covering_sheet}

-- two parties on the worked sheet
abbrev pub two : Session
two = fresh_session (built_sheet 1 3 2) (500 ∷ 600 ∷ []) 2

-- the pair reads higher because the lower has not yet written, then it writes, and is taken for a witness although the top came first
pub pair_first_lem : decisions 2 (steps_by pair_first two (1 ∷ 1 ∷ 2 ∷ 2 ∷ 2 ∷ 1 ∷ 1 ∷ 1 ∷ 1 ∷ 2 ∷ 2 ∷ 2 ∷ [])) ≡ 600 ∷ 500 ∷ []
unfolding step_by pair_first won next_k lowers_win seen party_after marks_after published_after
pair_first_lem = refl

-- the mark that remains is the later writer's
pub last_mark_lem : decisions 2 (steps_by last_mark two (1 ∷ 1 ∷ 1 ∷ 1 ∷ 1 ∷ 2 ∷ 2 ∷ 2 ∷ 2 ∷ 2 ∷ [])) ≡ 500 ∷ 600 ∷ []
unfolding step_by last_mark won next_k lowers_win seen party_after marks_after published_after
last_mark_lem = refl

-- the top fetches nothing: its candidate becomes 0
pub publish_late_lem : candidates 2 (steps_by publish_late two (1 ∷ 1 ∷ 2 ∷ 2 ∷ 2 ∷ 2 ∷ 2 ∷ [])) ≡ 1 ∷ 0 ∷ []
unfolding step_by publish_late won next_k lowers_win seen party_after marks_after published_after
publish_late_lem = refl

-- the check refuses the covering sheet at its first row
pub covering_refused : check_answer covering_sheet ≡ answer 6 1
covering_refused = refl

-- on it the product's own rules lead to two decisions
pub covering_differs :
    decisions 2 (steps_by party_acted (fresh_session covering_sheet (500 ∷ 600 ∷ []) 2) (1 ∷ 1 ∷ 2 ∷ 2 ∷ 2 ∷ 2 ∷ 1 ∷ 1 ∷ 1 ∷ 1 ∷ 1 ∷ 2 ∷ 2 ∷ []))
    ≡ 600 ∷ 500 ∷ []
unfolding step_by won next_k lowers_win seen party_after marks_after published_after
covering_differs = refl
