-- A schedule's bytes are steps and stops from the fresh session, so what holds of those along a way holds of its entries.
use Prim.Native.Nat.{ℕ}
use mathlib.Core.Path.{sym, subst}
use mathlib.Core.List.{List}
use lib.Dec.{T}
use Rattle.sheet.specs.Rows.{parties_of}
use Rattle.sheet.specs.Lists.{all}
use Rattle.rules.specs.Words.{Rules6}
use Rattle.state.specs.Session.{fresh_session}
use Rattle.state.specs.declared.kept.Session.{Session}
use Rattle.steps.specs.Run.{byte_ok, moves_in, ran}
use Rattle.steps.proofs.Moves.{of_parties_lem, obeyed_moved}
use Rattle.steps.proofs.Given.{Follows, moved_follows}

pub schedule_follows : (sheet proposals : List ℕ) → Rules6 sheet → (schedule : List ℕ) → T (all (byte_ok (parties_of sheet)) schedule)
    → Follows (parties_of sheet) (ran sheet proposals schedule) (moves_in schedule)
schedule_follows sheet proposals rules schedule good =
    subst (λ (s : Session). Follows (parties_of sheet) s (moves_in schedule))
    (sym (obeyed_moved (fresh_session sheet proposals (parties_of sheet)) schedule))
    (moved_follows sheet proposals rules (of_parties_lem (parties_of sheet) rules.before.before.before.header.parties_most schedule good))
