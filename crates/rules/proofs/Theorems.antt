-- What the promises rest on for a reader: the statement of `specs/Says.antt`.
use Prim.Native.Nat.{ℕ}
use mathlib.Core.List.{List}
use Rattle.rules.specs.Says.{CheckSays}
use Rattle.rules.proofs.Says.{check_says}

-- every answer of the check, and what it says
pub answers : (s : List ℕ) → CheckSays s
answers = check_says
