-- What the answers tell: the statements about the check, proved in `proofs/Theorems.antt`.
use Rattle.std.specs.Prelude.{ℕ, ◌≡◌, List, ◌↔◌}
use Rattle.answers.specs.Answers.{answer, done}
use Rattle.sheet.specs.Rows.{layout_of}
use Rattle.rules.specs.Check.{check_answer}
use Rattle.rules.specs.Words.{RowRule, WriterRule, FirstFailing, Rules1, Rules2, Rules3, Rules4, Rules5, Rules6}

-- every answer of the check of s, and what it says: accepted exactly if every rule holds; refused with n exactly if the rules before n hold and n's does not,
-- with the first failing row for 5 and 6, else 0
pub record CheckSays (s : List ℕ) : Type 0 where
  pub accepted : check_answer s ≡ done ↔ Rules6 s
  pub one : check_answer s ≡ answer 1 0 ↔ (Rules1 s → ⊥)
  pub two : check_answer s ≡ answer 2 0 ↔ Rules1 s × (Rules2 s → ⊥)
  pub three : check_answer s ≡ answer 3 0 ↔ Rules2 s × (Rules3 s → ⊥)
  pub four : check_answer s ≡ answer 4 0 ↔ Rules3 s × (Rules4 s → ⊥)
  pub five : (k : ℕ) → check_answer s ≡ answer 5 k ↔ Rules4 s × FirstFailing RowRule (layout_of s) k
  pub six : (k : ℕ) → check_answer s ≡ answer 6 k ↔ Rules5 s × FirstFailing WriterRule (layout_of s) k
