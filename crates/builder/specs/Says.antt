-- What the builder's answers and a built sheet tell: the statements about the builder, proved in `proofs/Theorems.antt`.
use Rattle.std.specs.Prelude.{ℕ, ◌≤◌, ◌<◌, ◌≡◌, List, ◌++◌, ◌↔◌, length, drop}
use Rattle.sheet.specs.Rows.{layout_of, sheet_length}
use Rattle.answers.specs.Answers.{answer, done}
use Rattle.rules.specs.Check.{check_answer}
use Rattle.sheet.specs.Words.{IsSlot}
use Rattle.sheet.specs.declared.rows.Slot.{Slot}
use Rattle.builder.specs.Build.{built, built_row, built_sheet, build_answer, out_after}
use Rattle.builder.specs.Given.{InRange, Given}

-- every answer of the builder for these numbers and this output, and what it says: done exactly if the numbers are in range, there is a sheet for them and
-- the output has room for it; refused with 3, 12 or 11 exactly if that is the first of the three that fails. At done the output is the sheet, and past it
-- what was there; after a refusal it is as it was
pub record BuildSays (kind bound n : ℕ) (out : List ℕ) : Type 0 where
  pub written : build_answer kind bound n (length out) ≡ done ↔ Given kind bound n × (sheet_length n ≤ length out)
  pub three : build_answer kind bound n (length out) ≡ answer 3 0 ↔ (InRange kind bound n → ⊥)
  pub twelve : build_answer kind bound n (length out) ≡ answer 12 0 ↔ InRange kind bound n × (Given kind bound n → ⊥)
  pub eleven : build_answer kind bound n (length out) ≡ answer 11 0 ↔ Given kind bound n × (length out < sheet_length n)
  pub output : build_answer kind bound n (length out) ≡ done → out_after kind bound n out ≡ built_sheet kind bound n ++ drop (sheet_length n) out
  pub kept : (build_answer kind bound n (length out) ≡ done → ⊥) → out_after kind bound n out ≡ out

-- a built sheet reads back as what the rules spell out, and is accepted
pub record BuiltSays (kind bound n : ℕ) : Type 0 where
  pub whole : length (built_sheet kind bound n) ≡ sheet_length n
  pub read_kind : (layout_of (built_sheet kind bound n)).kind ≡ kind
  pub read_bound : (layout_of (built_sheet kind bound n)).bound ≡ bound
  pub read_parties : (layout_of (built_sheet kind bound n)).parties ≡ n
  pub read_units : (layout_of (built_sheet kind bound n)).units ≡ (built kind bound n).units
  pub read_rows : (p : Slot) → IsSlot n p → (layout_of (built_sheet kind bound n)).row p ≡ built_row kind bound p
  pub accepted : check_answer (built_sheet kind bound n) ≡ done
