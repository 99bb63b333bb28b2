-- What the promises rest on for a reader: the statements of `specs/Says.antt`, and the worked sheet.
use Prim.Native.Nat.{ℕ}
use mathlib.Core.Path.{◌≡◌, refl}
use mathlib.Core.List.{List, [], ◌∷◌}
use Rattle.builder.specs.Build.{built_sheet}
use Rattle.builder.specs.Given.{Given}
use Rattle.builder.specs.Says.{BuildSays, BuiltSays}
use Rattle.rules.proofs.Says.{check_says}
use Rattle.builder.proofs.ReadBack.{length_sheet, reads_fields, reads_units, reads_row}
use Rattle.builder.proofs.Keeps.{built_keeps}
use Rattle.builder.proofs.Says.{build_answers}

-- every answer of the builder, and what it says
pub build_says : (kind bound n : ℕ) (out : List ℕ) → BuildSays kind bound n out
build_says = build_answers

-- every sheet that the builder writes reads back, and is accepted
pub built_says : (kind bound n : ℕ) → Given kind bound n → BuiltSays kind bound n
built_says kind bound n g =
    let fields = reads_fields kind bound n g in
    record {
      whole = length_sheet kind bound n g;
      read_kind = fields.1;
      read_bound = fields.2;
      read_parties = fields.3;
      read_units = reads_units kind bound n g;
      read_rows = reads_row kind bound n g;
      accepted = (check_says (built_sheet kind bound n)).accepted.1 (built_keeps kind bound n g);
    }

-- the sheet of document 01 for kind 1, B = 3, N = 2, byte by byte
pub worked_sheet : built_sheet 1 3 2
    ≡ 0x00 ∷ 0x24 ∷ 0x01 ∷ 0x01 ∷ 0x03 ∷ 0x02 ∷ 0x00 ∷ 0x06
    ∷ 0x00 ∷ 0x02 ∷ 0x00 ∷ 0x00 ∷ 0x00 ∷ 0x00 ∷ 0x00 ∷ 0x00 ∷ 0x00 ∷ 0x03 ∷ 0x00 ∷ 0x02 ∷ 0x00 ∷ 0x03
    ∷ 0x00 ∷ 0x03 ∷ 0x00 ∷ 0x00 ∷ 0x00 ∷ 0x00 ∷ 0x00 ∷ 0x00 ∷ 0x00 ∷ 0x07 ∷ 0x00 ∷ 0x04 ∷ 0x00 ∷ 0x00 ∷ []
worked_sheet = refl
