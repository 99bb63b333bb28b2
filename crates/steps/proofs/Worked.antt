-- Both sides compute: one test over the whole list.
use Rattle.steps.specs.Step.{won, next_k, lowers_win, seen, party_after, marks_after, published_after, step, stop}
use mathlib.Core.Path.{◌≡◌, refl}
use mathlib.Core.List.{[], ◌∷◌}
use lib.ListN.{replicate}
use Rattle.builder.specs.Build.{built_sheet}
use Rattle.steps.specs.Run.{run_out}
use Rattle.steps.specs.Worked.{cases, Every}

pub worked : Every cases
unfolding cases won next_k lowers_win seen party_after marks_after published_after step stop
worked = (
  (refl, refl),
  (
    (refl, refl),
    (
      (refl, refl),
      (
        (refl, refl),
        (
          (refl, refl),
          (
            (refl, refl),
            (
              (refl, refl),
              (
                (refl, refl),
                ((refl, refl), ((refl, refl), ((refl, refl), (refl, (refl, (refl, (refl, (refl, tt)))))))),
              ),
            ),
          ),
        ),
      ),
    ),
  ),
)

-- P2's record, byte by byte
pub worked_record : run_out (built_sheet 1 3 2) (500 ∷ 600 ∷ []) (1 ∷ 1 ∷ 1 ∷ 1 ∷ 1 ∷ []) (replicate 18 0)
    ≡ 0x00 ∷ 0x12 ∷ 0x01 ∷ 0x02 ∷ 0x02 ∷ 0x00 ∷ 0x05 ∷ 0x00 ∷ 0x00 ∷ 0x01 ∷ 0xF4 ∷ 0x00 ∷ 0x00 ∷ 0x00 ∷ 0x00 ∷ 0x00 ∷ 0x00 ∷ 0x00 ∷ []
unfolding won next_k lowers_win seen party_after marks_after published_after step stop
worked_record = refl
