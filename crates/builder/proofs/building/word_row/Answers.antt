-- A round's word starts at most at 14 × 64 and its powers are below 2 ^ 33, so all fits; the masks are the closed forms of their units.
use Rattle.std.proofs.Common.{arith}
use borrow.Author.Tests.{eq-eqb}
use lib.Pow.{pow_mono}
use Rattle.builder.specs.Build.{word_of}
use Rattle.builder.proofs.Masks.{top_mask}
use Rattle.builder.proofs.building.word_row.Goals as goal

pub overflow_sub-result : goal.overflow_sub-result
overflow_sub-result c = grind (arith, pow_mono)

pub returns-then-i-r : goal.returns-then-i-r
returns-then-i-r c =
    simp (
      eq-eqb _ _ c.if-i-r.true,
      top_mask (word_of c.args.bound c.args.p.round) c.args.p.round (omega arith),
      c.power.ensures,
      c.power-then-i-r.ensures,
    )
