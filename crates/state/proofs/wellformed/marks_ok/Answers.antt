-- The marks are tested in two parts: one of a unit is at most 2, and one past the units is zero.
use Rattle.std.proofs.Common.{◌≡◌, refl, sym, ◌∙◌, ℕ, ◌-◌, ◌≤◌, Bool, ◌&&◌, cond, leb, ltb, List, length, get_or, take, drop, arith, rules}
use Rattle.std.proofs.lemmas.Bool.Decides.{nat_tests}
use Rattle.std.specs.List.{list_all}
use Rattle.sheet.specs.Lists.{from, all}
use Rattle.state.proofs.Tested.{and_then, and_else}
use Rattle.state.proofs.Listed.{part_listed, in_parts}
use Rattle.state.proofs.wellformed.marks_ok.Goals as goal

module _ (marks : List ℕ) (units size : ℕ) (whole : length marks ≡ size) (most : units ≤ size) where
  mark_ok : ℕ → Bool
  mark_ok u = leb (get_or marks u 0) (cond (ltb u units) 2 0)

  of_units : list_all (λ x. leb x 2) (take units marks) ≡ all mark_ok (from 0 units)
  unfolding mark_ok
  of_units = part_listed 0 mark_ok (λ x. leb x 2) marks 0 units (omega arith) (λ u low high. grind (arith, nat_tests))

  past_units : list_all (λ x. leb x 0) (take (size - units) (drop units marks)) ≡ all mark_ok (from units (size - units))
  unfolding mark_ok
  past_units = part_listed 0 mark_ok (λ x. leb x 0) marks units (size - units) (omega arith) (λ u low high. grind (arith, nat_tests))

  parts : all (λ u. leb (get_or marks u 0) (cond (ltb u units) 2 0)) (from 0 size) ≡ (all mark_ok (from 0 units) && all mark_ok (from units (size - units)))
  unfolding mark_ok
  parts = in_parts mark_ok units size most

pub returns-then-are_at_most : goal.returns-then-are_at_most
returns-then-are_at_most c =
    let marks = c.args.marks.now in
    let units = c.args.units in
    let whole : length marks ≡ 1024 = search rules in
    and_then (c.are_at_most.ensures ∙ of_units marks units 1024 whole c.requires) c.if-are_at_most.true
    (c.are_at_most-then-are_at_most.ensures ∙ past_units marks units 1024 whole c.requires)
    ∙ sym (parts marks units 1024 whole c.requires)

pub returns-else-are_at_most : goal.returns-else-are_at_most
returns-else-are_at_most c =
    let marks = c.args.marks.now in
    let units = c.args.units in
    let whole : length marks ≡ 1024 = search rules in
    and_else (c.are_at_most.ensures ∙ of_units marks units 1024 whole c.requires) _ c.if-are_at_most.false refl
    ∙ sym (parts marks units 1024 whole c.requires)
