-- What is checked is the carried sheet: the front of the copy, as long as the carried sheet; past it the copy is asked for zeros.
use Rattle.std.proofs.Common.{◌≡◌, refl, sym, ap, ◌∙◌, ℕ, ◌-◌, Bool, eqb, leb, List, length, get_or, take, min, arith, rules}
use Rattle.std.proofs.lemmas.Bool.Decides.{nat_tests}
use Rattle.sheet.specs.Bytes.{num}
use Rattle.sheet.specs.Lists.{from, all}
use Rattle.rules.specs.Check.{check_answer}
use Rattle.state.specs.Session.{carried_of}
use Rattle.state.proofs.Tested.{and_then, and_else}
use Rattle.state.proofs.Carried.{front_carried, length_carried}
use Rattle.state.proofs.Listed.{zeros_listed}
use Rattle.state.proofs.wellformed.sheet_ok.Goals as goal

-- what is lent to the check is the carried sheet, so its answer is said of that
asked : (copy : List ℕ) (size : ℕ) (r : Bool) → length copy ≡ 1898 → size ≡ min (num copy 0 2) 1898 → r ≡ eqb (check_answer (take size copy)).number 0
    → r ≡ eqb (check_answer (carried_of copy)).number 0
asked copy size r whole e o = o ∙ ap (λ (l : List ℕ). eqb (check_answer l).number 0) (front_carried copy 1898 size whole e)

pub returns-then-is_accepted : goal.returns-then-is_accepted
returns-then-is_accepted c =
    let copy = c.args.sheet.now in
    let size = c.carried_length-len.result in
    let whole : length copy ≡ 1898 = search rules in
    let long : length (carried_of copy) ≡ size = length_carried copy 1898 size whole c.carried_length-len.ensures in
    and_then (asked copy size c.is_accepted.result whole c.carried_length-len.ensures c.is_accepted.ensures) c.if-is_accepted.true
    (c.are_at_most.ensures ∙ zeros_listed (λ x. leb x 0) (λ x. grind (arith, nat_tests)) copy size 1898 whole (omega arith)
    ∙ ap (λ (n : ℕ). all (λ j. eqb (get_or copy j 0) 0) (from n (1898 - n))) (sym long))

pub returns-else-is_accepted : goal.returns-else-is_accepted
returns-else-is_accepted c =
    let copy = c.args.sheet.now in
    let whole : length copy ≡ 1898 = search rules in
    and_else (asked copy c.carried_length-len.result c.is_accepted.result whole c.carried_length-len.ensures c.is_accepted.ensures) _ c.if-is_accepted.false refl
