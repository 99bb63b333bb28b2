-- Each test of the code is one part of what `word_says` tells; that the mask has no bit at or above the bound is asked of its length.
use Rattle.std.proofs.Common.{arith, rules, ◌<◌, ◌^◌, ◌%◌, ◌≤◌, sym, eq-eqb}
use native.Mathlib.Nat.{lt_of_lt_of_le}
use lib.Dec.{eqb→eq}
use lib.Pow.{pow_mono}
use Rattle.sheet.specs.Length.{bit_length}
use Rattle.sheet.proofs.Folds.{fails, held, same_test}
use Rattle.sheet.proofs.WriteSets.{word_says, length_holds, length_least, length_some}
use Rattle.sheet.proofs.rows.Row.is_inconsecutive.Goals as goal

pub returns-then-self-eq0 : goal.returns-then-self-eq0
returns-then-self-eq0 c = sym (fails _ (λ t. ((word_says c.args.bound c.args.self.start c.args.self.mask).0 t).0 c.if-self-eq0.true))

pub returns-then-from-bits : goal.returns-then-from-bits
returns-then-from-bits c =
    let fits : c.args.self.mask < 2 ^ 64 = search rules in
    let a = c.args in
    sym (fails _ (λ t.
    let short = length_least a.self.mask a.bound fits ((word_says a.bound a.self.start a.self.mask).0 t).1 in
    omega (arith, c.bits.ensures.value, c.from.ensures)))

pub nonzero_rem-result : goal.nonzero_rem-result
nonzero_rem-result c =
    let fits : c.args.self.mask < 2 ^ 64 = search rules in
    let some = length_some c.args.self.mask fits c.if-self-eq0.false in
    omega (arith, c.bits.ensures.value, c.from.ensures)

pub returns : goal.returns
returns c =
    let fits : c.args.self.mask < 2 ^ 64 = search rules in
    let a = c.args in
    let says = word_says a.bound a.self.start a.self.mask in
    let long : bit_length a.self.mask ≤ a.bound = omega (arith, c.bits.ensures.value, c.from.ensures) in
    rw c.from-2.ensures (same_test _ _
    (λ t.
    says.1
    (c.if-self-eq0.false, lt_of_lt_of_le (length_holds a.self.mask fits) (pow_mono long), eqb→eq (a.self.start % a.bound) 0 t))
    (λ t. held _ (eq-eqb (a.self.start % a.bound) 0 (says.0 t).2)))
