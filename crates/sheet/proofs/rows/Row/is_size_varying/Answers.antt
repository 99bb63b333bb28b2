-- A mask of ones has its own length for b, so each test of the code is one part of what `run_length` says of that length.
use Rattle.std.proofs.Common.{arith, rules, ◌<◌, ◌^◌, ◌%◌, sym, ◌∙◌, eq-eqb}
use lib.Dec.{eqb→eq}
use Rattle.sheet.proofs.Folds.{fails, held, same_test}
use Rattle.sheet.proofs.WriteSets.{run_length}
use Rattle.sheet.proofs.rows.Row.is_size_varying.Goals as goal

pub returns-then-b-eq0 : goal.returns-then-b-eq0
returns-then-b-eq0 c =
    let a = c.args in
    let fits : a.self.mask < 2 ^ 64 = search rules in
    let parts = run_length a.bound a.self.start a.self.mask c.bits-b.result fits c.bits-b.ensures.value in
    sym (fails _ (λ t. omega (arith, (parts.0 t).0)))

pub returns-then-from-b : goal.returns-then-from-b
returns-then-from-b c =
    let a = c.args in
    let fits : a.self.mask < 2 ^ 64 = search rules in
    let parts = run_length a.bound a.self.start a.self.mask c.bits-b.result fits c.bits-b.ensures.value in
    sym (fails _ (λ t. omega (arith, (parts.0 t).1, c.from.ensures)))

pub returns-then-mask-ones : goal.returns-then-mask-ones
returns-then-mask-ones c =
    let a = c.args in
    let fits : a.self.mask < 2 ^ 64 = search rules in
    let parts = run_length a.bound a.self.start a.self.mask c.bits-b.result fits c.bits-b.ensures.value in
    sym (fails _ (λ t. c.if-mask-ones.true ((parts.0 t).2 ∙ sym c.ones.ensures)))

pub returns : goal.returns
returns c =
    let a = c.args in
    let fits : a.self.mask < 2 ^ 64 = search rules in
    let parts = run_length a.bound a.self.start a.self.mask c.bits-b.result fits c.bits-b.ensures.value in
    let rest = a.self.start % c.bits-b.result in
    rw c.from-2.ensures (same_test _ _
    (λ t. parts.1 (omega arith, omega arith, c.if-mask-ones.false ∙ c.ones.ensures, eqb→eq rest 0 t))
    (λ t. held _ (eq-eqb rest 0 (parts.0 t).3)))
