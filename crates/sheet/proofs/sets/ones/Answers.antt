-- 64 ones shifted by 64 - b are b ones.
use Rattle.std.proofs.Common.{arith, ◌≡◌, ◌+◌, ◌-◌, ◌/◌, ◌^◌, ℕ, ap, sym, ◌∙◌}
use Rattle.sheet.proofs.Bits.{ones_shr}
use Rattle.sheet.proofs.sets.ones.Goals as goal

pub returns : goal.returns
returns c =
    let b = c.args.b in
    let whole : b + (64 - b) ≡ 64 = omega arith in
    ap (λ (x : ℕ). (2 ^ x - 1) / 2 ^ (64 - b)) (sym whole) ∙ ones_shr b (64 - b)
