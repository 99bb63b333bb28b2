-- A call that is refused has a number that is not 0.
use Prim.Native.Nat.{◌≤◌}
use mathlib.Core.Path.{◌≡◌, refl, sym, ap, ◌∙◌}
use mathlib.Core.Bool.{false}
use native.Mathlib.Omega.{arith}
use borrow.Author.Tests.{ne_eqb}
use lib.Dec.{eqb}
use Rattle.std.specs.Prelude.{Result, Err}
use Rattle.answers.specs.Answers.{Answer, number_of, answer_of}
use Rattle.answers.specs.declared.Refusal.{Refusal}
use Rattle.answers.specs.declared.Refusal.TheVariants.{Short, Version, Header, Length, Row, Writer}
use Rattle.answers.specs.declared.Refusal.TheVariants.{Proposals, Schedule, Session, Party, Output, NoSheet}

pub refuses : (r : Refusal) → 1 ≤ number_of r
refuses Short = omega arith
refuses Version = omega arith
refuses Header = omega arith
refuses Length = omega arith
refuses (Row k) = omega arith
refuses (Writer k) = omega arith
refuses Proposals = omega arith
refuses (Schedule k) = omega arith
refuses Session = omega arith
refuses Party = omega arith
refuses Output = omega arith
refuses NoSheet = omega arith

pub refused_number : {A : Type 0} (a : Answer) (v : Result A Refusal) (r : Refusal) → answer_of v ≡ a → v ≡ Err r → eqb a.number 0 ≡ false
refused_number a v r e d =
    let same = ap (λ (b : Answer). b.number) (sym e ∙ ap answer_of d) in
    let some = refuses r in
    ne_eqb a.number 0 (λ z. omega arith)

-- 11 is the number of one refusal alone
pub only_output : (r : Refusal) → number_of r ≡ 11 → r ≡ Output
only_output Short e = absurd (omega (arith, e))
only_output Version e = absurd (omega (arith, e))
only_output Header e = absurd (omega (arith, e))
only_output Length e = absurd (omega (arith, e))
only_output (Row k) e = absurd (omega (arith, e))
only_output (Writer k) e = absurd (omega (arith, e))
only_output Proposals e = absurd (omega (arith, e))
only_output (Schedule k) e = absurd (omega (arith, e))
only_output Session e = absurd (omega (arith, e))
only_output Party e = absurd (omega (arith, e))
only_output Output e = refl
only_output NoSheet e = absurd (omega (arith, e))
