-- Any two results that a promise permits are equal: a value has one result, a refusal's number and position have one case, and none has number 0.
use Rattle.std.specs.Prelude.{ℕ, Result, Ok, Err}
use mathlib.Core.Path.{◌≡◌, refl, sym, ap, ◌∙◌}
use native.Mathlib.Omega.{arith}
use Rattle.answers.specs.Answers.{answer_of}
use Rattle.answers.specs.declared.Refusal.{Refusal}
use Rattle.answers.proofs.Theorems.{one_answer}
use Rattle.answers.proofs.Refused.{refuses}
use Rattle.steps.specs.Calls.{Told, told_by, told_of}

pub one_reply : (t : Told) (a b : Result ℕ Refusal) → told_of a ≡ t → told_of b ≡ t → a ≡ b
one_reply t (Ok v) (Ok w) e o = ap Ok (ap (λ (x : Told). x.value) (e ∙ sym o))
one_reply t (Ok v) (Err r) e o = let n = ap (λ (x : Told). x.number) (e ∙ sym o) in absurd (omega (arith, refuses r))
one_reply t (Err r) (Ok v) e o = let n = ap (λ (x : Told). x.number) (o ∙ sym e) in absurd (omega (arith, refuses r))
one_reply t (Err r) (Err q) e o = ap Err same
  where
    told : told_of (Err r) ≡ told_of (Err q)
    told = e ∙ sym o

    answers : ◌≡◌ {A = Result (Unit {0}) Refusal} (Err r) (Err q)
    answers = one_answer (answer_of {A = Unit {0}} (Err q)) (Err r) (Err q) (λ i. record { number = (told i).number; position = (told i).position }) refl

    same : r ≡ q
    same = cc answers

-- where no value is given
pub one_asked : (t : Told) (a b : Result (Unit {0}) Refusal) → told_by (λ _. 0) a ≡ t → told_by (λ _. 0) b ≡ t → a ≡ b
one_asked t a b e o = one_answer (record { number = t.number; position = t.position }) a b (same a e) (same b o)
  where
    same : (a : Result (Unit {0}) Refusal) → told_by (λ _. 0) a ≡ t → answer_of a ≡ record { number = t.number; position = t.position }
    same (Ok u) e = ap (λ (x : Told). record { number = x.number; position = x.position }) e
    same (Err r) e = ap (λ (x : Told). record { number = x.number; position = x.position }) e
