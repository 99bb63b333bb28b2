-- Any two answers that a promise permits are equal: a number and a position have one case.
use Prim.Native.Nat.{ℕ, zero, suc}
use mathlib.Core.Path.{◌≡◌, refl, sym, ap, ◌∙◌}
use Rattle.std.specs.Prelude.{Result, Ok, Err}
use Rattle.answers.specs.Answers.{Answer, answer_of}
use Rattle.answers.specs.declared.Refusal.{Refusal}
use Rattle.answers.specs.declared.Refusal.TheVariants.{Short, Version, Header, Length, Row, Writer, Proposals, Schedule, Session, Party, Output, NoSheet}

case_of : ℕ → ℕ → Result (Unit {0}) Refusal
case_of zero k = Ok tt
case_of (suc zero) k = Err Short
case_of (suc (suc zero)) k = Err Version
case_of (suc (suc (suc zero))) k = Err Header
case_of (suc (suc (suc (suc zero)))) k = Err Length
case_of (suc (suc (suc (suc (suc zero))))) k = Err (Row k)
case_of (suc (suc (suc (suc (suc (suc zero)))))) k = Err (Writer k)
case_of (suc (suc (suc (suc (suc (suc (suc zero))))))) k = Err Proposals
case_of (suc (suc (suc (suc (suc (suc (suc (suc zero)))))))) k = Err (Schedule k)
case_of (suc (suc (suc (suc (suc (suc (suc (suc (suc zero))))))))) k = Err Session
case_of (suc (suc (suc (suc (suc (suc (suc (suc (suc (suc zero)))))))))) k = Err Party
case_of (suc (suc (suc (suc (suc (suc (suc (suc (suc (suc (suc zero))))))))))) k = Err Output
case_of (suc (suc (suc (suc (suc (suc (suc (suc (suc (suc (suc (suc n)))))))))))) k = Err NoSheet

case_of_lem : (v : Result (Unit {0}) Refusal) → case_of (answer_of v).number (answer_of v).position ≡ v
unfolding case_of
case_of_lem (Ok tt) = refl
case_of_lem (Err Short) = refl
case_of_lem (Err Version) = refl
case_of_lem (Err Header) = refl
case_of_lem (Err Length) = refl
case_of_lem (Err (Row k)) = refl
case_of_lem (Err (Writer k)) = refl
case_of_lem (Err Proposals) = refl
case_of_lem (Err (Schedule k)) = refl
case_of_lem (Err Session) = refl
case_of_lem (Err Party) = refl
case_of_lem (Err Output) = refl
case_of_lem (Err NoSheet) = refl

pub one_answer : (a : Answer) (v w : Result (Unit {0}) Refusal) → answer_of v ≡ a → answer_of w ≡ a → v ≡ w
one_answer a v w e o = sym (case_of_lem v) ∙ ap (λ (x : Answer). case_of x.number x.position) (e ∙ sym o) ∙ case_of_lem w
