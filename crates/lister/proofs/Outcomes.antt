-- A run that is done has the record of two parties, and the text goes by the run's answer.
use Rattle.std.specs.Prelude.{Err}
use mathlib.Core.Path.{◌≡◌, refl, sym, ap}
use mathlib.Core.List.{List}
use Prim.Native.Nat.{ℕ}
use lib.ListN.{length, get_or}
use Rattle.answers.specs.Answers.{Answer, done, number_of, position_of, answer_of}
use Rattle.answers.specs.declared.Refusal.{Refusal}
use Rattle.answers.proofs.Refused.{refused_number}
use Rattle.lister.specs.Text.{listing, refused_text}
use Rattle.lister.specs.Listed.{answered, recorded, listed}

pub two_parties : (schedule : List ℕ) → answered schedule ≡ done → get_or (recorded schedule) 3 0 ≡ 2
two_parties schedule ok = rw ok refl

pub listed_done : (schedule : List ℕ) → answered schedule ≡ done → listed schedule ≡ listing (recorded schedule) (length schedule)
unfolding listed
listed_done schedule ok = rw ok refl

pub listed_refused : (schedule : List ℕ) (r : Refusal) → answer_of {A = Unit {0}} (Err r) ≡ answered schedule
    → listed schedule ≡ refused_text (number_of r) (position_of r)
unfolding listed
listed_refused schedule r e = rw (refused_number {A = Unit {0}} (answered schedule) (Err r) r e refl) (ap (λ (a : Answer). refused_text a.number a.position) (sym e))
