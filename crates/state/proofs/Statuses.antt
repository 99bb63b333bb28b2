-- Any two results that the promise of a status's reading permits are equal: a number has one name, or none.
use Rattle.std.proofs.Common.{◌≡◌, ℕ, zero, suc, Result, Ok, Err, sym, ap, ◌∙◌, arith}
use Rattle.state.specs.StatusNames.{Names}
use Rattle.state.specs.declared.kept.Status.{Status}
use Rattle.state.specs.declared.kept.Status.TheVariants.{Idle, Running, Decided, Stopped}
use Rattle.state.specs.declared.kept.UnknownStatus.{UnknownStatus}

-- the one result of each number
name_of : ℕ → Result Status UnknownStatus
name_of zero = Ok Idle
name_of (suc zero) = Ok Running
name_of (suc (suc zero)) = Ok Decided
name_of (suc (suc (suc zero))) = Ok Stopped
name_of (suc (suc (suc (suc n)))) = Err (record { 0 = suc (suc (suc (suc n))) })

named : (n : ℕ) (a : Result Status UnknownStatus) → Names n a → a ≡ name_of n
unfolding name_of
named n (Ok Idle) e = ap name_of e
named n (Ok Running) e = ap name_of e
named n (Ok Decided) e = ap name_of e
named n (Ok Stopped) e = ap name_of e
named zero (Err u) e = absurd (omega (arith, e.1))
named (suc zero) (Err u) e = absurd (omega (arith, e.1))
named (suc (suc zero)) (Err u) e = absurd (omega (arith, e.1))
named (suc (suc (suc zero))) (Err u) e = absurd (omega (arith, e.1))
named (suc (suc (suc (suc n)))) (Err u) e = ap (λ (k : ℕ). Err (record { 0 = k })) e.0

pub one_status : (n : ℕ) (a b : Result Status UnknownStatus) → Names n a → Names n b → a ≡ b
one_status n a b e o = named n a e ∙ sym (named n b o)
