-- Any two results that the promise of a kind's reading permits are equal: a number has one kind, or none.
use Rattle.std.proofs.Common.{◌≡◌, ℕ, zero, suc, Result, Ok, Err, sym, ap, ◌∙◌, refl, inl, inr}
use Rattle.sheet.specs.Kind.{Decodes}
use Rattle.sheet.specs.declared.kind.Kind.{Kind}
use Rattle.sheet.specs.declared.kind.Kind.TheVariants.{SizeVarying, Inconsecutive}
use Rattle.sheet.specs.declared.kind.UnknownKind.{UnknownKind}

-- the one result of each number
kind_of : ℕ → Result Kind UnknownKind
kind_of zero = Err (record { 0 = zero })
kind_of (suc zero) = Ok SizeVarying
kind_of (suc (suc zero)) = Ok Inconsecutive
kind_of (suc (suc (suc n))) = Err (record { 0 = suc (suc (suc n)) })

decoded : (n : ℕ) (a : Result Kind UnknownKind) → Decodes n a → a ≡ kind_of n
unfolding kind_of
decoded n (Ok SizeVarying) e = ap kind_of e
decoded n (Ok Inconsecutive) e = ap kind_of e
decoded zero (Err u) e = ap (λ (k : ℕ). Err (record { 0 = k })) e.0
decoded (suc zero) (Err u) e = absurd (e.1 (inl refl))
decoded (suc (suc zero)) (Err u) e = absurd (e.1 (inr refl))
decoded (suc (suc (suc n))) (Err u) e = ap (λ (k : ℕ). Err (record { 0 = k })) e.0

pub one_kind : (n : ℕ) (a b : Result Kind UnknownKind) → Decodes n a → Decodes n b → a ≡ b
one_kind n a b e o = decoded n a e ∙ sym (decoded n b o)
