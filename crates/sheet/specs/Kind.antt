-- The kinds of words that a core can store at once, by document 01's numbers.
use Rattle.std.specs.Prelude.{ℕ, ◌≡◌, ◌⊎◌, Result, MatchResult}
use Rattle.sheet.specs.declared.kind.Kind.{Kind}
use Rattle.sheet.specs.declared.kind.Kind.TheVariants.{SizeVarying, Inconsecutive}
use Rattle.sheet.specs.declared.kind.UnknownKind.{UnknownKind}

-- the number of a kind
abbrev pub kind_number : Kind → ℕ
kind_number SizeVarying = 1
kind_number Inconsecutive = 2

-- the kind with this number, or the number back, which no kind has
abbrev pub Decodes : ℕ → Result Kind UnknownKind → Type 0
Decodes number r = MatchResult r (λ kind. kind_number kind ≡ number) (λ e. (e.0 ≡ number) × ((number ≡ 1) ⊎ (number ≡ 2) → ⊥))
