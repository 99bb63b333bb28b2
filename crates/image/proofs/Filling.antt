-- The front of what was filled with a slice's proposals is those proposals.
use Prim.Native.Nat.{ℕ, ◌-◌, ◌*◌, ◌≤◌}
use mathlib.Core.Path.{◌≡◌, sym, ap, ◌∙◌}
use mathlib.Core.List.{List, ◌++◌}
use native.Mathlib.Nat.{min-le_right}
use native.Mathlib.Omega.{arith}
use lib.ListN.{length, take, drop, replicate, length-take}
use lib.Seq.{take_at, length-take-le}
use Rattle.std.proofs.lemmas.List.{drop-replicate}
use Rattle.sheet.specs.Bytes.{num}
use Rattle.sheet.proofs.Ranges.{length_range}
use Rattle.state.specs.Session.{filled}
use Rattle.image.specs.Image.{proposal_count, proposals_of, proposals_in}
use Rattle.image.proofs.Counts.{counted}

size : (bytes : List ℕ) (count : ℕ) → count ≡ proposal_count (length bytes) → length (proposals_in bytes) ≡ count
size bytes count many = length_range (λ j. num bytes (4 * j) 4) 0 (proposal_count (length bytes)) ∙ sym many

-- zeros of which as many as the slice holds are filled
pub filled_front : (bytes : List ℕ) (count : ℕ) → count ≡ proposal_count (length bytes)
    → (front : List ℕ) → front ≡ proposals_of (length (take count (replicate {A = ℕ} 16 0))) bytes
    → front ++ drop count (replicate 16 0) ≡ filled 16 (proposals_in bytes)
filled_front bytes count many front e =
    let few = counted (length bytes) in
    let some = length-take-le {A = ℕ} count (replicate 16 0) (omega (arith, few.most)) in
    rw (e, drop-replicate {X = ℕ} count 16 0) (λ i. proposals_of ((some ∙ many) i) bytes ++ replicate (16 - sym (size bytes count many) i) 0)

-- and its front, as long, is the slice's proposals
module _ (bytes numbers : List ℕ) (count : ℕ) (many : count ≡ proposal_count (length bytes)) (is : numbers ≡ filled 16 (proposals_in bytes)) where
  pub front : take count numbers ≡ proposals_in bytes
  front = ap (take count) is ∙ take_at (proposals_in bytes) _ count (size bytes count many)

  pub front_length : length (take count numbers) ≡ count
  front_length = ap length front ∙ size bytes count many

  pub front_fits : count ≤ length numbers
  front_fits = omega (arith, front_length, length-take count numbers, min-le_right count (length numbers))

-- so is what is lent of it
pub lent : (bytes : List ℕ) {numbers slice : List ℕ} {count : ℕ} → count ≡ proposal_count (length bytes) → numbers ≡ filled 16 (proposals_in bytes)
    → slice ≡ take count numbers → slice ≡ proposals_in bytes
lent bytes {numbers} {count = count} many is e = e ∙ front bytes numbers count many is
