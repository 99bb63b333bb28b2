-- A slice holds N proposals exactly where it is of 4 × N bytes, for N from 1 to 16: by cases on the tests of the count, where division by 4 is arithmetic.
use Prim.Native.Nat.{ℕ, ◌*◌, ◌%◌, ◌≤◌}
use mathlib.Core.Path.{◌≡◌, refl}
use mathlib.Core.Logic.{◌↔◌}
use mathlib.Core.Bool.{Bool, true, false}
use native.Mathlib.Omega.{arith}
use borrow.Author.Tests.{leb-true, leb-false, eqb-true, eqb-false}
use lib.Dec.{leb, eqb}
use Rattle.image.specs.Image.{proposal_count}

-- what the length says of the count
pub record Counted (len count : ℕ) : Type 0 where
  pub most : count ≤ 16
  pub held : 4 * count ≤ len
  pub fits : (m : ℕ) → 1 ≤ m → m ≤ 16 → (count ≡ m) ↔ (len ≡ 4 * m)

pub counted : (len : ℕ) → Counted len (proposal_count len)
counted len = by (leb len 64) (eqb (len % 4) 0) refl refl
  where
    by : (few whole : Bool) → leb len 64 ≡ few → eqb (len % 4) 0 ≡ whole → Counted len (proposal_count len)
    by true true e f = let h = leb-true len 64 e in let z = eqb-true (len % 4) 0 f in rw (e, f) (omega arith)
    by true false e f = let z = eqb-false (len % 4) 0 f in rw (e, f) (omega arith)
    by false whole e f = let h = leb-false len 64 e in rw e (omega arith)
