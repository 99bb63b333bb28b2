-- The place bounds the own steps, so a party takes at most so many, and with so many it has decided.
use Prim.Native.Nat.{ℕ, ◌+◌, ◌*◌, ◌≤◌}
use mathlib.Core.Path.{◌≡◌}
use mathlib.Core.List.{List}
use native.Mathlib.Omega.{arith}
use native.Mathlib.Nat.{mul-le-mul}
use native.Mathlib.Decide.{ℕ_discrete}
use borrow.Author.Tests.{eq-eqb, ne_eqb}
use Rattle.sheet.specs.Rows.{parties_of}
use Rattle.rules.specs.Words.{Rules6}
use Rattle.state.specs.Session.{layout, party_of}
use Rattle.state.specs.declared.kept.Session.{Session}
use Rattle.steps.specs.Reach.{step_limit}
use Rattle.steps.proofs.Limits.{spared, spared_first, spared_top, limit, at_limit}
use Rattle.steps.proofs.Orderly.{done_last}
use Rattle.steps.proofs.Kept.{Kept}
use Rattle.steps.proofs.Reached.{Reached, reached_kept, reached_parties}

limit_spared : (n i : ℕ) → 1 ≤ i → i ≤ n → step_limit n i + spared i ≡ (n + 1) * (n + 1) + 1
limit_spared n i least most = by (ℕ_discrete i 1)
  where
    by : Dec (i ≡ 1) → step_limit n i + spared i ≡ (n + 1) * (n + 1) + 1
    by (yes e) = rw (eq-eqb i 1 e) (omega (arith, spared_first i e, mul-le-mul most most))
    by (no e) = rw (ne_eqb i 1 e) (omega (arith, spared_top i (omega arith), mul-le-mul most most))

module _ {sheet proposals : List ℕ} (s : Session) (K : Kept sheet proposals s) (i : ℕ) (least : 1 ≤ i) (most : i ≤ (layout s).parties) where
  kept_limit : (party_of s.parties i).steps ≤ step_limit (layout s).parties i
  kept_limit = omega (arith, limit K.invariant K.limited i least most, limit_spared (layout s).parties i least most)

  kept_decides : step_limit (layout s).parties i ≤ (party_of s.parties i).steps → (party_of s.parties i).status ≡ 2
  kept_decides l =
      let p = party_of s.parties i in
      let O = K.orderly i least most in
      O.decided.1
      (done_last
      p.place
      p.round
      p.k
      p.candidate
      O.place
      (at_limit K.invariant K.limited i least most (omega (arith, l, limit_spared (layout s).parties i least most))))

module _ (sheet proposals : List ℕ) (rules : Rules6 sheet) {s : Session} (R : Reached sheet proposals s)
    (i : ℕ) (least : 1 ≤ i) (most : i ≤ parties_of sheet) where
  inside : i ≤ (layout s).parties
  inside = omega (arith, reached_parties sheet proposals rules R)

  pub reached_limit : (party_of s.parties i).steps ≤ step_limit (parties_of sheet) i
  reached_limit = rw (reached_parties sheet proposals rules R) at (kept_limit s (reached_kept sheet proposals rules R) i least inside)

  pub reached_decides : step_limit (parties_of sheet) i ≤ (party_of s.parties i).steps → (party_of s.parties i).status ≡ 2
  reached_decides l = kept_decides s (reached_kept sheet proposals rules R) i least inside (rw (reached_parties sheet proposals rules R) l)
