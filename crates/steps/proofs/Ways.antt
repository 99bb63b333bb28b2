-- Where a won round, the next k and a win of the lowers lead is where the rules say that they lead.
use Prim.Native.Nat.{ℕ, ◌+◌, ◌≤◌, ◌<◌}
use mathlib.Core.Path.{◌≡◌, refl}
use mathlib.Core.Bool.{Bool, true, false, cond}
use native.Mathlib.Omega.{arith}
use borrow.Author.Tests.{ltb-true, ltb-false}
use lib.Dec.{ltb}
use Rattle.state.specs.declared.kept.Party.{Party}
use Rattle.steps.specs.Step.{goes, won, next_k, lowers_win}
use Rattle.steps.proofs.Views.{Standing, Won, on, last, NextK, more, none, LowersWin, lower, top}
use Rattle.steps.proofs.Seen.{stands_at}

pub won_seen : (n : ℕ) (p : Party) (r c : ℕ) → r ≤ n → Won n r c (stands_at (won n p r c))
unfolding won
won_seen n p r c l = by (ltb r n) refl
  where
    by : (b : Bool) → ltb r n ≡ b → Won n r c (stands_at (cond b (goes p 1 (r + 1) 0 c) (goes p 7 0 0 c)))
    by true e = on (ltb-true r n e)
    by false e = last (omega (arith, ltb-false r n e))

pub next_seen : (n : ℕ) (p : Party) → p.round ≤ n → p.k < p.round → NextK n p.round p.k p.candidate (stands_at (next_k n p))
unfolding next_k
next_seen n p l h = by (ltb (p.k + 1) p.round) refl
  where
    by : (b : Bool) → ltb (p.k + 1) p.round ≡ b → NextK n p.round p.k p.candidate
        (stands_at (cond b (goes p 4 p.round (p.k + 1) p.candidate) (won n p p.round p.round)))
    by true e = more (ltb-true (p.k + 1) p.round e)
    by false e = none (omega (arith, ltb-false (p.k + 1) p.round e)) (won_seen n p p.round p.round l)

pub lowers_seen : (n i : ℕ) (p : Party) → p.round ≤ n → i ≤ p.round → LowersWin n i p.round p.k p.candidate (stands_at (lowers_win n i p))
unfolding lowers_win
lowers_seen n i p l h = by (ltb i p.round) refl
  where
    by : (b : Bool) → ltb i p.round ≡ b → LowersWin n i p.round p.k p.candidate
        (stands_at (cond b (won n p p.round p.candidate) (goes p 6 p.round p.k p.candidate)))
    by true e = lower (ltb-true i p.round e) (won_seen n p p.round p.candidate l)
    by false e = top (omega (arith, ltb-false i p.round e))

pub lower_won : {n i r k c : ℕ} {q : Standing} → i < r → LowersWin n i r k c q → Won n r c q
lower_won l (lower _ w) = w
lower_won l (top e) = absurd (omega arith)
