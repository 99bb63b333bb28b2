-- At each place the act is the one that the definition names, and what it asks follows from the party's rule; a live party is at no other place.
use Prim.Native.Nat.{ℕ, ◌≤◌, ◌<◌}
use mathlib.Core.List.{List}
use mathlib.Core.Path.{◌≡◌}
use mathlib.Core.Logic.{◌⊎◌, inl, inr, ⊎_elim}
use native.Mathlib.Omega.{arith}
use Rattle.sheet.proofs.Folds.{lt_or_le}
use Rattle.state.specs.declared.kept.Party.{Party}
use Rattle.steps.specs.Ready.{Ready, ReadyAt}
use Rattle.session.proofs.act.act.Goals as goal

module _ {s published : List ℕ} {i n : ℕ} {p : Party} (ready : Ready s published i p n) where
  -- at places 1 to 6 each party up to the round's number has a row
  ready_at : 1 ≤ p.place → p.place ≤ 6 → (j : ℕ) → 1 ≤ j → j ≤ p.round → ReadyAt s j p
  ready_at a b j least most =
      let first = ready.party.round_least a b in
      let last = ready.party.round_most a b in
      let size = ready.parties in
      record {
        rules = ready.rules;
        row = record { first = first; last = omega arith; lowest = least; top = most };
        steps = ready.party.steps;
      }

  few : n ≤ 16
  few = let most = ready.rules.before.before.header.parties_most in let size = ready.parties in omega arith

  -- where the round and k are not in use they are 0
  round_most : p.round ≤ n
  round_most =
      ⊎_elim
      (λ low. ⊎_elim (λ high. ready.party.round_most (omega arith) (omega arith)) (λ past. none (inr past)) (lt_or_le p.place 7))
      (λ start. none (inl (omega arith)))
      (lt_or_le 0 p.place)
    where
      none : (p.place ≡ 0) ⊎ (7 ≤ p.place) → p.round ≤ n
      none at = let e = ready.party.round_none at in omega arith

  scan_most : p.k ≤ n
  scan_most =
      ⊎_elim (λ low. none (inl low))
      (λ scan.
      ⊎_elim (λ high. let below = ready.party.scan_most scan (omega arith) in let most = round_most in omega arith) (λ past. none (inr past))
      (lt_or_le p.place 7))
      (lt_or_le p.place 4)
    where
      none : (p.place < 4) ⊎ (7 ≤ p.place) → p.k ≤ n
      none at = let e = ready.party.scan_none at in omega arith

  own_row : 1 ≤ p.place → p.place ≤ 6 → ReadyAt s i p
  own_row a b = ready_at a b i ready.least (ready.party.round_own a b)

  scan_row : 4 ≤ p.place → p.place ≤ 6 → ReadyAt s p.k p
  scan_row a b = let below = ready.party.scan_most a b in ready_at (omega arith) b p.k (ready.party.scan_least a b) (omega arith)

pub invariant_of-actor : goal.invariant_of-actor
invariant_of-actor c =
    let r = c.requires in
    record {
      few = few r;
      number_most = r.most;
      round_most = round_most r;
      scan_most = scan_most r;
      candidate_least = r.party.candidate_least;
      candidate_most = r.party.candidate_most;
      steps_most = r.party.steps;
    }
