-- The numbers of a reached party fit their bytes, by the party rule and the proposals; one that is past place 0 has taken an own step.
use Prim.Native.Nat.{ℕ, ◌-◌, ◌^◌, ◌≤◌, ◌<◌}
use mathlib.Core.Path.{◌≡◌, sym, ap, subst}
use mathlib.Core.Logic.{◌≢◌, ◌⊎◌, inl, inr, ⊎_elim}
use mathlib.Core.List.{List}
use native.Mathlib.Decide.{ℕ_discrete}
use native.Mathlib.Omega.{arith}
use lib.ListN.{length, get_or}
use Rattle.sheet.specs.Rows.{parties_of}
use Rattle.rules.specs.Words.{Rules6}
use Rattle.sheet.proofs.Folds.{lt_or_le}
use Rattle.state.specs.Session.{layout, party_of}
use Rattle.state.specs.Words.{PartyRule}
use Rattle.state.specs.declared.kept.Party.{Party}
use Rattle.state.specs.declared.kept.Session.{Session}
use Rattle.state.proofs.Filled.{fresh_party_lem}
use Rattle.steps.specs.Step.{step, stop, stopped_party}
use Rattle.steps.specs.Reach.{Reached, here, by_step, by_stop}
use Rattle.steps.proofs.Landing.{party_set}
use Rattle.steps.proofs.Turns.{step_none, step_other, stop_other}
use Rattle.steps.proofs.Changes.{step_live}
use Rattle.steps.proofs.Reached.{reached_kept, reached_parties, reached_well_formed}
use Rattle.agreement.specs.Demand.{Opens, Demand}
use Rattle.agreement.proofs.Demands as demands
use Rattle.agreement.proofs.Demands.{rules}

-- ---- the numbers of a party

-- that are written in 2 and in 4 bytes
pub record Fits (p : Party) : Type 0 where
  pub steps : p.steps < 256 ^ 2
  pub decision : p.decision < 256 ^ 4

module _ (sheet proposals : List ℕ) (o : Opens sheet proposals) {s : Session} (R : Reached sheet proposals s)
    (i : ℕ) (least : 1 ≤ i) (most : i ≤ parties_of sheet) where
  abbrev p : Party
  p = party_of s.parties i

  pub rule : PartyRule (layout s).parties s.published i p
  rule = (reached_well_formed sheet proposals (rules o) o.count R).parties i least (omega (arith, reached_parties sheet proposals (rules o) R))

  -- who has not decided has no decision
  pub undecided : (p.status ≡ 2 → ⊥) → p.decision ≡ 0
  undecided = rule.no_decision

  pub fits : ((j : ℕ) → get_or proposals j 0 < 2 ^ 32) → Fits p
  fits words = record { steps = omega (arith, rule.steps); decision = by (ℕ_discrete p.status 2) }
    where
      demand : Demand (parties_of sheet) proposals s
      demand = demands.demand sheet proposals o R

      by : Dec (p.status ≡ 2) → p.decision < 256 ^ 4
      by (yes e) = let d = demand.agreed.decision i least most e in let w = words (demand.holder - 1) in omega arith
      by (no e) = let d = undecided e in omega arith

-- ---- a party that is not at place 0 has taken an own step

module _ (sheet proposals : List ℕ) (R6 : Rules6 sheet) (i : ℕ) (least : 1 ≤ i) (most : i ≤ parties_of sheet) where
  abbrev Begun : Party → Type 0
  Begun p = (p.place ≡ 0) ⊎ (1 ≤ p.steps)

  pub seated : {s : Session} → Reached sheet proposals s → i ≤ length s.parties
  seated R = let few = R6.before.before.before.header.parties_most in let size = (reached_kept sheet proposals R6 R).size in omega arith

  step_own : (t : Session) → i ≤ length t.parties → Begun (party_of t.parties i) → Begun (party_of (step t i).parties i)
  step_own t l before =
      ⊎_elim
      (λ live. let more = step_live t i (omega arith) live in inr (omega arith))
      (λ over. subst (λ (s : Session). Begun (party_of s.parties i)) (sym (step_none t i least over)) before)
      (lt_or_le (party_of t.parties i).status 2)

  stop_own : (t : Session) → i ≤ length t.parties → Begun (party_of t.parties i) → Begun (party_of (stop t i).parties i)
  unfolding stop
  stop_own t l before = subst Begun (sym (party_set t.parties i (stopped_party (party_of t.parties i)) least l)) before

  -- party i after an act or a stop of party j, as f gives it: its own, or another's that leaves it
  begun_after : (f : ℕ → Party) (p : Party) (j : ℕ) → Begun (f i) → (i ≢ j → f j ≡ p) → Begun p → Begun (f j)
  begun_after f p j own other before = by (ℕ_discrete i j)
    where
      by : Dec (i ≡ j) → Begun (f j)
      by (yes e) = subst (λ (k : ℕ). Begun (f k)) e own
      by (no e) = subst Begun (sym (other e)) before

  begun : {s : Session} → Reached sheet proposals s → Begun (party_of s.parties i)
  begun here = inl (ap (λ (p : Party). p.place) (fresh_party_lem (parties_of sheet) i least most))
  begun (by_step {t} j a b R) =
      let before = begun R in
      begun_after (λ k. party_of (step t k).parties i) (party_of t.parties i) j (step_own t (seated R) before) (step_other t j a i least) before
  begun (by_stop {t} j a b R) =
      let before = begun R in
      begun_after (λ k. party_of (stop t k).parties i) (party_of t.parties i) j (stop_own t (seated R) before) (stop_other t j a i least) before

  pub has_begun : {s : Session} → Reached sheet proposals s → ((party_of s.parties i).place ≡ 0 → ⊥) → 1 ≤ (party_of s.parties i).steps
  has_begun R far = ⊎_elim (λ z. absurd (far z)) (λ k. k) (begun R)
