-- A party's status, its zero entries and its decision go with its place: acts and stops keep them so.
use Prim.Native.Nat.{ℕ, zero, suc, ◌-◌, ◌≤◌, ◌<◌}
use mathlib.Core.Path.{◌≡◌, refl}
use mathlib.Core.List.{List}
use mathlib.Core.Logic.{◌⊎◌, inl, inr, ◌↔◌}
use mathlib.Core.Bool.{Bool, true, false, cond}
use native.Mathlib.Omega.{arith}
use borrow.Author.Tests.{eqb-true, eqb-false}
use lib.Dec.{eqb}
use lib.ListN.{get_or}
use Rattle.sheet.specs.Rows.{Layout}
use Rattle.state.specs.Session.{fresh_party}
use Rattle.state.specs.declared.kept.Party.{Party}
use Rattle.steps.specs.Step.{Place, place_of, counted, party_acted, stopped_party}
use Rattle.steps.proofs.Limits.{Done}
use Rattle.steps.proofs.Seen.{standing}
use Rattle.steps.proofs.Landing.{Placed, Landing, lands}

pub record Orderly (proposals : List ℕ) (p : Party) : Type 0 where
  pub status : p.status ≤ 3
  pub place : p.place ≤ 8
  pub round_none : (p.place ≡ 0) ⊎ (7 ≤ p.place) → p.round ≡ 0
  pub scan_none : (p.place < 4) ⊎ (7 ≤ p.place) → p.k ≡ 0
  pub decided : p.status ≡ 2 ↔ p.place ≡ 8
  pub idle : (p.status ≡ 3 → ⊥) → p.status ≡ 0 ↔ p.place ≡ 0
  pub no_steps : p.place ≡ 0 → p.steps ≡ 0
  pub no_decision : (p.status ≡ 2 → ⊥) → p.decision ≡ 0
  -- it decides its candidate's proposal
  pub takes : p.status ≡ 2 → p.decision ≡ get_or proposals (p.candidate - 1) 0

pub fresh_orderly : (proposals : List ℕ) (i : ℕ) → Orderly proposals (fresh_party i)
fresh_orderly proposals i =
    record {
      status = omega arith;
      place = omega arith;
      round_none = λ _. refl;
      scan_none = λ _. refl;
      decided = omega arith;
      idle = omega arith;
      no_steps = omega arith;
      no_decision = λ _. refl;
      takes = λ e. absurd (omega arith);
    }

-- a place at which a party is done is place 8
pub done_last : (place r k c : ℕ) → place ≤ 8 → Done (standing (place_of place) r k c) → place ≡ 8
done_last zero r k c l d = absurd d
done_last (suc zero) r k c l d = absurd d
done_last (suc (suc zero)) r k c l d = absurd d
done_last (suc (suc (suc zero))) r k c l d = absurd d
done_last (suc (suc (suc (suc zero)))) r k c l d = absurd d
done_last (suc (suc (suc (suc (suc zero))))) r k c l d = absurd d
done_last (suc (suc (suc (suc (suc (suc zero)))))) r k c l d = absurd d
done_last (suc (suc (suc (suc (suc (suc (suc zero))))))) r k c l d = absurd d
done_last (suc (suc (suc (suc (suc (suc (suc (suc x)))))))) r k c l d = omega arith

-- ---- an act

module _ (proposals : List ℕ) (p : Party) (none : p.decision ≡ 0) where
  landing : Landing proposals p (λ (q : Party). Orderly proposals (counted q))
  landing =
      record {
        on = λ place r k c h.
            record {
              status = omega arith;
              place = omega (arith, h.most);
              round_none = rounds place r k h;
              scan_none = h.no_scan;
              decided = omega (arith, h.most);
              idle = omega (arith, h.least);
              no_steps = λ e. absurd (omega (arith, h.least));
              no_decision = λ _. none;
              takes = λ e. absurd (omega arith);
            };
        end =
            record {
              status = omega arith;
              place = omega arith;
              round_none = λ _. refl;
              scan_none = λ _. refl;
              decided = (λ _. refl, λ _. refl);
              idle = omega arith;
              no_steps = λ e. absurd (omega arith);
              no_decision = λ n. absurd (n refl);
              takes = λ _. refl;
            };
      }
    where
      rounds : (place r k : ℕ) → Placed place r k → (place ≡ 0) ⊎ (7 ≤ place) → r ≡ 0
      rounds place r k h (inl e) = absurd (omega (arith, h.least))
      rounds place r k h (inr l) = h.no_round l

  pub act_orderly : (l : Layout) (marks published : List ℕ) (i : ℕ) (at : Place) → (Done (standing at 0 0 0) → ⊥)
      → Orderly proposals (counted (party_acted l proposals marks published i p at))
  act_orderly l marks published i at d = lands landing l marks published i at d

-- ---- a stop

pub stop_orderly : {proposals : List ℕ} (p : Party) → Orderly proposals p → Orderly proposals (stopped_party p)
stop_orderly {proposals} p O = by (eqb p.status 2) refl
  where
    by : (b : Bool) → eqb p.status 2 ≡ b → Orderly proposals (record {
      status = cond b 2 3;
      place = p.place;
      round = p.round;
      k = p.k;
      candidate = p.candidate;
      steps = p.steps;
      decision = p.decision;
    })
    by true e =
        let two : p.status ≡ 2 = eqb-true p.status 2 e in
        let last : p.place ≡ 8 = O.decided.0 two in
        record {
          status = omega arith;
          place = O.place;
          round_none = O.round_none;
          scan_none = O.scan_none;
          decided = (λ _. last, λ _. refl);
          idle = omega arith;
          no_steps = O.no_steps;
          no_decision = λ n. absurd (n refl);
          takes = λ _. O.takes two;
        }
    by false e =
        let two : p.status ≡ 2 → ⊥ = eqb-false p.status 2 e in
        record {
          status = omega arith;
          place = O.place;
          round_none = O.round_none;
          scan_none = O.scan_none;
          decided = (λ h. absurd (omega arith), λ h. absurd (two (O.decided.1 h)));
          idle = λ n. absurd (n refl);
          no_steps = O.no_steps;
          no_decision = λ _. O.no_decision two;
          takes = λ h. absurd (omega arith);
        }
