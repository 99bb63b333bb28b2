-- A step or a stop of one party changes no other party, and a stop none that has decided.
use Prim.Native.Nat.{ℕ, ◌-◌, ◌≤◌}
use mathlib.Core.Path.{◌≡◌, refl, sym, ◌∙◌, ap, subst}
use mathlib.Core.List.{List}
use mathlib.Core.Logic.{◌≢◌}
use mathlib.Core.Bool.{Bool, true, false, cond}
use native.Mathlib.Decide.{ℕ_discrete}
use borrow.Author.Tests.{eq-eqb, le-ltb}
use lib.Dec.{ltb, eqb}
use lib.ListN.{length, set}
use lib.Seq.{set-get_or}
use Rattle.state.specs.Session.{no_party, party_of}
use Rattle.state.specs.declared.kept.Party.{Party}
use Rattle.state.specs.declared.kept.Session.{Session}
use Rattle.steps.specs.Step.{acted, step, stopped_party, stop}
use Rattle.steps.proofs.Landing.{party_set, party_kept}

module _ (s : Session) (i : ℕ) (least : 1 ≤ i) where
  abbrev p : Party
  p = party_of s.parties i

  -- ---- a step

  -- of a party that is not live
  pub step_none : 2 ≤ p.status → step s i ≡ s
  unfolding step
  step_none h = rw (le-ltb p.status 2 h)

  pub step_other : (j : ℕ) → 1 ≤ j → j ≢ i → party_of (step s i).parties j ≡ party_of s.parties j
  unfolding step
  step_other j l n = by (ltb p.status 2)
    where
      by : (b : Bool) → party_of (cond b (acted s i) s).parties j ≡ party_of s.parties j
      by true = party_kept s.parties i j _ least l n
      by false = refl

  -- ---- a stop

  pub stop_other : (j : ℕ) → 1 ≤ j → j ≢ i → party_of (stop s i).parties j ≡ party_of s.parties j
  unfolding stop
  stop_other j l n = party_kept s.parties i j (stopped_party p) least l n

  -- and makes of the party itself what it says
  pub stop_own : i ≤ length s.parties → party_of (stop s i).parties i ≡ stopped_party p
  unfolding stop
  stop_own h = party_set s.parties i (stopped_party p) least h

  decided_same : p.status ≡ 2 → stopped_party p ≡ p
  decided_same e =
      ap
      (λ (x : ℕ).
      record { status = x; place = p.place; round = p.round; k = p.k; candidate = p.candidate; steps = p.steps; decision = p.decision })
      (let two : cond (eqb p.status 2) 2 3 ≡ 2 = rw (eq-eqb p.status 2 e) in two ∙ sym e)

  pub stop_decided : (j : ℕ) → 1 ≤ j → (party_of s.parties j).status ≡ 2 → party_of (stop s i).parties j ≡ party_of s.parties j
  unfolding stop
  stop_decided j l e = by (ℕ_discrete j i)
    where
      by : Dec (j ≡ i) → party_of (stop s i).parties j ≡ party_of s.parties j
      by (yes d) =
          let two : p.status ≡ 2 = subst (λ (x : ℕ). (party_of s.parties x).status ≡ 2) d e in
          ap (λ (x : Party). party_of (set s.parties (i - 1) x) j) (decided_same two)
          ∙ ap (λ (x : List Party). party_of x j) (set-get_or s.parties (i - 1) no_party)
      by (no d) = stop_other j l d
