-- Who has decided has the holder of the last round as candidate, and there is one: so all decide one party's proposal, and it has announced.
use Prim.Native.Nat.{ℕ, zero, suc, ◌-◌, ◌≤◌}
use mathlib.Core.Path.{◌≡◌, refl, sym, ◌∙◌, ap, subst, subst⁻¹}
use mathlib.Core.List.{List}
use mathlib.Core.Logic.{◌≢◌, ◌⊎◌, inl, inr}
use native.Mathlib.Omega.{arith}
use native.Mathlib.Decide.{ℕ_discrete}
use lib.ListN.{length, get_or}
use Rattle.sheet.specs.Rows.{parties_of}
use Rattle.rules.specs.Words.{Rules6}
use Rattle.state.specs.Session.{filled, layout, party_of}
use Rattle.state.specs.declared.kept.Party.{Party}
use Rattle.state.specs.declared.kept.Session.{Session}
use Rattle.state.proofs.Filled.{filled_front}
use Rattle.steps.specs.Step.{place_of, step, stop}
use Rattle.steps.specs.Reach.{Agreed, Lasting}
use Rattle.steps.proofs.Holder.{Announced, Holder, holder_one, holder_least_lem}
use Rattle.steps.proofs.Invariant.{holder_valid}
use Rattle.steps.proofs.Seen.{standing, stands_at, view}
use Rattle.steps.proofs.Turns.{step_none, step_other, stop_other}
use Rattle.steps.proofs.Obeying.{stop_over}
use Rattle.steps.proofs.Kept.{Kept}
use Rattle.steps.proofs.Reached.{Leads, here, by_step, by_stop, Reached, reached_kept, reached_parties}

-- somebody has decided, or nobody has
abbrev Somebody : ℕ → Session → Type 0
Somebody n s = (i : ℕ) × (1 ≤ i) × (i ≤ n) × ((party_of s.parties i).status ≡ 2)

somebody? : (n : ℕ) (s : Session) → Somebody n s ⊎ ((i : ℕ) → 1 ≤ i → i ≤ n → (party_of s.parties i).status ≢ 2)
somebody? zero s = inr (λ i l h. absurd (omega arith))
somebody? (suc n) s = by (somebody? n s) (ℕ_discrete (party_of s.parties (suc n)).status 2)
  where
    by : Somebody n s ⊎ ((i : ℕ) → 1 ≤ i → i ≤ n → (party_of s.parties i).status ≢ 2) → Dec ((party_of s.parties (suc n)).status ≡ 2)
        → Somebody (suc n) s ⊎ ((i : ℕ) → 1 ≤ i → i ≤ suc n → (party_of s.parties i).status ≢ 2)
    by (inl (i, l, h, e)) d = inl (i, l, omega arith, e)
    by (inr none) (yes e) = inl (suc n, omega arith, omega arith, e)
    by (inr none) (no d) = inr (λ i l h. at i l h (ℕ_discrete i (suc n)))
      where
        at : (i : ℕ) → 1 ≤ i → i ≤ suc n → Dec (i ≡ suc n) → (party_of s.parties i).status ≢ 2
        at i l h (yes e) = rw e d
        at i l h (no e) = none i l (omega arith)

-- ---- of a session that is kept

module _ {sheet proposals : List ℕ} (s : Session) (K : Kept sheet proposals s) where
  abbrev n : ℕ
  n = (layout s).parties

  decided_holds : (i : ℕ) → 1 ≤ i → i ≤ n → (party_of s.parties i).status ≡ 2 → Holder (view s) n (party_of s.parties i).candidate
  decided_holds i l h e = rw ((K.orderly i l h).decided.0 e) at (K.invariant.justified i l h)

  has_announced : (p : Party) → Announced (stands_at p) → p.place ≢ 0
  has_announced p a e = subst (λ (x : ℕ). Announced (standing (place_of x) p.round p.k p.candidate)) e a

  agreed_by : length proposals ≡ n → (i : ℕ) → 1 ≤ i → i ≤ n → (party_of s.parties i).status ≡ 2
      → Agreed n proposals s (party_of s.parties i).candidate
  agreed_by count i l h e =
      record {
        least = holder_least_lem held;
        most = valid.0;
        candidate = one;
        decision = λ j a b d.
            (K.orderly j a b).takes d
            ∙ ap (λ (x : List ℕ). get_or x ((party_of s.parties j).candidate - 1) 0) K.given
            ∙ ap (λ (x : ℕ). get_or (filled 16 proposals) (x - 1) 0) (one j a b d)
            ∙ filled_front 16 proposals (c - 1) (omega (arith, valid.0, holder_least_lem held, count));
        announced = λ j a b d. has_announced (party_of s.parties c) valid.1;
      }
    where
      c : ℕ
      c = (party_of s.parties i).candidate

      held : Holder (view s) n c
      held = decided_holds i l h e

      valid : (c ≤ n) × Announced (stands_at (party_of s.parties c))
      valid = holder_valid K.invariant (omega arith) held

      one : (j : ℕ) → 1 ≤ j → j ≤ n → (party_of s.parties j).status ≡ 2 → (party_of s.parties j).candidate ≡ c
      one j a b d = holder_one (decided_holds j a b d) held

  kept_agreed : length proposals ≡ n → 1 ≤ n → (h : ℕ) × Agreed n proposals s h
  kept_agreed count some = by (somebody? n s)
    where
      by : Somebody n s ⊎ ((i : ℕ) → 1 ≤ i → i ≤ n → (party_of s.parties i).status ≢ 2) → (h : ℕ) × Agreed n proposals s h
      by (inl (i, l, h, e)) = ((party_of s.parties i).candidate, agreed_by count i l h e)
      by (inr none) = (
        1,
        record {
          least = omega arith;
          most = some;
          candidate = λ i l h e. absurd (none i l h e);
          decision = λ i l h e. absurd (none i l h e);
          announced = λ i l h e. absurd (none i l h e);
        },
      )

-- ---- what has been decided stays

-- a way, and another one from where it ends
leads_on : {n : ℕ} {s t u : Session} → Leads n s t → Leads n t u → Leads n s u
leads_on R here = R
leads_on R (by_step i least most S) = by_step i least most (leads_on R S)
leads_on R (by_stop i least most S) = by_stop i least most (leads_on R S)

-- a party that has decided or was stopped never changes
pub over_stays : {n : ℕ} {s t : Session} → Leads n s t → (i : ℕ) → 1 ≤ i → 2 ≤ (party_of s.parties i).status → (party_of s.parties i).status ≤ 3
    → party_of t.parties i ≡ party_of s.parties i
over_stays here i l a b = refl
over_stays {s = s} (by_step {t} j x y R) i l a b = by (ℕ_discrete i j) (over_stays R i l a b)
  where
    by : Dec (i ≡ j) → party_of t.parties i ≡ party_of s.parties i → party_of (step t j).parties i ≡ party_of s.parties i
    by (yes d) same =
        let over : 2 ≤ (party_of t.parties i).status = subst⁻¹ (λ (p : Party). 2 ≤ p.status) same a in
        ap (λ (u : Session). party_of u.parties i) (step_none t j x (subst (λ (k : ℕ). 2 ≤ (party_of t.parties k).status) d over)) ∙ same
    by (no d) same = step_other t j x i l d ∙ same
over_stays {s = s} (by_stop {t} j x y R) i l a b = by (ℕ_discrete i j) (over_stays R i l a b)
  where
    by : Dec (i ≡ j) → party_of t.parties i ≡ party_of s.parties i → party_of (stop t j).parties i ≡ party_of s.parties i
    by (yes d) same =
        let over : 2 ≤ (party_of t.parties i).status = subst⁻¹ (λ (p : Party). 2 ≤ p.status) same a in
        let few : (party_of t.parties i).status ≤ 3 = subst⁻¹ (λ (p : Party). p.status ≤ 3) same b in
        ap (λ (u : Session). party_of u.parties i)
        (stop_over t j (subst (λ (k : ℕ). 2 ≤ (party_of t.parties k).status) d over) (subst (λ (k : ℕ). (party_of t.parties k).status ≤ 3) d few))
        ∙ same
    by (no d) same = stop_other t j x i l d ∙ same

-- ---- of every session that is reached

module _ (sheet proposals : List ℕ) (rules : Rules6 sheet) (count : length proposals ≡ parties_of sheet) where
  abbrev parties : ℕ
  parties = parties_of sheet

  pub agreement : {s : Session} → Reached sheet proposals s → (h : ℕ) × Agreed parties proposals s h
  agreement {s} R =
      subst
      (λ (n : ℕ). (h : ℕ) × Agreed n proposals s h)
      same
      (kept_agreed s (reached_kept sheet proposals rules R) (count ∙ sym same) some)
    where
      same : (layout s).parties ≡ parties
      same = reached_parties sheet proposals rules R

      some : 1 ≤ (layout s).parties
      some = omega (arith, same, rules.before.before.before.header.parties_least)

  -- the party whose proposal is decided is the same one later, and who has decided has decided the same
  pub lasting : {s t : Session} → Reached sheet proposals s → Leads parties s t → Lasting parties proposals s t
  lasting {s} {t} R L =
      record {
        holder = h;
        before =
            record {
              least = A.least;
              most = A.most;
              candidate = λ i l m e. sym (ap (λ (p : Party). p.candidate) (kept i l m e)) ∙ A.candidate i l m (decided i l m e);
              decision = λ i l m e. sym (ap (λ (p : Party). p.decision) (kept i l m e)) ∙ A.decision i l m (decided i l m e);
              announced = λ i l m e. subst (λ (k : ℕ). (party_of s.parties k).place ≡ 0 → ⊥) (one i l m e) (B.announced i l m e);
            };
        after = A;
        rests = λ i l m a. over_stays L i l a (few i l m);
      }
    where
      h : ℕ
      h = (agreement (leads_on R L)).0

      A : Agreed parties proposals t h
      A = (agreement (leads_on R L)).1

      B : Agreed parties proposals s (agreement R).0
      B = (agreement R).1

      few : (i : ℕ) → 1 ≤ i → i ≤ parties → (party_of s.parties i).status ≤ 3
      few i l m = ((reached_kept sheet proposals rules R).orderly i l (omega (arith, reached_parties sheet proposals rules R))).status

      kept : (i : ℕ) → 1 ≤ i → i ≤ parties → (party_of s.parties i).status ≡ 2 → party_of t.parties i ≡ party_of s.parties i
      kept i l m e = over_stays L i l (omega arith) (few i l m)

      decided : (i : ℕ) → 1 ≤ i → i ≤ parties → (party_of s.parties i).status ≡ 2 → (party_of t.parties i).status ≡ 2
      decided i l m e = ap (λ (p : Party). p.status) (kept i l m e) ∙ e

      one : (i : ℕ) → 1 ≤ i → i ≤ parties → (party_of s.parties i).status ≡ 2 → (agreement R).0 ≡ h
      one i l m e =
          sym (B.candidate i l m e) ∙ sym (ap (λ (p : Party). p.candidate) (kept i l m e)) ∙ A.candidate i l m (decided i l m e)
