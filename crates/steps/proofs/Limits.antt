-- A round r costs a party at most 2 r + 1 own steps, the own round of a top one less, so the place bounds the own steps from above by squares.
use Prim.Native.Nat.{ℕ, zero, suc, ◌+◌, ◌*◌, ◌≤◌, ◌<◌}
use mathlib.Core.Path.{◌≡◌, refl, subst}
use mathlib.Core.Logic.{◌⊎◌, inl, inr, ⊎_elim}
use native.Mathlib.Omega.{arith}
use native.Mathlib.Nat.{mul-le-mul}
use native.Mathlib.Decide.{ℕ_discrete}
use Rattle.steps.proofs.Views.{Standing, at_announce, at_publish, at_write, at_top, at_own, at_pair, at_fetch, at_decide, at_done, View}
use Rattle.steps.proofs.Views.{Won, on, last, NextK, more, none, lower, top, Move, Still, Opened}
use Rattle.steps.proofs.Views.{Act, announces_alone, announces_first, announces_top, publishes, lower_writes, top_writes}
use Rattle.steps.proofs.Views.{top_empty, top_marked, own_empty, own_marked, pair_higher, pair_else, fetches, decides}
use Rattle.steps.proofs.Justified.{Justified}
use Rattle.steps.proofs.Invariant.{Invariant}

-- what party i is spared: it would have come to round r with r² own steps
pub spared : ℕ → ℕ
spared zero = 0
spared (suc zero) = 3
spared (suc (suc n)) = suc (suc n) * suc (suc n)

pub spared_first : (i : ℕ) → i ≡ 1 → spared i ≡ 3
unfolding spared
spared_first zero e = absurd (omega arith)
spared_first (suc zero) e = refl
spared_first (suc (suc n)) e = absurd (omega arith)

pub spared_top : (i : ℕ) → 2 ≤ i → spared i ≡ i * i
unfolding spared
spared_top zero e = absurd (omega arith)
spared_top (suc zero) e = absurd (omega arith)
spared_top (suc (suc n)) e = refl

-- party i of n has taken so many own steps where it stands; m counts what it is spared too
abbrev pub Within : ℕ → ℕ → ℕ → Standing → Type 0
Within n i m (at_announce c) = m ≡ spared i
Within n i m (at_publish r c) = m ≤ r * r
Within n i m (at_write r c) = m ≤ r * r + 1
Within n i m (at_top r c) = m ≤ r * r + 2
Within n i m (at_own r k c) = (i ≡ r → m ≤ r * r + 2 * k) × (m ≤ r * r + 1 + 2 * k)
Within n i m (at_pair r k c) = (i ≡ r → m ≤ r * r + 2 * k + 1) × (m ≤ r * r + 2 + 2 * k)
Within n i m (at_fetch r k c) = m ≤ r * r + 2 * k + 2
Within n i m (at_decide c) = m ≤ (n + 1) * (n + 1)
Within n i m (at_done c) = m ≤ (n + 1) * (n + 1) + 1

module _ (n i m : ℕ) where
  won_within : {r c : ℕ} {q : Standing} → m + 1 ≤ (r + 1) * (r + 1) → Won n r c q → Within n i (m + 1) q
  won_within h (on l) = h
  won_within h (last e) = rw e at h

  next_within : {r k c : ℕ} {q : Standing} → (i ≡ r → m + 1 ≤ r * r + 2 * (k + 1)) → m + 1 ≤ r * r + 1 + 2 * (k + 1)
      → NextK n r k c q → Within n i (m + 1) q
  next_within f h (more l) = (f, h)
  next_within f h (none e w) = won_within (omega arith) w

  act_within : {s t : View} {p q : Standing} → 1 ≤ i → i ≤ n → Justified n s i p → Within n i m p → Act n s t i p q → Within n i (m + 1) q
  act_within p l o h (announces_alone e _) = let one : i ≡ 1 = omega arith in rw e (omega (arith, spared_first i one))
  act_within p l o h (announces_first g e _) = omega (arith, spared_first i e)
  act_within p l o h (announces_top g _) = omega (arith, spared_top i g)
  act_within p l o h (publishes _) = omega arith
  act_within p l o h (lower_writes _ _) = omega arith
  act_within p l o h (top_writes _ _) = (omega arith, omega arith)
  act_within p l o h (top_empty e w _) = won_within (omega arith) w
  act_within p l o h (top_marked e _) = (omega arith, omega arith)
  act_within p l o h (own_empty e w _) = next_within (λ f. omega (arith, h.0 f)) (omega arith) w
  act_within p l o h (own_marked e _) = (λ f. omega (arith, h.0 f), omega arith)
  act_within p l o h (pair_higher e (lower _ w) _) = won_within (omega arith) w
  act_within p l o h (pair_higher e (top f) _) = omega (arith, h.0 f)
  act_within p l o h (pair_else e w _) = next_within (λ f. omega (arith, h.0 f)) (omega arith) w
  act_within p l o h (fetches w _) = won_within (omega arith) w
  act_within p l o h (decides _) = omega arith

-- ---- every party

pub record Limited (n : ℕ) (s : View) : Type 0 where
  pub within : (i : ℕ) → 1 ≤ i → i ≤ n → Within n i (s.steps i + spared i) (s.stands i)

pub opened_limited : {n : ℕ} {s : View} → Opened n s → Limited n s
opened_limited O = record { within = λ i p l. rw (O.stands i p l, O.steps i p l) (omega arith) }

pub move_limited : {n : ℕ} {s t : View} {i : ℕ} → 1 ≤ i → i ≤ n → Invariant n s → Limited n s → Move n s t i → Limited n t
move_limited {n} {s} {t} {i} least most I L M = record { within = λ j p l. by j p l (ℕ_discrete j i) }
  where
    one_more : s.steps i + spared i + 1 ≡ t.steps i + spared i
    one_more = omega (arith, M.counted)

    acted : Within n i (s.steps i + spared i + 1) (t.stands i)
    acted = act_within n i (s.steps i + spared i) least most (I.justified i least most) (L.within i least most) M.act

    by : (j : ℕ) → 1 ≤ j → j ≤ n → Dec (j ≡ i) → Within n j (t.steps j + spared j) (t.stands j)
    by j p l (yes e) = rw e (subst (λ (m : ℕ). Within n i m (t.stands i)) one_more acted)
    by j p l (no e) = rw (M.others j p e, M.others_steps j p e) (L.within j p l)

pub still_limited : {n : ℕ} {s t : View} → Limited n s → Still s t → Limited n t
still_limited L D = record { within = λ i p l. rw (D.stands i p, D.steps i p) (L.within i p l) }

-- ---- what the limit says

-- the party has decided
abbrev pub Done : Standing → Type 0
Done (at_announce c) = ⊥
Done (at_publish r c) = ⊥
Done (at_write r c) = ⊥
Done (at_top r c) = ⊥
Done (at_own r k c) = ⊥
Done (at_pair r k c) = ⊥
Done (at_fetch r k c) = ⊥
Done (at_decide c) = ⊥
Done (at_done c) = Unit

module _ {n : ℕ} {s : View} (I : Invariant n s) (L : Limited n s) (i : ℕ) (least : 1 ≤ i) (most : i ≤ n) where
  -- who has not decided is short of the limit
  short : (m : ℕ) (a : Standing) → Justified n s i a → Within n i m a → (m ≤ (n + 1) * (n + 1)) ⊎ ((m ≤ (n + 1) * (n + 1) + 1) × Done a)
  short m (at_announce c) o h = inl (by (ℕ_discrete i 1))
    where
      by : Dec (i ≡ 1) → m ≤ (n + 1) * (n + 1)
      by (yes e) = omega (arith, spared_first i e, mul-le-mul most most)
      by (no e) = omega (arith, spared_top i (omega arith), mul-le-mul most most)
  short m (at_publish r c) o h = inl (omega (arith, mul-le-mul o.fits o.fits))
  short m (at_write r c) o h = inl (omega (arith, mul-le-mul o.fits o.fits))
  short m (at_top r c) o h = inl (omega (arith, mul-le-mul o.fits o.fits))
  short m (at_own r k c) o h = inl (omega (arith, mul-le-mul o.fits o.fits))
  short m (at_pair r k c) o h = inl (omega (arith, mul-le-mul o.fits o.fits))
  short m (at_fetch r k c) o h = inl (omega (arith, mul-le-mul o.fits o.fits))
  short m (at_decide c) o h = inl h
  short m (at_done c) o h = inr (h, tt)

  cases : (s.steps i + spared i ≤ (n + 1) * (n + 1)) ⊎ ((s.steps i + spared i ≤ (n + 1) * (n + 1) + 1) × Done (s.stands i))
  cases = short (s.steps i + spared i) (s.stands i) (I.justified i least most) (L.within i least most)

  pub limit : s.steps i + spared i ≤ (n + 1) * (n + 1) + 1
  limit = ⊎_elim (λ h. omega arith) (λ h. h.0) cases

  pub at_limit : (n + 1) * (n + 1) < s.steps i + spared i → Done (s.stands i)
  at_limit x = ⊎_elim (λ h. absurd (omega arith)) (λ h. h.1) cases
