-- Every move keeps the invariant, so parties that have decided have one candidate, a party that has announced.
use Prim.Native.Nat.{ℕ, ◌-◌, ◌≤◌, ◌<◌}
use mathlib.Core.Path.{◌≡◌, refl}
use native.Mathlib.Omega.{arith}
use native.Mathlib.Decide.{ℕ_discrete}
use Rattle.steps.proofs.Views.{Standing, at_announce, at_publish, at_write, at_top, at_own, at_pair, at_fetch, at_decide, at_done, View}
use Rattle.steps.proofs.Views.{Won, on, last, NextK, more, none, lower, top, Move, Still, Opened}
use Rattle.steps.proofs.Views.{Act, announces_alone, announces_first, announces_top, publishes, lower_writes, top_writes}
use Rattle.steps.proofs.Views.{top_empty, top_marked, own_empty, own_marked, pair_higher, pair_else, fetches, decides}
use Rattle.steps.proofs.Holder.{Marked, Announced, Holder, first, by_top, by_lowers, holder_least_lem, Stable}
use Rattle.steps.proofs.Stays.{Effect, nothing, a_cell, lower_set, top_set, same_stable, effect_stable, Memory, own_others, effect_memory}
use Rattle.steps.proofs.Justified.{Justified, justified_stays, act_justified}

-- the party has done its write of round r
abbrev pub Passed : ℕ → Standing → Type 0
Passed r (at_announce c) = ⊥
Passed r (at_publish x c) = r < x
Passed r (at_write x c) = r < x
Passed r (at_top x c) = r ≤ x
Passed r (at_own x k c) = r ≤ x
Passed r (at_pair x k c) = r ≤ x
Passed r (at_fetch x k c) = r ≤ x
Passed r (at_decide c) = Unit
Passed r (at_done c) = Unit

pub record Invariant (n : ℕ) (s : View) : Type 0 where
  pub justified : (i : ℕ) → 1 ≤ i → i ≤ n → Justified n s i (s.stands i)
  pub passed : (r i : ℕ) → 1 ≤ i → i ≤ n → Marked s r i → Passed r (s.stands i)
  pub memory : Memory s

-- ---- an act

-- who acts has announced
won_announced : {n r c : ℕ} {q : Standing} → Won n r c q → Announced q
won_announced (on l) = tt
won_announced (last e) = tt

next_announced : {n r k c : ℕ} {q : Standing} → NextK n r k c q → Announced q
next_announced (more l) = tt
next_announced (none e w) = won_announced w

act_announced : {n : ℕ} {s t : View} {i : ℕ} {p q : Standing} → Act n s t i p q → Announced q
act_announced (announces_alone e m) = tt
act_announced (announces_first g e m) = tt
act_announced (announces_top g m) = tt
act_announced (publishes m) = tt
act_announced (lower_writes l m) = tt
act_announced (top_writes l m) = tt
act_announced (top_empty e w m) = won_announced w
act_announced (top_marked e m) = tt
act_announced (own_empty e w m) = next_announced w
act_announced (own_marked e m) = tt
act_announced (pair_higher e (lower l w) m) = won_announced w
act_announced (pair_higher e (top l) m) = tt
act_announced (pair_else e w m) = next_announced w
act_announced (fetches w m) = won_announced w
act_announced (decides m) = tt

-- a party that has not passed its write has not written
act_effect : {n : ℕ} {s t : View} {i : ℕ} {p q : Standing} → Justified n s i p → ((r : ℕ) → Marked s r i → Passed r p)
    → Act n s t i p q → Effect s t i
act_effect o w (announces_alone e m) = nothing m
act_effect o w (announces_first g e m) = nothing m
act_effect o w (announces_top g m) = nothing m
act_effect o w (publishes m) = a_cell m (holder_least_lem o.lower.held) o.lower.held
act_effect {s = s} {i = i} o w (lower_writes {r} l m) = lower_set m l (omega (arith, not_yet)) (o.published l)
  where
    not_yet : Marked s r i → ⊥
    not_yet h = omega (arith, w r h)
act_effect {s = s} {i = i} o w (top_writes {r} e m) = top_set m e (omega (arith, not_yet))
  where
    not_yet : Marked s r r → ⊥
    not_yet h = omega (arith, w r (rw e h))
act_effect o w (top_empty e _ m) = nothing m
act_effect o w (top_marked e m) = nothing m
act_effect o w (own_empty e _ m) = nothing m
act_effect o w (own_marked e m) = nothing m
act_effect o w (pair_higher e _ m) = nothing m
act_effect o w (pair_else e _ m) = nothing m
act_effect o w (fetches _ m) = nothing m
act_effect o w (decides m) = nothing m

won_passed : {n r c x : ℕ} {q : Standing} → x ≤ r → Won n r c q → Passed x q
won_passed h (on l) = omega arith
won_passed h (last e) = tt

next_passed : {n r k c x : ℕ} {q : Standing} → x ≤ r → NextK n r k c q → Passed x q
next_passed h (more l) = h
next_passed h (none e w) = won_passed h w

-- who acts has done its write of every round that it has marked
act_passed : {n : ℕ} {s t : View} {i : ℕ} {p q : Standing} (x : ℕ) → (Marked s x i → Passed x p) → Act n s t i p q → Marked t x i → Passed x q
act_passed {i = i} x w (announces_alone e m) h = tt
act_passed {i = i} x w (announces_first g e m) h = absurd (w (omega (arith, m.own x i)))
act_passed {i = i} x w (announces_top g m) h = absurd (w (omega (arith, m.own x i)))
act_passed {i = i} x w (publishes m) h = w (omega (arith, m.own x i))
act_passed {i = i} x w (lower_writes {r} l m) h = by (ℕ_discrete x r)
  where
    by : Dec (x ≡ r) → x ≤ r
    by (yes e) = omega arith
    by (no e) = omega (arith, w (omega (arith, m.own_other x i (λ z. e z.0))))
act_passed {i = i} x w (top_writes {r} l m) h = by (ℕ_discrete x r)
  where
    by : Dec (x ≡ r) → x ≤ r
    by (yes e) = omega arith
    by (no e) = omega (arith, w (omega (arith, m.own_other x i (λ z. e z.0))))
act_passed {i = i} x w (top_empty e v m) h = won_passed (w (omega (arith, m.own x i))) v
act_passed {i = i} x w (top_marked e m) h = w (omega (arith, m.own x i))
act_passed {i = i} x w (own_empty e v m) h = next_passed (w (omega (arith, m.own x i))) v
act_passed {i = i} x w (own_marked e m) h = w (omega (arith, m.own x i))
act_passed {i = i} x w (pair_higher e (lower l v) m) h = won_passed (w (omega (arith, m.own x i))) v
act_passed {i = i} x w (pair_higher e (top l) m) h = w (omega (arith, m.own x i))
act_passed {i = i} x w (pair_else e v m) h = next_passed (w (omega (arith, m.own x i))) v
act_passed {i = i} x w (fetches v m) h = won_passed (w (omega (arith, m.own x i))) v
act_passed {i = i} x w (decides m) h = tt

-- ---- the invariant

pub move_keeps : {n : ℕ} {s t : View} {i : ℕ} → 1 ≤ i → i ≤ n → Invariant n s → Move n s t i → Invariant n t
move_keeps {n} {s} {t} {i} least most I M = record { justified = justs; passed = passes; memory = effect_memory S I.memory effect }
  where
    effect : Effect s t i
    effect = act_effect (I.justified i least most) (λ r. I.passed r i least most) M.act

    announced : Dec (1 ≡ i) → Announced (s.stands 1) → Announced (t.stands 1)
    announced (yes e) h = rw e (act_announced M.act)
    announced (no e) h = rw (M.others 1 (omega arith) e) h

    S : Stable s t
    S = effect_stable i (announced (ℕ_discrete 1 i)) effect

    here : i ≡ 1 → Announced (t.stands 1)
    here e = rw e at (act_announced M.act)

    justs : (j : ℕ) → 1 ≤ j → j ≤ n → Justified n t j (t.stands j)
    justs j p l = by (ℕ_discrete j i)
      where
        by : Dec (j ≡ i) → Justified n t j (t.stands j)
        by (yes e) = rw e (act_justified least most S here I.memory (I.justified i least most) M.act)
        by (no e) = rw (M.others j p e) (justified_stays S n j (s.stands j) (I.justified j p l))

    passes : (r j : ℕ) → 1 ≤ j → j ≤ n → Marked t r j → Passed r (t.stands j)
    passes r j p l h = by (ℕ_discrete j i)
      where
        by : Dec (j ≡ i) → Passed r (t.stands j)
        by (yes e) = rw e (act_passed r (I.passed r i least most) M.act (rw e at h))
        by (no e) = rw (M.others j p e) (I.passed r j p l (omega (arith, own_others effect r j e)))

pub opened_invariant : {n : ℕ} {s : View} → Opened n s → Invariant n s
opened_invariant {n} {s} O =
    record {
      justified = λ i p l. rw (O.stands i p l) refl;
      passed = λ r i _ _ h. absurd (omega (arith, O.own r i));
      memory = record { shown = λ r k l h. absurd (omega (arith, O.own r k)); held = λ r k h. absurd (omega (arith, O.published r k)) };
    }

pub still_keeps : {n : ℕ} {s t : View} → Invariant n s → Still s t → Invariant n t
still_keeps {n} {s} {t} I D =
    record {
      justified = λ j p l. rw (D.stands j p) (justified_stays S n j (s.stands j) (I.justified j p l));
      passed = λ r j p l h. rw (D.stands j p) (I.passed r j p l (omega (arith, D.same.own r j)));
      memory = effect_memory S I.memory {i = 0} (nothing D.same);
    }
  where
    S : Stable s t
    S = same_stable 0 (λ h. rw (D.stands 1 (omega arith)) h) D.same

-- ---- what the invariant says

abbrev pub candidate_of : Standing → ℕ
candidate_of (at_announce c) = c
candidate_of (at_publish r c) = c
candidate_of (at_write r c) = c
candidate_of (at_top r c) = c
candidate_of (at_own r k c) = c
candidate_of (at_pair r k c) = c
candidate_of (at_fetch r k c) = c
candidate_of (at_decide c) = c
candidate_of (at_done c) = c

module _ {n : ℕ} {s : View} (I : Invariant n s) where
  -- the holder is a party that has announced
  pub holder_valid : {r h : ℕ} → r ≤ n → Holder s r h → (h ≤ n) × Announced (s.stands h)
  holder_valid l (first a e f) = (omega arith, rw f a)
  holder_valid {r = r} l (by_top g w f) = (omega arith, rw f (announced (s.stands r) (I.passed r r (omega arith) l w.marked)))
    where
      announced : (a : Standing) → Passed r a → Announced a
      announced (at_announce c) h = h
      announced (at_publish x c) h = tt
      announced (at_write x c) h = tt
      announced (at_top x c) h = tt
      announced (at_own x k c) h = tt
      announced (at_pair x k c) h = tt
      announced (at_fetch x k c) h = tt
      announced (at_decide c) h = tt
      announced (at_done c) h = tt
  holder_valid l (by_lowers g w x) = holder_valid (omega arith) x

  -- every published candidate is a party
  pub published_fits_lem : (r k : ℕ) → r ≤ n → s.published r k ≤ n
  published_fits_lem r k l = by (ℕ_discrete (s.published r k) 0)
    where
      by : Dec (s.published r k ≡ 0) → s.published r k ≤ n
      by (yes e) = omega arith
      by (no e) = (holder_valid (omega arith) (I.memory.held r k (omega arith))).0

  -- and every party's candidate
  module _ (i : ℕ) (least : 1 ≤ i) (most : i ≤ n) where
    held_fits : {r c : ℕ} → 2 ≤ r → r ≤ n → i ≤ r → (i < r → Holder s (r - 1) c) → (i ≡ r → c ≡ i) → (1 ≤ c) × (c ≤ n)
    held_fits {r} {c} two l g f e = by (ℕ_discrete i r)
      where
        by : Dec (i ≡ r) → (1 ≤ c) × (c ≤ n)
        by (yes d) = (omega (arith, e d), omega (arith, e d))
        by (no d) = let y = f (omega arith) in (holder_least_lem y, (holder_valid (omega arith) y).0)

    pub candidate_fits_lem : (a : Standing) → Justified n s i a → (1 ≤ candidate_of a) × (candidate_of a ≤ n)
    candidate_fits_lem (at_announce c) o = (omega arith, omega arith)
    candidate_fits_lem (at_publish r c) o =
        held_fits {r = r} (omega arith) o.fits (omega arith) (λ _. o.lower.held) (λ e. absurd (omega arith))
    candidate_fits_lem (at_write r c) o = held_fits {r = r} o.least o.fits o.within (λ l. (o.lower l).held) o.self
    candidate_fits_lem (at_top r c) o =
        held_fits {r = r} (omega arith) o.fits (omega arith) (λ _. o.lower.held) (λ e. absurd (omega arith))
    candidate_fits_lem (at_own r k c) o = held_fits {r = r} (omega arith) o.fits o.scan.within o.scan.held o.scan.self
    candidate_fits_lem (at_pair r k c) o = held_fits {r = r} (omega arith) o.fits o.scan.within o.scan.held o.scan.self
    candidate_fits_lem (at_fetch r k c) o = (omega (arith, o), omega (arith, o))
    candidate_fits_lem (at_decide c) o = (holder_least_lem o, (holder_valid (omega arith) o).0)
    candidate_fits_lem (at_done c) o = (holder_least_lem o, (holder_valid (omega arith) o).0)
