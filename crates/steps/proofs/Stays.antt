-- What has been settled stays: a lower's write comes over an empty own unit, and the top's puts higher where the lowers before it have written.
use Prim.Native.Nat.{ℕ, ◌-◌, ◌≤◌, ◌<◌}
use mathlib.Core.Path.{◌≡◌, sym, ◌∙◌}
use mathlib.Core.Logic.{◌≢◌}
use native.Mathlib.Omega.{arith}
use native.Mathlib.Decide.{ℕ_discrete}
use Rattle.steps.proofs.Views.{View, Here, Same, Published, LowerWrote, TopWrote}
use Rattle.steps.proofs.Holder.{Marked, Before, alone, over, NotBefore, Announced, Holder, holder_stays, Stable}

-- what an act of party i does to the memory, with what holds before it
pub data Effect (s t : View) (i : ℕ) : Type 0 where
  nothing : Same s t → Effect s t i
  a_cell : {r c : ℕ} → Published s t r i c → 1 ≤ c → Holder s (r - 1) c → Effect s t i
  lower_set : {r : ℕ} → LowerWrote s t r i → i < r → s.own r i ≡ 0 → 0 < s.published r i → Effect s t i
  top_set : {r : ℕ} → TopWrote s t r → i ≡ r → s.own r r ≡ 0 → Effect s t i

here? : (r k r' k' : ℕ) → Dec (Here r k r' k')
here? r k r' k' = by (ℕ_discrete r r') (ℕ_discrete k k')
  where
    by : Dec (r ≡ r') → Dec (k ≡ k') → Dec (Here r k r' k')
    by (yes e) (yes f) = yes (e, f)
    by (yes e) (no f) = no (λ h. f h.1)
    by (no e) d = no (λ h. e h.0)

module _ {s t : View} (i : ℕ) (announced : Announced (s.stands 1) → Announced (t.stands 1)) where
  -- where the marks stay
  module _ (own : (r k : ℕ) → t.own r k ≡ s.own r k) (pair : (r k : ℕ) → t.pair r k ≡ s.pair r k) where
    marks_stable : ((r k : ℕ) → 0 < s.published r k → 0 < t.published r k) → Stable s t
    marks_stable kept =
        record {
          marked = λ r k h. omega (arith, own r k);
          before = befores;
          not_before = λ r k _ _ _ n a b. n (omega (arith, own r k)) (sym (pair r k) ∙ b);
          published = kept;
          announced = announced;
        }
      where
        befores : (r k : ℕ) → 1 ≤ k → k < r → Before s r k → Before t r k
        befores r k _ _ (alone a b) = alone (omega (arith, own r k)) (own r r ∙ b)
        befores r k _ _ (over a b) = over (omega (arith, own r k)) (pair r k ∙ b)

  pub same_stable : Same s t → Stable s t
  same_stable m = marks_stable m.own m.pair (λ r k h. omega (arith, m.published r k))

  published_stable : {r c : ℕ} → Published s t r i c → 1 ≤ c → Stable s t
  published_stable {r} {c} m pos = marks_stable m.own m.pair (λ x k. kept x k (here? x k r i))
    where
      kept : (x k : ℕ) → Dec (Here x k r i) → 0 < s.published x k → 0 < t.published x k
      kept x k (yes e) h = let z : t.published x k ≡ c = cc m.here in omega arith
      kept x k (no e) h = omega (arith, m.other x k e)

  lower_stable : {r : ℕ} → LowerWrote s t r i → i < r → s.own r i ≡ 0 → Stable s t
  lower_stable {r} m l z =
      record {
        marked = λ x k. marks x k (here? x k r i);
        before = λ x k _ _. befores x k (here? x k r i);
        not_before = λ x k _ _ _. nots x k (here? x k r i);
        published = λ x k h. omega (arith, m.published x k);
        announced = announced;
      }
    where
      marks : (x k : ℕ) → Dec (Here x k r i) → Marked s x k → Marked t x k
      marks x k (yes e) h = let y : t.own x k ≡ 1 = cc m.own_here in omega arith
      marks x k (no e) h = omega (arith, m.own_other x k e)

      tops : (x : ℕ) → t.own x x ≡ s.own x x
      tops x = m.own_other x x (λ h. omega arith)

      befores : (x k : ℕ) → Dec (Here x k r i) → Before s x k → Before t x k
      befores x k (yes e) (alone a b) = let y : s.own x k ≡ 0 = cc in absurd (omega arith)
      befores x k (yes e) (over a b) = let y : s.own x k ≡ 0 = cc in absurd (omega arith)
      befores x k (no e) (alone a b) = alone (omega (arith, m.own_other x k e)) (tops x ∙ b)
      befores x k (no e) (over a b) = over (omega (arith, m.own_other x k e)) (m.pair_other x k e ∙ b)

      nots : (x k : ℕ) → Dec (Here x k r i) → NotBefore s x k → NotBefore t x k
      nots x k (yes e) n a b = let y : t.pair x k ≡ 1 = cc m.pair_here in omega arith
      nots x k (no e) n a b = n (omega (arith, m.own_other x k e)) (sym (m.pair_other x k e) ∙ b)

  top_stable : {r : ℕ} → TopWrote s t r → s.own r r ≡ 0 → Stable s t
  top_stable {r} m z =
      record {
        marked = λ x k. marks x k (here? x k r r);
        before = λ x k. befores x k (ℕ_discrete x r);
        not_before = λ x k _ _. nots x k (ℕ_discrete x r);
        published = λ x k h. omega (arith, m.published x k);
        announced = announced;
      }
    where
      marks : (x k : ℕ) → Dec (Here x k r r) → Marked s x k → Marked t x k
      marks x k (yes e) h = let y : t.own x k ≡ 2 = cc m.own_here in omega arith
      marks x k (no e) h = omega (arith, m.own_other x k e)

      lowers : (x k : ℕ) → k < x → t.own x k ≡ s.own x k
      lowers x k q = m.own_other x k (λ h. omega arith)

      pairs : (x k : ℕ) → x ≡ r → 1 ≤ k → k < x → t.pair x k ≡ 2
      pairs x k e p q = let h = m.pair_here k p (omega arith) in cc

      befores : (x k : ℕ) → Dec (x ≡ r) → 1 ≤ k → k < x → Before s x k → Before t x k
      befores x k (yes e) p q (alone a b) = over (omega (arith, lowers x k q)) (pairs x k e p q)
      befores x k (yes e) p q (over a b) = over (omega (arith, lowers x k q)) (pairs x k e p q)
      befores x k (no e) p q (alone a b) = alone (omega (arith, lowers x k q)) (m.own_other x x (λ h. e h.0) ∙ b)
      befores x k (no e) p q (over a b) = over (omega (arith, lowers x k q)) (m.pair_other x k e ∙ b)

      nots : (x k : ℕ) → Dec (x ≡ r) → Marked s x x → NotBefore s x k → NotBefore t x k
      nots x k (yes e) h n a b = let y : s.own x x ≡ 0 = cc in omega arith
      nots x k (no e) h n a b = n (omega (arith, m.own_other x k (λ h. e h.0))) (sym (m.pair_other x k e) ∙ b)

  pub effect_stable : Effect s t i → Stable s t
  effect_stable (nothing m) = same_stable m
  effect_stable (a_cell m c h) = published_stable m c
  effect_stable (lower_set m l z p) = lower_stable m l z
  effect_stable (top_set m e z) = top_stable m z

-- ---- what holds of the memory

-- who has written as a lower has published, and what is published is the holder of the round before
pub record Memory (s : View) : Type 0 where
  pub shown : (r k : ℕ) → k < r → Marked s r k → 0 < s.published r k
  pub held : (r k : ℕ) → 0 < s.published r k → Holder s (r - 1) (s.published r k)

-- an act writes no other party's own unit
pub own_others : {s t : View} {i : ℕ} → Effect s t i → (r j : ℕ) → j ≢ i → t.own r j ≡ s.own r j
own_others (nothing m) r j n = m.own r j
own_others (a_cell m c h) r j n = m.own r j
own_others (lower_set m l z p) r j n = m.own_other r j (λ h. n h.1)
own_others (top_set m e z) r j n = m.own_other r j (λ h. n (h.1 ∙ sym e))

module _ {s t : View} (S : Stable s t) (M : Memory s) where
  was_held : (r k : ℕ) → t.published r k ≡ s.published r k → 0 < t.published r k → Holder t (r - 1) (t.published r k)
  was_held r k e h = rw e (holder_stays S (M.held r k (omega arith)))

  was_shown : (r k : ℕ) → t.own r k ≡ s.own r k → k < r → Marked t r k → 0 < t.published r k
  was_shown r k e l h = S.published r k (M.shown r k l (omega arith))

  pub effect_memory : {i : ℕ} → Effect s t i → Memory t
  effect_memory (nothing m) = record { shown = λ r k. was_shown r k (m.own r k); held = λ r k. was_held r k (m.published r k) }
  effect_memory {i} (a_cell {r} {c} m _ held) = record { shown = λ x k. was_shown x k (m.own x k); held = λ x k. by x k (here? x k r i) }
    where
      by : (x k : ℕ) → Dec (Here x k r i) → 0 < t.published x k → Holder t (x - 1) (t.published x k)
      by x k (yes y) h = let z : t.published x k ≡ c = cc m.here in rw (z, y.0) (holder_stays S held)
      by x k (no y) h = was_held x k (m.other x k y) h
  effect_memory {i} (lower_set {r} m _ z p) = record { shown = λ x k. by x k (here? x k r i); held = λ x k. was_held x k (m.published x k) }
    where
      by : (x k : ℕ) → Dec (Here x k r i) → k < x → Marked t x k → 0 < t.published x k
      by x k (yes e) l h = let y : s.published x k ≡ s.published r i = cc in S.published x k (omega arith)
      by x k (no e) l h = was_shown x k (m.own_other x k e) l h
  effect_memory (top_set m e z) =
      record {
        shown = λ r k l. was_shown r k (m.own_other r k (λ y. omega arith)) l;
        held = λ r k. was_held r k (m.published r k);
      }
