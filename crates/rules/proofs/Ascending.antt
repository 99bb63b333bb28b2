-- Where the pass says that rounds ascend, a row starts at or past the end of all rows of earlier rounds: an induction over the rows that are left,
-- in which `end` is past every row so far and `limit` past every row of the rounds before.
use Prim.Native.Nat.{ℕ, zero, suc, ◌+◌, ◌-◌, ◌^◌, ◌≤◌, ◌<◌}
use mathlib.Core.Path.{◌≡◌, refl, sym, ap, ◌∙◌, subst}
use mathlib.Core.Logic.{⊎_elim}
use mathlib.Core.List.{List, [], ◌∷◌}
use mathlib.Core.Bool.{Bool, true, false, cond}
use native.Mathlib.Nat.{le_refl, eq-or-lt_of_le}
use native.Mathlib.Omega.{arith}
use borrow.Author.Tests.{eqb-false}
use lib.Dec.{T, ltb, eqb, leb→le}
use lib.ListN.{get_or, drop}
use Rattle.sheet.specs.Rows.{Layout, slot, slots, next_slot, row_count, row_number}
use Rattle.rules.specs.Quick.{edge, edge_after, edge_over, ascending}
use Rattle.sheet.specs.Words.{In, IsSlot}
use Rattle.sheet.specs.declared.rows.Slot.{Slot}
use Rattle.rules.specs.declared.writers.Edge.{Edge}
use Rattle.sheet.proofs.Folds.{and_left, and_right}
use Rattle.sheet.proofs.Slots.{tri_mono, count_tri, number_tri, slots_at, AtRow, at_first, at_next, at_slot, slots_step, slot_row}
use Rattle.sheet.proofs.WriteSets.{before_end}

-- ---- the order of rows

-- a number has one row
one_row : (n : ℕ) (p q : Slot) → IsSlot n p → IsSlot n q → row_number p ≡ row_number q → p ≡ q
one_row n p q s t e = sym (slots_at n p p s) ∙ ap (λ (k : ℕ). get_or (slots n) (k - 1) p) e ∙ slots_at n q p t

-- rows of an earlier round come first
round_first : (n : ℕ) (p q : Slot) → IsSlot n p → IsSlot n q → p.round < q.round → row_number p < row_number q
round_first n p q s t h =
    let own : IsSlot p.round p = record { first = s.first; last = le_refl p.round; lowest = s.lowest; top = s.top } in
    let a = (slot_row p.round p own).1 in
    let b = count_tri p.round in
    let c = tri_mono (suc p.round) q.round h in
    let d = number_tri q in
    let e = t.lowest in
    omega arith

-- ---- the pass

module _ (l : Layout) where
  -- the test is never passed again once it fails
  ok_before : (ps : List Slot) (e : Edge) → T (edge_over l ps e).ok → T e.ok
  ok_before [] e t = t
  ok_before (p ∷ ps) e t = and_left e.ok _ (ok_before ps (edge_after e (eqb p.party 1) (l.row p)) t)

  -- what holds of the edge where row p, counted k from 0, is next
  record Passed (k : ℕ) (p : Slot) (e : Edge) : Type 0 where
    past : (q : Slot) → IsSlot l.parties q → row_number q ≤ k → (u : ℕ) → In (l.row q) u → u < e.end
    under : 1 < p.party → (q : Slot) → IsSlot l.parties q → q.round < p.round → (u : ℕ) → In (l.row q) u → u < e.limit

module _ (l : Layout) (one : 1 ≤ l.parties) (fits : (q : Slot) → IsSlot l.parties q → (l.row q).mask < 2 ^ 64) where
  after : Slot → Edge → Edge
  after p e = edge_after e (eqb p.party 1) (l.row p)

  limit_after : (k : ℕ) (p : Slot) (e : Edge) → AtRow k p → IsSlot l.parties p → Passed l k p e
      → (q : Slot) → IsSlot l.parties q → q.round < p.round → (u : ℕ) → In (l.row q) u → u < (after p e).limit
  unfolding after
  limit_after k p e at s i q t h u x = go (eqb p.party 1) refl
    where
      go : (b : Bool) → eqb p.party 1 ≡ b → u < cond b e.end e.limit
      go true f = let a = round_first l.parties q p t s h in let b = at.number in i.past q t (omega arith) u x
      go false f = let a = eqb-false p.party 1 f in let b = s.lowest in i.under (omega arith) q t h u x

  passed_after : (k : ℕ) (p : Slot) (e : Edge) → AtRow k p → IsSlot l.parties p → Passed l k p e → Passed l (k + 1) (next_slot p) (after p e)
  unfolding after
  passed_after k p e at s i = record { past = past; under = under }
    where
      past : (q : Slot) → IsSlot l.parties q → row_number q ≤ k + 1 → (u : ℕ) → In (l.row q) u → u < (after p e).end
      past q t h u x =
          ⊎_elim
          (λ f.
          let same = one_row l.parties q p t s (f ∙ sym at.number) in
          let b = before_end (l.row p) u (fits p s) (subst (λ (y : Slot). In (l.row y) u) same x) in
          omega arith)
          (λ g. let b = i.past q t (omega arith) u x in omega arith)
          (eq-or-lt_of_le h)

      under : 1 < (next_slot p).party → (q : Slot) → IsSlot l.parties q → q.round < (next_slot p).round
          → (u : ℕ) → In (l.row q) u → u < (after p e).limit
      under = go (ltb p.party p.round)
        where
          go : (b : Bool) → 1 < (cond b (slot p.round (p.party + 1)) (slot (p.round + 1) 1)).party → (q : Slot) → IsSlot l.parties q
              → q.round < (cond b (slot p.round (p.party + 1)) (slot (p.round + 1) 1)).round → (u : ℕ) → In (l.row q) u → u < (after p e).limit
          go true m q t h u x = limit_after k p e at s i q t h u x
          go false m q t h u x = absurd (omega arith)

  -- rounds ascend from row k on
  ascend : (m k : ℕ) (p : Slot) (e : Edge) → k + m ≡ row_count l.parties → AtRow k p → Passed l k p e
      → T (edge_over l (drop k (slots l.parties)) e).ok → (q r : Slot) → IsSlot l.parties q → IsSlot l.parties r → k < row_number r
      → q.round < r.round → (u v : ℕ) → In (l.row q) u → In (l.row r) v → u < v
  unfolding after
  ascend zero k p e c at i t q r sq sr h lt u v x y = let b = (slot_row l.parties r sr).1 in absurd (omega arith)
  ascend (suc m) k p e c at i t q r sq sr h lt u v x y =
      ⊎_elim
      (λ f.
      let same = one_row l.parties r p sr s (sym f ∙ sym at.number) in
      let a = limit_after k p e at s i q sq (subst (λ (z : Slot). q.round < z.round) same lt) u x in
      let ok = ok_before l (drop (k + 1) (slots l.parties)) (after p e) rest in
      let b = leb→le (after p e).limit (l.row p).start (and_right e.ok _ ok) in
      let d = (subst (λ (z : Slot). In (l.row z) v) same y).0 in
      omega arith)
      (λ g.
      ascend m (k + 1) (next_slot p) (after p e) (omega arith) (at_next k p at) (passed_after k p e at s i) rest q r sq sr g lt u v x y)
      (eq-or-lt_of_le here)
    where
      here : k + 1 ≤ row_number r
      here = omega arith

      s : IsSlot l.parties p
      s = at_slot l.parties k p at (omega arith)

      rest : T (edge_over l (drop (k + 1) (slots l.parties)) (after p e)).ok
      rest = subst (λ (ps : List Slot). T (edge_over l ps e).ok) (slots_step l.parties k p one at (omega arith)) t

pub ascending_order : (l : Layout) → 1 ≤ l.parties → ((q : Slot) → IsSlot l.parties q → (l.row q).mask < 2 ^ 64) → T (ascending l)
    → (p q : Slot) → IsSlot l.parties p → IsSlot l.parties q → p.round < q.round → (u v : ℕ) → In (l.row p) u → In (l.row q) v → u < v
ascending_order l one fits t p q s r =
    let number = (slot_row l.parties q r).0.number in
    ascend l one fits (row_count l.parties) 0 (slot 2 1) (edge true 0 0) (omega arith) at_first start t p q s r (omega arith)
  where
    start : Passed l 0 (slot 2 1) (edge true 0 0)
    start = record { past = λ q s h. absurd (omega (arith, (slot_row l.parties q s).0.number)); under = λ h. absurd (omega arith) }
