-- Rows lie one after the other: round r has r rows, so the number of a row is a sum over the rounds before it, and each number has one row.
use Prim.Native.Nat.{ℕ, zero, suc, ◌+◌, ◌-◌, ◌*◌, ◌/◌, ◌≤◌, ◌<◌}
use mathlib.Core.Path.{◌≡◌, refl, sym, ap, ◌∙◌, subst}
use mathlib.Core.Logic.{◌⊎◌, inl, inr}
use mathlib.Core.List.{List, [], ◌∷◌, ◌++◌, map}
use mathlib.Core.Bool.{Bool, true, false, cond}
use native.Mathlib.Nat.{suc-mul, mul-suc, mul_comm, add-suc, eq-or-lt_of_le, le_refl, add-zero}
use native.Mathlib.Numerals.{add-one}
use native.Mathlib.Omega.{arith}
use borrow.Author.Tests.{ltb-true, ltb-false, le-leb}
use lib.Dec.{T, ltb}
use lib.ListN.{length, get_or, drop, length-append, get_or-append}
use lib.Seq.{get_or-append-add, drop-cons, drop-length}
use Rattle.sheet.specs.Lists.{from, all, flat}
use Rattle.sheet.specs.Rows.{slot, slots, next_slot, slot_after, row_count, row_number}
use Rattle.sheet.specs.Words.{IsSlot}
use Rattle.sheet.specs.declared.rows.Slot.{Slot}
use Rattle.sheet.proofs.Ranges.{length_range, range_at}
use Rattle.sheet.proofs.Folds.{lt_or_le, all_from, from_all, all_map, all_flat}

-- ---- the rows of the rounds before round r, and one more

pub tri : ℕ → ℕ
tri r = r * (r - 1) / 2

tri_suc : (r : ℕ) → tri (suc r) ≡ tri r + r
unfolding tri
tri_suc zero = refl
tri_suc (suc m) =
    let a : suc (suc m) - 1 ≡ suc m = omega arith in
    let b : suc m - 1 ≡ m = omega arith in
    let c = suc-mul (suc m) (suc m) in
    let d = mul-suc (suc m) m in
    ap (λ (x : ℕ). suc (suc m) * x / 2) a
    ∙ (let e : suc (suc m) * suc m / 2 ≡ suc m * m / 2 + suc m = omega arith in e)
    ∙ ap (λ (x : ℕ). suc m * x / 2 + suc m) (sym b)

tri_grows : (r k : ℕ) → tri r ≤ tri (r + k)
tri_grows r zero = rw add-zero (le_refl (tri r))
tri_grows r (suc k) = let h = tri_grows r k in let e = tri_suc (r + k) in rw add-suc (omega arith)

pub tri_mono : (r s : ℕ) → r ≤ s → tri r ≤ tri s
tri_mono r s h = let e : r + (s - r) ≡ s = omega arith in subst (λ (x : ℕ). tri r ≤ tri x) e (tri_grows r (s - r))

tri_two : tri 2 ≡ 1
unfolding tri
tri_two = refl

tri_last : tri 17 ≡ 136
unfolding tri
tri_last = refl

tri_pos : (r : ℕ) → 2 ≤ r → 1 ≤ tri r
tri_pos r h = let e = tri_mono 2 r h in let f = tri_two in omega arith

pub count_tri : (n : ℕ) → row_count n ≡ tri (suc n) - 1
unfolding tri
count_tri n =
    let a : suc n - 1 ≡ n = omega arith in
    ap (λ (x : ℕ). n * x / 2 - 1) (add-one n) ∙ ap (λ (x : ℕ). x / 2 - 1) (mul_comm n (suc n)) ∙ ap (λ (x : ℕ). suc n * x / 2 - 1) (sym a)

pub count_most : (n : ℕ) → n ≤ 16 → row_count n ≤ 135
count_most n h = let e = count_tri n in let m = tri_mono (suc n) 17 (omega arith) in let last = tri_last in omega arith

pub number_tri : (p : Slot) → row_number p ≡ tri p.round - 1 + p.party
unfolding tri
number_tri p = refl

-- up to the last round there is a next row's slot
pub after_next : (p : Slot) → p.round ≤ 16 → slot_after p ≡ next_slot p
after_next p h = simp (le-leb p.round 16 h)

-- ---- a row's place in the list of all rows

rounds : ℕ → ℕ → List Slot
rounds a m = flat (map (λ r. map (slot r) (from 1 r)) (from a m))

length_rounds : (a m : ℕ) → length (rounds a m) + tri a ≡ tri (a + m)
unfolding rounds
length_rounds a zero = (let e : 0 + tri a ≡ tri a = omega arith in e) ∙ ap tri (sym (add-zero a))
length_rounds a (suc m) =
    let ih = length_rounds (suc a) m in
    let here = length_range (slot a) 1 a in
    let both = length-append (map (slot a) (from 1 a)) (rounds (suc a) m) in
    let step = tri_suc a in
    let e : suc a + m ≡ a + suc m = omega arith in
    let f = ap tri e in
    omega arith

at_rounds : (a m r i : ℕ) (d : Slot) → a ≤ r → r < a + m → i < r → get_or (rounds a m) (tri r - tri a + i) d ≡ slot r (1 + i)
unfolding rounds
at_rounds a zero r i d h l g = absurd (omega arith)
at_rounds a (suc m) r i d h l g = go (λ lt. at_rounds (suc a) m r i d lt (omega arith) g) (eq-or-lt_of_le h)
  where
    here : List Slot
    here = map (slot a) (from 1 a)

    go : (a < r → get_or (rounds (suc a) m) (tri r - tri (suc a) + i) d ≡ slot r (1 + i)) → ((a ≡ r) ⊎ (a < r)) → get_or (here ++ rounds (suc a) m) (tri r - tri a + i) d ≡ slot r (1 + i)
    go ih (inl e) =
        let size = length_range (slot a) 1 a in
        let t = ap tri e in
        let place : tri r - tri a + i ≡ i = omega arith in
        ap (λ (k : ℕ). get_or (here ++ rounds (suc a) m) k d) place
        ∙ get_or-append here (rounds (suc a) m) d i (omega arith)
        ∙ range_at (slot a) 1 a i d (omega arith)
        ∙ ap (λ (x : ℕ). slot x (1 + i)) e
    go ih (inr lt) =
        let size = length_range (slot a) 1 a in
        let t = tri_mono (suc a) r lt in
        let s = tri_suc a in
        let place : tri r - tri a + i ≡ length here + (tri r - tri (suc a) + i) = omega arith in
        ap (λ (k : ℕ). get_or (here ++ rounds (suc a) m) k d) place
        ∙ get_or-append-add here (rounds (suc a) m) (tri r - tri (suc a) + i) d
        ∙ ih lt

pub length_slots : (n : ℕ) → 1 ≤ n → length (slots n) ≡ row_count n
unfolding rounds
length_slots n h =
    let all = length_rounds 2 (n - 1) in
    let two = tri_two in
    let e : 2 + (n - 1) ≡ suc n = omega arith in
    let f = ap tri e in
    let g = count_tri n in
    omega arith

in_rounds : (n r : ℕ) → 2 ≤ r → r ≤ n → r < 2 + (n - 1)
in_rounds n r h l = omega arith

pub slots_at : (n : ℕ) (p d : Slot) → IsSlot n p → get_or (slots n) (row_number p - 1) d ≡ p
unfolding rounds
slots_at n p d h =
    let lowest = h.lowest in
    let place : row_number p - 1 ≡ tri p.round - tri 2 + (p.party - 1) =
    (let two = tri_two in let low = tri_pos p.round h.first in let num = number_tri p in omega arith) in
    let back : 1 + (p.party - 1) ≡ p.party = omega arith in
    ap (λ (k : ℕ). get_or (slots n) k d) place
    ∙ at_rounds 2 (n - 1) p.round (p.party - 1) d h.first (in_rounds n p.round h.first h.last) (below p.party p.round lowest h.top)
    ∙ ap (slot p.round) back
  where
    below : (i r : ℕ) → 1 ≤ i → i ≤ r → i - 1 < r
    below i r h l = omega arith

-- ---- from row to row, as a loop goes

-- p is the row counted k from 0, of some sheet that is large enough
pub record AtRow (k : ℕ) (p : Slot) : Type 0 where
  pub number : row_number p ≡ k + 1
  pub first : 2 ≤ p.round
  pub lowest : 1 ≤ p.party
  pub top : p.party ≤ p.round

pub at_first : AtRow 0 (slot 2 1)
at_first = record { number = refl; first = omega arith; lowest = omega arith; top = omega arith }

pub at_next : (k : ℕ) (p : Slot) → AtRow k p → AtRow (k + 1) (next_slot p)
at_next k p h = go (ltb p.party p.round) refl
  where
    go : (b : Bool) → ltb p.party p.round ≡ b → AtRow (k + 1) (cond b (slot p.round (p.party + 1)) (slot (p.round + 1) 1))
    go true e =
        let l = ltb-true p.party p.round e in
        let x = number_tri p in
        let y = number_tri (slot p.round (p.party + 1)) in
        let n = h.number in
        record { number = omega arith; first = h.first; lowest = omega arith; top = omega arith }
    go false e =
        let l = ltb-false p.party p.round e in
        let t = h.top in
        let f = h.first in
        let x = number_tri p in
        let y = number_tri (slot (p.round + 1) 1) in
        let z = tri_suc p.round in
        let a = ap tri (add-one p.round) in
        let b = tri_pos p.round f in
        let n = h.number in
        record { number = omega arith; first = omega arith; lowest = omega arith; top = omega arith }

pub at_slot : (n k : ℕ) (p : Slot) → AtRow k p → k < row_count n → IsSlot n p
at_slot n k p h l = record { first = h.first; last = go (lt_or_le n p.round); lowest = h.lowest; top = h.top }
  where
    go : (n < p.round) ⊎ (p.round ≤ n) → p.round ≤ n
    go (inr le) = le
    go (inl lt) =
        let a = tri_mono (suc n) p.round lt in
        let b = count_tri n in
        let c = number_tri p in
        let d = tri_pos p.round h.first in
        let e = h.number in
        let f = h.lowest in
        absurd (omega arith)

pub slots_step : (n k : ℕ) (p : Slot) → 1 ≤ n → AtRow k p → k < row_count n → drop k (slots n) ≡ p ∷ drop (k + 1) (slots n)
slots_step n k p one h l =
    let size = length_slots n one in
    let e : row_number p - 1 ≡ k = (let f = h.number in omega arith) in
    drop-cons (slots n) k p (omega arith)
    ∙ ap (λ (x : Slot). x ∷ drop (suc k) (slots n)) (ap (λ (j : ℕ). get_or (slots n) j p) (sym e) ∙ slots_at n p p (at_slot n k p h l))
    ∙ ap (λ (j : ℕ). p ∷ drop j (slots n)) (sym (add-one k))

pub slots_end : (n k : ℕ) → 1 ≤ n → k ≡ row_count n → drop k (slots n) ≡ []
slots_end n k one e = ap (λ (j : ℕ). drop j (slots n)) (e ∙ sym (length_slots n one)) ∙ drop-length (slots n)

-- every number up to the last has its row
pub row_at : (k : ℕ) → (p : Slot) × AtRow k p
row_at zero = (slot 2 1, at_first)
row_at (suc k) = let r = row_at k in (next_slot r.0, subst (λ (j : ℕ). AtRow j (next_slot r.0)) (add-one k) (at_next k r.0 r.1))

pub slot_row : (n : ℕ) (p : Slot) → IsSlot n p → (AtRow (row_number p - 1) p) × (row_number p - 1 < row_count n)
slot_row n p h =
    let a = number_tri p in
    let b = tri_pos p.round h.first in
    let c = count_tri n in
    let d = tri_mono (suc p.round) (suc n) (let l = h.last in omega arith) in
    let e = tri_suc p.round in
    let f = h.lowest in
    let g = h.top in
    (record { number = omega arith; first = h.first; lowest = h.lowest; top = h.top }, omega arith)

-- ---- a round's rows, of which the first is row `base`, counted from 0

pub round_number : (p : Slot) (base j : ℕ) → base ≡ row_number p - p.party → row_number (slot p.round j) ≡ base + j
round_number p base j e =
    let a = number_tri p in
    let b = number_tri (slot p.round j) in
    omega arith

pub round_inside : (n : ℕ) (p : Slot) → IsSlot n p → row_number p - p.party + p.round ≤ row_count n
round_inside n p h =
    let a = number_tri p in
    let b = tri_pos p.round h.first in
    let c = count_tri n in
    let d = tri_mono (suc p.round) (suc n) (let l = h.last in omega arith) in
    let e = tri_suc p.round in
    omega arith

-- ---- every row

pub all_slots : (f : Slot → Bool) (n : ℕ) → T (all f (slots n)) → (p : Slot) → IsSlot n p → T (f p)
all_slots f n t p h =
    let first = h.first in
    let last = h.last in
    let lowest = h.lowest in
    let top = h.top in
    let rows : T (all f (map (slot p.round) (from 1 p.round))) =
    all_from (λ r. all f (map (slot r) (from 1 r))) 2 (n - 1) (subst T (all_flat f (map (λ r. map (slot r) (from 1 r)) (from 2 (n - 1))) ∙ all_map (all f) (λ r. map (slot r) (from 1 r)) (from 2 (n - 1))) t) p.round first (omega arith) in
    all_from (λ i. f (slot p.round i)) 1 p.round (subst T (all_map f (slot p.round) (from 1 p.round)) rows) p.party lowest (omega arith)

pub slots_all : (f : Slot → Bool) (n : ℕ) → ((p : Slot) → IsSlot n p → T (f p)) → T (all f (slots n))
slots_all f n g =
    subst T (sym (all_flat f (map (λ r. map (slot r) (from 1 r)) (from 2 (n - 1))) ∙ all_map (all f) (λ r. map (slot r) (from 1 r)) (from 2 (n - 1))))
    (from_all (λ r. all f (map (slot r) (from 1 r))) 2 (n - 1) (λ r a b.
    subst T (sym (all_map f (slot r) (from 1 r)))
    (from_all (λ i. f (slot r i)) 1 r (λ i c d. g (slot r i) (record { first = a; last = omega arith; lowest = c; top = omega arith })))))
