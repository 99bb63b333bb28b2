-- The rows that are read of a sheet with right lengths are its slots, each with its row, so what is asked of them one after the other is asked of the slots: inductions over the rows
-- that are left, where the next one is at place k.
use Prim.Native.Nat.{ℕ, zero, suc, ◌+◌, ◌-◌, ◌≤◌, ◌<◌, min}
use mathlib.Core.Path.{◌≡◌, refl, sym, ap, ap₂, subst, ◌∙◌}
use mathlib.Core.List.{List, [], ◌∷◌, map}
use mathlib.Core.Bool.{Bool, true, false, ◌&&◌, ◌||◌, cond, not}
use native.Mathlib.Numerals.{add-one}
use native.Mathlib.Omega.{arith}
use borrow.Author.Tests.{lt-ltb, le-leb}
use lib.Dec.{eqb}
use lib.ListN.{length, drop}
use Rattle.std.specs.Prelude.{Some}
use Rattle.std.specs.Option.{option_map}
use Rattle.sheet.specs.Sets.{apart}
use Rattle.std.specs.List.{fold, list_all, position_from}
use Rattle.std.proofs.lemmas.Iterator.Adapters.{position_from-zero}
use Rattle.sheet.specs.Lists.{from, all, first_bad}
use Rattle.sheet.specs.Rows.{slot, slots, slot_after, next_slot, row_count, row_at, row_number, row_place, layout_of, parties_of}
use Rattle.sheet.specs.Reader.{whole_rows, rows_on}
use Rattle.sheet.specs.Left.{rows_left}
use Rattle.sheet.specs.Words.{IsSlot}
use Rattle.sheet.specs.declared.rows.Row.{Row}
use Rattle.sheet.specs.declared.rows.Rows.{Rows}
use Rattle.sheet.specs.declared.rows.Slot.{Slot}
use Rattle.rules.specs.Words.{Rules4}
use Rattle.rules.specs.Quick.{beside, alone_in_round, clear_of_rounds, quick_rule, edge_after, edge_over, beside_rows, clear_of_rows, quick_row, round_left, first_not, number_or_none}
use Rattle.rules.specs.declared.writers.Edge.{Edge}
use Rattle.sheet.proofs.Slots.{AtRow, after_next, at_first, at_next, at_slot, slots_step, slots_end, round_inside, number_tri}

-- ---- what is asked of pairs is asked of what they are made of

module _ {A B : Type 0} (f : B → Bool) (g : A → B) where
  pub all_made : (xs : List A) → list_all f (map g xs) ≡ all (λ x. f (g x)) xs
  all_made [] = refl
  all_made (x ∷ xs) = ap (λ (t : Bool). f (g x) && t) (all_made xs)

  counted : (k : ℕ) (xs : List A) → option_map (λ j. j + 1) (position_from (λ y. not (f y)) k (map g xs)) ≡ number_or_none (first_bad (λ x. f (g x)) (suc k) xs)
  counted k [] = refl
  counted k (x ∷ xs) = go (f (g x)) (counted (k + 1) xs)
    where
      go : (b : Bool) → option_map (λ j. j + 1) (position_from (λ y. not (f y)) (k + 1) (map g xs)) ≡ number_or_none (first_bad (λ y. f (g y)) (suc (k + 1)) xs)
          → option_map (λ j. j + 1) (cond (not b) (Some k) (position_from (λ y. not (f y)) (k + 1) (map g xs)))
          ≡ number_or_none (cond b (first_bad (λ y. f (g y)) (suc (suc k)) xs) (suc k))
      go true ih = ih ∙ ap (λ (j : ℕ). number_or_none (first_bad (λ y. f (g y)) (suc j) xs)) (add-one k)
      go false ih = ap Some (add-one k)

  -- the first that fails
  pub first_made : (xs : List A) → first_not f (map g xs) ≡ number_or_none (first_bad (λ x. f (g x)) 1 xs)
  first_made xs = ap (option_map (λ j. j + 1)) (position_from-zero (λ y. not (f y)) (map g xs)) ∙ counted 0 xs

-- ---- the rows of a sheet

abbrev pub with_row : List ℕ → Slot → Slot × Row
with_row s p = (p, (layout_of s).row p)

pub edges_made : (s : List ℕ) (ps : List Slot) (e : Edge) → fold (λ e x. edge_after e (eqb x.0.party 1) x.1) e (map (with_row s) ps) ≡ edge_over (layout_of s) ps e
edges_made s [] e = refl
edges_made s (p ∷ ps) e = edges_made s ps (edge_after e (eqb p.party 1) ((layout_of s).row p))

module _ (s : List ℕ) (r : Rules4 s) where
  one : 1 ≤ parties_of s
  one = r.before.header.parties_least

  -- the sheet has all its rows whole
  all_whole : whole_rows (length s) ≡ row_count (parties_of s)
  all_whole = let lent = r.lengths.lent in omega arith

  -- a row more is read
  read : (k m : ℕ) (p : Slot) → AtRow k p → rows_on s k p (suc m) ≡ with_row s p ∷ rows_on s (suc k) (slot_after p) m
  read k m p at =
      let place : k ≡ row_number p - 1 = (let n = at.number in omega arith) in
      ap (λ (j : ℕ). (p, row_at s j) ∷ rows_on s (suc k) (slot_after p) m) place

  rows_from_here : (k m : ℕ) (p : Slot) → AtRow k p → k + m ≡ row_count (parties_of s) → rows_on s k p m ≡ map (with_row s) (drop k (slots (parties_of s)))
  rows_from_here k zero p at e = sym (ap (map (with_row s)) (slots_end (parties_of s) k one (omega arith)))
  rows_from_here k (suc m) p at e =
      let l : k < row_count (parties_of s) = omega arith in
      let is = at_slot (parties_of s) k p at l in
      let last : p.round ≤ 16 = (let a = is.last in let b = r.before.header.parties_most in omega arith) in
      read k m p at
      ∙ ap (λ (q : Slot). with_row s p ∷ rows_on s (suc k) q m) (after_next p last)
      ∙ ap (λ (j : ℕ). with_row s p ∷ rows_on s j (next_slot p) m) (sym (add-one k))
      ∙ ap (λ (xs : List (Slot × Row)). with_row s p ∷ xs) (rows_from_here (k + 1) m (next_slot p) (at_next k p at) (omega arith))
      ∙ ap (map (with_row s)) (sym (slots_step (parties_of s) k p one at l))

  pub sheet_rows : rows_on s 0 (slot 2 1) (min (row_count (parties_of s)) (whole_rows (length s))) ≡ map (with_row s) (slots (parties_of s))
  sheet_rows =
      let n = row_count (parties_of s) in
      let all : min n (whole_rows (length s)) ≡ n = (let e = all_whole in omega arith) in
      ap (rows_on s 0 (slot 2 1)) all ∙ rows_from_here 0 n (slot 2 1) at_first (omega arith)

  module _ (p : Slot) (is : IsSlot (parties_of s) p) where
    few : p.round ≤ 16
    few = let a = is.last in let b = r.before.header.parties_most in omega arith

    at_here : (j k : ℕ) → 1 ≤ j → j ≤ p.round → k + 1 ≡ row_number (slot p.round j) → AtRow k (slot p.round j)
    at_here j k low top n = record { number = sym n; first = is.first; lowest = low; top = top }

    -- a round's row more, and the place and the slot go on where the round has a next one
    in_round : (m j k : ℕ) → 1 ≤ j → j + m ≡ p.round + 1 → k + 1 ≡ row_number (slot p.round j) → rows_on s k (slot p.round j) m ≡ map (λ i. with_row s (slot p.round i)) (from j m)
    in_round zero j k low e n = refl
    in_round (suc zero) j k low e n = read k 0 (slot p.round j) (at_here j k low (omega arith) n)
    in_round (suc (suc m)) j k low e n =
        let h : j < p.round = omega arith in
        let at = at_here j k low (omega arith) n in
        let on : slot_after (slot p.round j) ≡ slot p.round (j + 1) = after_next (slot p.round j) few ∙ rw (lt-ltb j p.round h) refl in
        let next : AtRow (k + 1) (slot p.round (j + 1)) = subst (AtRow (k + 1)) (sym (after_next (slot p.round j) few) ∙ on) (at_next k (slot p.round j) at) in
        read k (suc m) (slot p.round j) at
        ∙ ap (λ (q : Slot). with_row s (slot p.round j) ∷ rows_on s (suc k) q (suc m)) on
        ∙ ap (λ (a : ℕ). with_row s (slot p.round j) ∷ rows_on s a (slot p.round (j + 1)) (suc m)) (sym (add-one k))
        ∙ ap (λ (xs : List (Slot × Row)). with_row s (slot p.round j) ∷ xs) (in_round (suc m) (j + 1) (k + 1) (omega arith) (omega arith) (sym next.number))
        ∙ ap (λ (a : ℕ). with_row s (slot p.round j) ∷ map (λ i. with_row s (slot p.round i)) (from a (suc m))) (add-one j)

    pub round_rows : round_left s p.round ≡ map (λ i. with_row s (slot p.round i)) (from 1 p.round)
    round_rows =
        let first = row_number (slot p.round 1) - 1 in
        let a = is.first in
        let place : row_place p.round 1 ≡ first = rw (le-leb 2 p.round a, le-leb p.round 16 few, le-leb 1 p.round (omega arith)) refl in
        let all : min p.round (whole_rows (length s) - first) ≡ p.round =
        (let e = all_whole in let b = round_inside (parties_of s) p is in let c = number_tri p in let d = number_tri (slot p.round 1) in omega arith) in
        ap (λ (k : ℕ). rows_on s k (slot p.round 1) (min p.round (whole_rows (length s) - k))) place
        ∙ ap (rows_on s first (slot p.round 1)) all
        ∙ in_round p.round 1 first (omega arith) (omega arith) (omega arith)

    pub quick_made : (rows : Rows) (a : Bool) → rows.reader.sheet.now ≡ s → rows_left rows ≡ map (with_row s) (slots (parties_of s))
        → quick_row rows a p ((layout_of s).row p) ≡ quick_rule (layout_of s) a p
    quick_made rows a e left =
        let w = (layout_of s).row p in
        let round : beside_rows (round_left rows.reader.sheet.now p.round) p w ≡ alone_in_round (layout_of s) p =
        ap (λ (xs : List (Slot × Row)). beside_rows xs p w) (ap (λ (b : List ℕ). round_left b p.round) e ∙ round_rows)
        ∙ all_made (λ (x : Slot × Row). beside p.round p.party w x.0.party x.1) (λ i. with_row s (slot p.round i)) (from 1 p.round) in
        let others : clear_of_rows (rows_left rows) p.round w ≡ clear_of_rounds (layout_of s) p.round w =
        ap (λ (xs : List (Slot × Row)). clear_of_rows xs p.round w) left
        ∙ all_made (λ (x : Slot × Row). eqb p.round x.0.round || apart w.start w.mask x.1.start x.1.mask) (with_row s) (slots (parties_of s)) in
        ap₂ (λ (b c : Bool). b && (a || c)) round others
