-- A rule's tests and its words go part by part: each test is a field, and a test over all rows asks every other row.
use Prim.Native.Nat.{ℕ, ◌^◌, ◌≤◌, ◌<◌}
use mathlib.Core.Path.{◌≡◌, refl, sym, ◌∙◌, subst, ap₂}
use mathlib.Core.Logic.{◌↔◌, inl, inr, ⊎_elim}
use mathlib.Core.List.{List}
use native.Mathlib.Nat.{le_refl}
use native.Mathlib.Omega.{arith}
use lib.Dec.{T}
use lib.ListN.{length}
use Rattle.sheet.specs.Bytes.{num}
use Rattle.sheet.specs.Sets.{legal, below, apart}
use Rattle.sheet.specs.Rows.{Layout, slot, same_slot, sheet_length, parties_of, writes}
use Rattle.rules.specs.Rules.{row_rule, own_alone, set_apart, pair_shared, writer_rule}
use Rattle.sheet.specs.Lists.{within}
use Rattle.rules.specs.Check.{header_ok, length_ok}
use Rattle.sheet.specs.Words.{In, IsSlot, Other, Lower, Top}
use Rattle.rules.specs.Words.{RowRule, WriterRule, HeaderRule, LengthRule, Every}
use Rattle.sheet.specs.declared.rows.Row.{Row}
use Rattle.sheet.specs.declared.rows.Slot.{Slot}
use Rattle.sheet.proofs.Folds.{lt_or_le}
use Rattle.sheet.proofs.WriteSets.{in_set_lem, legal_says, legal_64, below_says, apart_says}
use Rattle.sheet.proofs.TestWords.{Tells, tells, eq_words, le_words, and_words, or_words, cond_words, not_words, all_words}

pub in_words : (w : Row) (u : ℕ) → Tells (writes w u) (In w u)
in_words w u = tells (writes w u) (in_set_lem w u)

pub apart_words : (v w : Row) → v.mask < 2 ^ 64
    → Tells (apart v.start v.mask w.start w.mask) ((u : ℕ) → In v u → In w u → ⊥)
apart_words v w m = tells (apart v.start v.mask w.start w.mask) (apart_says v w m)

-- ---- the header and the lengths

within_words : (lo hi x : ℕ) → Tells (within lo hi x) ((lo ≤ x) × (x ≤ hi))
within_words lo hi x = and_words (le_words lo x) (λ _. le_words x hi)

pub header_says : (l : Layout) → T (header_ok l) ↔ HeaderRule l
header_says l =
    let parts =
    and_words
    (and_words (and_words (within_words 1 2 l.kind) (λ _. within_words 1 64 l.bound)) (λ _. within_words 1 16 l.parties))
    (λ _. within_words 1 1024 l.units) in (
      λ t.
          let ((((a, b), (c, d)), (e, f)), (g, h)) = parts.says.0 t in
          record {
            kind = ⊎_elim (λ o. inl (omega arith)) (λ o. inr (omega arith)) (lt_or_le l.kind 2);
            bound_least = c;
            bound_most = d;
            parties_least = e;
            parties_most = f;
            units_least = g;
            units_most = h;
          },
      λ r.
          let one : 1 ≤ l.kind = ⊎_elim (λ e. omega arith) (λ e. omega arith) r.kind in
          let two : l.kind ≤ 2 = ⊎_elim (λ e. omega arith) (λ e. omega arith) r.kind in
          parts.says.1
          ((((one, two), (r.bound_least, r.bound_most)), (r.parties_least, r.parties_most)), (r.units_least, r.units_most)),
    )

pub length_says : (s : List ℕ) → T (length_ok s) ↔ LengthRule s
length_says s =
    let whole = sheet_length (parties_of s) in
    let parts = and_words (eq_words (num s 0 2) whole) (λ _. eq_words (length s) whole) in
    (λ t. let (a, b) = parts.says.0 t in record { field = a; lent = b }, λ r. parts.says.1 (r.field, r.lent))

-- ---- the row rule

module _ (l : Layout) (h : HeaderRule l) where
  -- a legal mask fits 64 bits
  pub mask_64 : (p : Slot) → RowRule l p → (l.row p).mask < 2 ^ 64
  mask_64 p r = legal_64 l.kind l.bound (l.row p) h.kind h.bound_most r.legal

  pub row_says : (p : Slot) → IsSlot l.parties p → T (row_rule l p) ↔ RowRule l p
  row_says p s =
      let w = l.row p in
      let lower = s.top in
      let parts =
      and_words
      (and_words
      (and_words (tells (legal l.kind l.bound w.start w.mask) (legal_says l.kind l.bound w h.kind))
      (λ x. tells (below l.units w.start w.mask) (below_says l.units w (legal_64 l.kind l.bound w h.kind h.bound_most x))))
      (λ _. in_words w w.own))
      (λ _. cond_words (eq_words p.party p.round) (eq_words w.pair 0) (in_words w w.pair)) in (
        λ t.
            let r = parts.says.0 t in
            record {
              legal = r.0.0.0;
              below = r.0.0.1;
              own = r.0.1;
              pair_of_lower = λ d. r.1.1 (λ e. omega arith);
              pair_of_top = r.1.0;
            },
        λ r. parts.says.1 (((r.legal, r.below), r.own), (r.pair_of_top, λ n. r.pair_of_lower (omega arith))),
      )

-- ---- the writer rule

same_words : (p q : Slot) → Tells (same_slot p q) ((p.round ≡ q.round) × (p.party ≡ q.party))
same_words p q = and_words (eq_words p.round q.round) (λ _. eq_words p.party q.party)

-- no unit of the row is in a row of another round
abbrev pub Clear : Layout → Slot → Type 0
Clear l p = (q : Slot) → IsSlot l.parties q → (p.round ≡ q.round → ⊥) → (u : ℕ) → In (l.row p) u → In (l.row q) u → ⊥

module _ (l : Layout) (p : Slot) where
  own_words : Tells (own_alone l p) ((q : Slot) → IsSlot l.parties q → Other p q → In (l.row q) (l.row p).own → ⊥)
  own_words = all_words l.parties (λ q _. or_words (same_words p q) (not_words (in_words (l.row q) (l.row p).own)))

  pub set_words : (l.row p).mask < 2 ^ 64 → Tells (set_apart l p) (Clear l p)
  set_words m = all_words l.parties (λ q _. or_words (eq_words p.round q.round) (apart_words (l.row p) (l.row q) m))

  pair_words : Tells (pair_shared l p) ((q : Slot) → IsSlot l.parties q → Other p q
      → ((p.round ≡ q.round) × Top q → In (l.row q) (l.row p).pair) × (((p.round ≡ q.round) × Top q → ⊥) → In (l.row q) (l.row p).pair → ⊥))
  pair_words =
      all_words l.parties (λ q _.
      let there = in_words (l.row q) (l.row p).pair in
      or_words (same_words p q)
      (cond_words (and_words (eq_words p.round q.round) (λ _. eq_words q.party q.round)) there (not_words there)))

  writer_here : IsSlot l.parties p → (l.row p).mask < 2 ^ 64 → T (writer_rule l p) ↔ WriterRule l p
  writer_here s m =
      let top = slot p.round p.round in
      let lower = s.top in
      let parts = and_words (and_words own_words (λ _. set_words m)) (λ _. or_words (eq_words p.party p.round) pair_words) in (
        λ t.
            let r = parts.says.0 t in
            let first = s.first in
            let is_top : IsSlot l.parties top = record { first = first; last = s.last; lowest = omega arith; top = le_refl p.round } in
            record {
              own_alone = r.0.0;
              set_apart = r.0.1;
              pair_at_top = λ d. (r.1 (λ e. omega arith) top is_top (λ e. omega arith)).0 (refl, refl);
              pair_alone = λ d q o b. (r.1 (λ e. omega arith) q o b).1;
            },
        λ r.
            parts.says.1 (
              (r.own_alone, r.set_apart),
              λ n q o b.
                  let low : Lower p = omega arith in
                  let here : (p.round ≡ q.round) × Top q → In (l.row q) (l.row p).pair =
                  λ (e, f). subst (λ (x : Slot). In (l.row x) (l.row p).pair) (ap₂ slot e (e ∙ sym f)) (r.pair_at_top low) in
                  (here, r.pair_alone low q o b),
            ),
      )

pub writer_says : (l : Layout) → HeaderRule l → Every RowRule l → (p : Slot) → IsSlot l.parties p → T (writer_rule l p) ↔ WriterRule l p
writer_says l h rows p s = writer_here l p s (mask_64 l h p (rows p s))
