-- Kind 2: the units of round r are different numbers of the word at (r − 2) × A, since 2r − 1 ≤ A, and no two rounds share a word.
use Prim.Native.Nat.{ℕ, ◌+◌, ◌-◌, ◌*◌, ◌/◌, ◌%◌, ◌≤◌, ◌<◌}
use mathlib.Core.Path.{◌≡◌, refl, sym, ap, ◌∙◌, subst, subst₂}
use mathlib.Core.Logic.{◌⊎◌, inl, inr, ⊎_elim}
use mathlib.Core.List.{List, [], ◌∷◌, map}
use mathlib.Core.Bool.{Bool, true, false, cond}
use native.Mathlib.Nat.{mul-mod_left, eq-or-lt_of_le, le_refl, le_trans, le_of_eq, mul-le-mul}
use native.Mathlib.Decide.{ℕ_discrete}
use native.Mathlib.Omega.{arith}
use borrow.Author.Tests.{ne_eqb, eqb-true, eqb-false}
use lib.Arith.{digits_div, digits_lt, lt_of_le-ne}
use Rattle.sheet.specs.Lists.{from}
use Rattle.sheet.specs.Rows.{slot, is_top}
use Rattle.sheet.specs.Words.{In, Inconsecutive, IsSlot, Other, Lower, Top}
use Rattle.rules.specs.Words.{RowRule, WriterRule}
use Rattle.sheet.specs.declared.rows.Row.{Row}
use Rattle.sheet.specs.declared.rows.Slot.{Slot}
use Rattle.builder.specs.Build.{writing, word_of, own_unit, pair_unit, row2, built_units, built}
use Rattle.sheet.proofs.Bits.{bit_under}
use Rattle.sheet.proofs.WriteSets.{bit_at}
use Rattle.builder.proofs.Masks.{in_two, two_in, in_run, run_in, top_run}

-- ---- a row

-- u is a unit that party i writes in round r, whose word is at w
data Writes (w r i u : ℕ) : Type 0 where
  its_own : u ≡ w + i - 1 → Writes w r i u
  its_pair : i < r → u ≡ w + r + i - 1 → Writes w r i u
  top_pair : i ≡ r → w + r ≤ u → u < w + r + r - 1 → Writes w r i u

-- what the row says
record Says (w r i : ℕ) (row : Row) : Type 0 where
  start : row.start ≡ w
  own : row.own ≡ w + i - 1
  pair_of_lower : i < r → row.pair ≡ w + r + i - 1
  pair_of_top : i ≡ r → row.pair ≡ 0
  only : (u : ℕ) → In row u → Writes w r i u
  each : (u : ℕ) → Writes w r i u → In row u

lower : (w r i : ℕ) → 1 ≤ i → i < r → Says w r i (writing w (own_unit w i ∷ pair_unit w r i ∷ []) (own_unit w i) (pair_unit w r i))
lower w r i low less =
    record {
      start = refl;
      own = refl;
      pair_of_lower = λ _. refl;
      pair_of_top = λ e. absurd (omega arith);
      only = λ u m. ⊎_elim (λ e. its_own e) (λ e. its_pair less e) (in_two w own pair own pair (omega arith) (omega arith) u m);
      each = λ u m. two_in w own pair own pair (omega arith) (omega arith) u (one_of u m);
    }
  where
    own : ℕ
    own = own_unit w i

    pair : ℕ
    pair = pair_unit w r i

    one_of : (u : ℕ) → Writes w r i u → (u ≡ own) ⊎ (u ≡ pair)
    one_of u (its_own e) = inl e
    one_of u (its_pair l e) = inr e
    one_of u (top_pair e l g) = absurd (omega arith)

top : (w r : ℕ) → 1 ≤ r → Says w r r (writing w (own_unit w r ∷ map (pair_unit w r) (from 1 (r - 1))) (own_unit w r) 0)
top w r low =
    subst (λ (us : List ℕ). Says w r r (writing w us own 0)) (sym (top_run w r low)) (
    record {
      start = refl;
      own = refl;
      pair_of_lower = λ l. absurd (omega arith);
      pair_of_top = λ _. refl;
      only = λ u m. let h = in_run w own r own 0 (omega arith) u m in among u h.1 (eq-or-lt_of_le h.0);
      each = λ u m. let h = inside u m in run_in w own r own 0 (omega arith) u h.0 h.1;
    }
    )
  where
    own : ℕ
    own = own_unit w r

    among : (u : ℕ) → u < own + r → (own ≡ u) ⊎ (own < u) → Writes w r r u
    among u h (inl e) = its_own (sym e)
    among u h (inr l) = top_pair refl (omega arith) (omega arith)

    inside : (u : ℕ) → Writes w r r u → (own ≤ u) × (u < own + r)
    inside u (its_own e) = omega arith
    inside u (its_pair l e) = omega arith
    inside u (top_pair e l g) = omega arith

says : (a n : ℕ) (p : Slot) → IsSlot n p → Says (word_of a p.round) p.round p.party (row2 a p)
says a n p h = go (is_top p) refl
  where
    r : ℕ
    r = p.round

    i : ℕ
    i = p.party

    w : ℕ
    w = word_of a r

    of_top : Row
    of_top = writing w (own_unit w r ∷ map (pair_unit w r) (from 1 (r - 1))) (own_unit w r) 0

    go : (b : Bool) → is_top p ≡ b → Says w r i (cond b of_top (writing w (own_unit w i ∷ pair_unit w r i ∷ []) (own_unit w i) (pair_unit w r i)))
    go true e =
        let low = h.first in
        subst (λ (j : ℕ). Says w r j of_top) (sym (eqb-true i r e)) (top w r (omega arith))
    go false e = lower w r i h.lowest (lt_of_le-ne h.top (eqb-false i r e))

-- ---- its word

in_word : (a w r i u : ℕ) → 1 ≤ i → i ≤ r → 2 * r - 1 ≤ a → Writes w r i u → (w ≤ u) × (u < w + a)
in_word a w r i u low high wide (its_own e) = omega arith
in_word a w r i u low high wide (its_pair l e) = omega arith
in_word a w r i u low high wide (top_pair e l g) = omega arith

-- own unit i is party i's only, and pair unit i is that lower's and the top's
own_once : (w r i j : ℕ) → 1 ≤ i → i ≤ r → 1 ≤ j → Writes w r j (w + i - 1) → i ≡ j
own_once w r i j low high least (its_own e) = omega arith
own_once w r i j low high least (its_pair l e) = absurd (omega arith)
own_once w r i j low high least (top_pair e l g) = absurd (omega arith)

pair_twice : (w r i j : ℕ) → 1 ≤ i → 1 ≤ j → j ≤ r → Writes w r j (w + r + i - 1) → (i ≡ j) ⊎ (j ≡ r)
pair_twice w r i j low least most (its_own e) = absurd (omega arith)
pair_twice w r i j low least most (its_pair l e) = inl (omega arith)
pair_twice w r i j low least most (top_pair e l g) = inr e

-- ---- the rules

module _ (a n : ℕ) (wide : 2 * n - 1 ≤ a) where
  word_only : (p : Slot) → IsSlot n p → (u : ℕ) → In (row2 a p) u → (word_of a p.round ≤ u) × (u < word_of a p.round + a)
  word_only p h u m =
      let last = h.last in
      in_word a (word_of a p.round) p.round p.party u h.lowest h.top (omega arith) ((says a n p h).only u m)

  -- which word a unit is in
  round_of : (p : Slot) → IsSlot n p → (u : ℕ) → In (row2 a p) u → u / a ≡ p.round - 2
  round_of p h u m =
      let w = word_of a p.round in
      let both = word_only p h u m in
      let low = both.0 in
      let high = both.1 in
      let back : w + (u - w) ≡ u = omega arith in
      ap (λ (x : ℕ). x / a) (sym back) ∙ digits_div (p.round - 2) (omega arith)

  own_in : (p : Slot) → IsSlot n p → In (row2 a p) (row2 a p).own
  own_in p h = (says a n p h).each (row2 a p).own (its_own (says a n p h).own)

  pair_in : (p : Slot) → IsSlot n p → Lower p → In (row2 a p) (row2 a p).pair
  pair_in p h l = (says a n p h).each (row2 a p).pair (its_pair l ((says a n p h).pair_of_lower l))

  word_legal : (p : Slot) → IsSlot n p → Inconsecutive a (row2 a p)
  word_legal p h =
      record {
        some = λ e. let z = bit_under (row2 a p).mask 0 ((row2 a p).own - (row2 a p).start) (omega arith) (own_in p h).1 in omega arith;
        no_bit = λ j le t.
            let both = word_only p h ((row2 a p).start + j) (bit_at (row2 a p).start (row2 a p).mask j t) in
            let start = (says a n p h).start in
            omega (arith, both.1);
        multiple = ap (λ (x : ℕ). x % a) (says a n p h).start ∙ mul-mod_left (p.round - 2) a;
      }

  all_below : (p : Slot) → IsSlot n p → (u : ℕ) → In (row2 a p) u → u < built_units 2 a n
  all_below p h u m =
      let w = word_of a p.round in
      let both = word_only p h u m in
      let low = both.0 in
      let high = both.1 in
      let first = h.first in
      let last = h.last in
      let back : w + (u - w) ≡ u = omega arith in
      rw (ne_eqb n 1 (λ e. omega arith)) (subst (λ (x : ℕ). x < (n - 1) * a) back (digits_lt (omega arith) (omega arith)))

  pub rows2 : (p : Slot) → IsSlot n p → RowRule (built 2 a n) p
  rows2 p h =
      record {
        legal = record { one = λ e. absurd (omega arith); two = λ _. word_legal p h };
        below = all_below p h;
        own = own_in p h;
        pair_of_lower = pair_in p h;
        pair_of_top = (says a n p h).pair_of_top;
      }

  rounds_apart : (p q : Slot) → IsSlot n p → IsSlot n q → (p.round ≡ q.round → ⊥) → (u : ℕ) → In (row2 a p) u → In (row2 a q) u → ⊥
  rounds_apart p q h k ne u m l =
      let e : p.round - 2 ≡ q.round - 2 = sym (round_of p h u m) ∙ round_of q k u l in
      let first = h.first in
      let other = k.first in
      ne (omega arith)

  -- a unit of a row of round p .round
  in_round : (p q : Slot) → IsSlot n q → p.round ≡ q.round → (u v : ℕ) → u ≡ v → In (row2 a q) u → Writes (word_of a p.round) p.round q.party v
  in_round p q k e u v same m =
      subst₂ (λ (r x : ℕ). Writes (word_of a r) r q.party x) (sym e) same ((says a n q k).only u m)

  own_alone : (p q : Slot) → IsSlot n p → IsSlot n q → Other p q → In (row2 a q) (row2 a p).own → ⊥
  own_alone p q h k ne m = go (ℕ_discrete p.round q.round)
    where
      go : Dec (p.round ≡ q.round) → ⊥
      go (yes e) =
          ne (
            e,
            own_once (word_of a p.round) p.round p.party q.party h.lowest h.top k.lowest
                (in_round p q k e (row2 a p).own (own_unit (word_of a p.round) p.party) (says a n p h).own m),
          )
      go (no d) = rounds_apart p q h k d (row2 a p).own (own_in p h) m

  pair_alone : (p q : Slot) → IsSlot n p → IsSlot n q → Lower p → Other p q → ((p.round ≡ q.round) × Top q → ⊥) → In (row2 a q) (row2 a p).pair → ⊥
  pair_alone p q h k l ne nt m = go (ℕ_discrete p.round q.round)
    where
      r : ℕ
      r = p.round

      go : Dec (p.round ≡ q.round) → ⊥
      go (yes e) =
          ⊎_elim (λ i. ne (e, i)) (λ t. nt (e, t ∙ e))
          (pair_twice (word_of a r) r p.party q.party h.lowest k.lowest (le_trans k.top (le_of_eq (sym e)))
          (in_round p q k e (row2 a p).pair (pair_unit (word_of a r) r p.party) ((says a n p h).pair_of_lower l) m))
      go (no d) = rounds_apart p q h k d (row2 a p).pair (pair_in p h l) m

  pair_at_top : (p : Slot) → IsSlot n p → Lower p → In (row2 a (slot p.round p.round)) (row2 a p).pair
  pair_at_top p h l =
      let first = h.first in
      let low = h.lowest in
      let pair = (says a n p h).pair_of_lower l in
      (says a n (slot p.round p.round) (record { first = h.first; last = h.last; lowest = omega arith; top = le_refl p.round })
      ).each (row2 a p).pair (top_pair refl (omega arith) (omega arith))

  pub writers2 : (p : Slot) → IsSlot n p → WriterRule (built 2 a n) p
  writers2 p h =
      record {
        own_alone = λ q k. own_alone p q h k;
        set_apart = λ q k. rounds_apart p q h k;
        pair_at_top = pair_at_top p h;
        pair_alone = λ l q k. pair_alone p q h k l;
      }

  pub units2 : 1 ≤ n → n ≤ 16 → a ≤ 64 → (1 ≤ built_units 2 a n) × (built_units 2 a n ≤ 1024)
  units2 least most small = go (eq-or-lt_of_le least)
    where
      go : (1 ≡ n) ⊎ (1 < n) → (1 ≤ built_units 2 a n) × (built_units 2 a n ≤ 1024)
      go (inl e) = rw (← e) (omega arith)
      go (inr l) =
          let some : 1 ≤ n - 1 = omega arith in
          let few : n - 1 ≤ 15 = omega arith in
          let word : 1 ≤ a = omega arith in
          let low = mul-le-mul some word in
          let high = mul-le-mul few small in
          rw (ne_eqb n 1 (λ e. omega arith)) (omega arith)
