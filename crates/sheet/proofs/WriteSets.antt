-- A set's units are its mask's bits, all below 64, so a fold over the units asks each unit, and the mask's length is the place past its highest bit.
use Prim.Native.Nat.{ℕ, ◌+◌, ◌-◌, ◌%◌, ◌^◌, ◌<◌, ◌≤◌, zero-le}
use mathlib.Core.Path.{◌≡◌, sym, ap, ◌∙◌, subst}
use mathlib.Core.Logic.{◌⊎◌, ⊎_elim, ◌↔◌}
use mathlib.Core.Bool.{Bool, not, ◌&&◌, ◌||◌}
use native.Mathlib.Nat.{lt_of_not-le, not-le_of_lt, lt_of_lt_of_le, lt_of_le_of_lt, eq-zero-or-pos, pos_of_ne-zero}
use native.Mathlib.Omega.{arith}
use borrow.Author.Tests.{eq-eqb, ne_eqb}
use lib.Dec.{T, leb, ltb, eqb, leb→le, le→leb, ltb→lt, lt→ltb, eqb→eq, T_not, not_T}
use lib.Pow.{pow_mono, pow_pos, ones_lt}
use lib.Count.{count_leading_zeros, leading_top, leading_of_zero, leading_length, leading_unique}
use Rattle.sheet.specs.Lists.{from, all}
use Rattle.sheet.specs.Sets.{bit, in_set, units_in, size_varying, inconsecutive, legal, below, apart}
use Rattle.sheet.specs.Length.{bit_length}
use Rattle.sheet.specs.Rows.{writes}
use Rattle.sheet.specs.Words.{In, Legal}
use Rattle.sheet.specs.declared.rows.Row.{Row}
use Rattle.sheet.proofs.Bits.{bit_under, under_bits}
use Rattle.sheet.proofs.Folds.{and_left, and_right, and_both, or_left, or_right, or_cases, held, either}
use Rattle.sheet.proofs.Folds.{all_from, from_all, any_from, from_any, all_keep}

-- ---- the units of a set

-- unit u is in the set of a start and a mask: for a row's, this is `In`
abbrev pub At : ℕ → ℕ → ℕ → Type 0
At start mask u = (start ≤ u) × T (bit mask (u - start))

pub at_says : (start mask u : ℕ) → T (in_set start mask u) ↔ At start mask u
at_says start mask u = (
  λ t. (leb→le start u (and_left (leb start u) (bit mask (u - start)) t), and_right (leb start u) (bit mask (u - start)) t),
  λ p. and_both (leb start u) (bit mask (u - start)) (le→leb start u p.0) p.1,
)

pub in_set_lem : (w : Row) (u : ℕ) → T (writes w u) ↔ In w u
in_set_lem w u = at_says w.start w.mask u

-- a mask's bit, as a unit
pub bit_at : (start mask j : ℕ) → T (bit mask j) → At start mask (start + j)
bit_at start mask j t = let e : j ≡ start + j - start = omega arith in (omega arith, subst (λ (x : ℕ). T (bit mask x)) e t)

-- what a fold over the units says of each
pub units_say : (f : ℕ → Bool) (start mask : ℕ) → mask < 2 ^ 64 → T (all f (units_in start mask)) ↔ ((u : ℕ) → At start mask u → T (f u))
units_say f start mask h = (each, together)
  where
    test : ℕ → Bool
    test j = not (bit mask j) || f (start + j)

    tests : all f (units_in start mask) ≡ all test (from 0 64)
    tests = all_keep f (start +◌) (bit mask) (from 0 64)

    each : T (all f (units_in start mask)) → (u : ℕ) → At start mask u → T (f u)
    each t u (s, b) =
        let j = u - start in
        let back : start + j ≡ u = omega arith in
        ⊎_elim
        (λ n. absurd (T_not (bit mask j) n b))
        (λ p. subst (λ (x : ℕ). T (f x)) back p)
        (or_cases (not (bit mask j)) (f (start + j)) (all_from test 0 64 (subst T tests t) j zero-le (bit_under mask 64 j h b)))

    together : ((u : ℕ) → At start mask u → T (f u)) → T (all f (units_in start mask))
    together g =
        subst T (sym tests)
        (from_all test 0 64 (λ j _ _.
        ⊎_elim
        (λ b. or_right (not (bit mask j)) (f (start + j)) (g (start + j) (bit_at start mask j b)))
        (λ n. or_left (not (bit mask j)) (f (start + j)) (not_T (bit mask j) n))
        (either (bit mask j))))

pub below_at : (units start mask : ℕ) → mask < 2 ^ 64 → T (below units start mask) ↔ ((u : ℕ) → At start mask u → u < units)
below_at units start mask h =
    let says = units_say (λ u. ltb u units) start mask h in
    (λ t u p. ltb→lt u units (says.0 t u p), λ g. says.1 (λ u p. lt→ltb u units (g u p)))

pub below_says : (units : ℕ) (w : Row) → w.mask < 2 ^ 64 → T (below units w.start w.mask) ↔ ((u : ℕ) → In w u → u < units)
below_says units w = below_at units w.start w.mask

-- no unit is in both sets
abbrev pub Apart : ℕ → ℕ → ℕ → ℕ → Type 0
Apart start mask start' mask' = (u : ℕ) → At start mask u → At start' mask' u → ⊥

pub apart_at : (start mask start' mask' : ℕ) → mask < 2 ^ 64 → T (apart start mask start' mask') ↔ Apart start mask start' mask'
apart_at start mask start' mask' h =
    let says = units_say (λ u. not (in_set start' mask' u)) start mask h in (
      λ t u p q. T_not (in_set start' mask' u) (says.0 t u p) ((at_says start' mask' u).1 q),
      λ g. says.1 (λ u p. not_T (in_set start' mask' u) (λ q. g u p ((at_says start' mask' u).0 q))),
    )

pub apart_says : (v w : Row) → v.mask < 2 ^ 64
    → T (apart v.start v.mask w.start w.mask) ↔ ((u : ℕ) → In v u → In w u → ⊥)
apart_says v w = apart_at v.start v.mask w.start w.mask

-- ---- the length of a mask

-- the mask is below 2 ^ its length, and below no smaller power
pub length_holds : (m : ℕ) → m < 2 ^ 64 → m < 2 ^ bit_length m
length_holds m h =
    let r = leading_length 64 m h in
    let e : r.0 ≡ bit_length m = omega (arith, r.1) in
    subst (λ (x : ℕ). m < 2 ^ x) e r.2

pub length_least : (m k : ℕ) → m < 2 ^ 64 → m < 2 ^ k → bit_length m ≤ k
length_least m k h l = ⊎_elim none some (eq-zero-or-pos m)
  where
    none : m ≡ 0 → bit_length m ≤ k
    none e = let z : count_leading_zeros 64 m ≡ 64 = ap (count_leading_zeros 64) e ∙ leading_of_zero 64 in omega arith

    some : 0 < m → bit_length m ≤ k
    some p =
        let r = leading_top 64 m p h in
        let j = r.0 in
        let over : j < k = lt_of_not-le (λ le. not-le_of_lt (lt_of_le_of_lt r.2 l) (pow_mono le)) in
        omega (arith, r.1)

-- a mask that is not empty takes a bit
pub length_some : (m : ℕ) → m < 2 ^ 64 → (m ≡ 0 → ⊥) → 0 < bit_length m
length_some m h some =
    pos_of_ne-zero (λ e. let low : m < 2 ^ 0 = subst (λ (x : ℕ). m < 2 ^ x) e (length_holds m h) in some (omega arith))

pub length_ones : (b : ℕ) → b ≤ 64 → bit_length (2 ^ b - 1) ≡ b
length_ones b h =
    let some = pow_pos b in
    let zeros : 64 - b ≡ count_leading_zeros 64 (2 ^ b - 1) = leading_unique 64 (2 ^ b - 1) (64 - b) b (omega arith) (ones_lt b) (omega arith) in
    omega arith

-- a set ends past its highest unit
pub at_before_end : (start mask u : ℕ) → mask < 2 ^ 64 → At start mask u → u < start + bit_length mask
at_before_end start mask u h (s, b) = let j = bit_under mask (bit_length mask) (u - start) (length_holds mask h) b in omega arith

pub before_end : (w : Row) (u : ℕ) → w.mask < 2 ^ 64 → In w u → u < w.start + bit_length w.mask
before_end w = at_before_end w.start w.mask

-- ---- legal sets

-- the mask is b ones, from 1 to the bound, and the start a multiple of b
abbrev pub Run : ℕ → ℕ → ℕ → ℕ → Type 0
Run bound start mask b = (1 ≤ b) × (b ≤ bound) × (mask ≡ 2 ^ b - 1) × (start % b ≡ 0)

pub run_says : (bound start mask : ℕ) → T (size_varying bound start mask) ↔ ((b : ℕ) × Run bound start mask b)
run_says bound start mask = (
  λ t.
      let r = from_any test 1 bound t in
      let b = r.0 in
      let full = eqb mask (2 ^ b - 1) in
      let aligned = eqb (start % b) 0 in
      let most = r.2 in
      (b, (r.1, omega arith, eqb→eq mask (2 ^ b - 1) (and_left full aligned r.3), eqb→eq (start % b) 0 (and_right full aligned r.3))),
  λ (b, (least, most, full, aligned)).
      any_from test 1 bound b least (omega arith)
      (and_both (eqb mask (2 ^ b - 1)) (eqb (start % b) 0) (held _ (eq-eqb _ _ full)) (held _ (eq-eqb _ _ aligned))),
)
  where
    test : ℕ → Bool
    test b = eqb mask (2 ^ b - 1) && eqb (start % b) 0

-- and b is the mask's length
-- as many ones as fit 64 bits
ones_few : (b mask : ℕ) → mask < 2 ^ 64 → mask ≡ 2 ^ b - 1 → b ≤ 64
ones_few b mask h e =
    let few : b < 65 = lt_of_not-le (λ l. let more : 2 ^ 65 ≤ 2 ^ b = pow_mono l in omega arith) in
    omega arith

pub run_length : (bound start mask b : ℕ) → mask < 2 ^ 64 → b ≡ bit_length mask → T (size_varying bound start mask) ↔ Run bound start mask b
run_length bound start mask b h e = (
  λ t.
      let r = (run_says bound start mask).0 t in
      let same : r.0 ≡ b = sym (e ∙ ap bit_length r.1.2 ∙ length_ones r.0 (ones_few r.0 mask h r.1.2)) in
      subst (Run bound start mask) same r.1,
  λ p. (run_says bound start mask).1 (b, p),
)

pub word_says : (bound start mask : ℕ)
    → T (inconsecutive bound start mask) ↔ ((mask ≡ 0 → ⊥) × (mask < 2 ^ bound) × (start % bound ≡ 0))
word_says bound start mask = (
  λ t.
      let both = and_left some&small aligned t in (
        λ e. T_not (eqb mask 0) (and_left some small both) (held _ (eq-eqb mask 0 e)),
        ltb→lt mask (2 ^ bound) (and_right some small both),
        eqb→eq (start % bound) 0 (and_right some&small aligned t),
      ),
  λ (n, l, e).
      and_both some&small aligned (and_both some small (not_T (eqb mask 0) (λ t. n (eqb→eq mask 0 t))) (lt→ltb mask (2 ^ bound) l))
      (held _ (eq-eqb (start % bound) 0 e)),
)
  where
    some : Bool
    some = not (eqb mask 0)

    small : Bool
    small = ltb mask (2 ^ bound)

    aligned : Bool
    aligned = eqb (start % bound) 0

    some&small : Bool
    some&small = some && small

-- which of the two the kind picks
pub legal_run : (kind bound start mask : ℕ) → kind ≡ 1 → legal kind bound start mask ≡ size_varying bound start mask
legal_run kind bound start mask e = rw (eq-eqb kind 1 e)

pub legal_word : (kind bound start mask : ℕ) → (kind ≡ 1 → ⊥) → legal kind bound start mask ≡ inconsecutive bound start mask
legal_word kind bound start mask n = rw (ne_eqb kind 1 n)

pub legal_says : (kind bound : ℕ) (w : Row) → (kind ≡ 1) ⊎ (kind ≡ 2) → T (legal kind bound w.start w.mask) ↔ Legal kind bound w
legal_says kind bound w = ⊎_elim sizes words
  where
    sizes : kind ≡ 1 → T (legal kind bound w.start w.mask) ↔ Legal kind bound w
    sizes e =
        rw (legal_run kind bound w.start w.mask e) (
          λ t.
              let r = (run_says bound w.start w.mask).0 t in
              record {
                one = λ _. record { b = r.0; least = r.1.0; most = r.1.1; ones = r.1.2; multiple = r.1.3 };
                two = λ z. absurd (omega arith);
              },
          λ l. let s = l.one e in (run_says bound w.start w.mask).1 (s.b, (s.least, s.most, s.ones, s.multiple)),
        )

    words : kind ≡ 2 → T (legal kind bound w.start w.mask) ↔ Legal kind bound w
    words e =
        rw (legal_word kind bound w.start w.mask (λ z. omega arith)) (
          λ t.
              let r = (word_says bound w.start w.mask).0 t in
              record {
                one = λ z. absurd (omega arith);
                two = λ _. record { some = r.0; no_bit = λ j le b. not-le_of_lt (bit_under w.mask bound j r.1 b) le; multiple = r.2 };
              },
          λ l. let s = l.two e in (word_says bound w.start w.mask).1 (s.some, under_bits w.mask bound s.no_bit, s.multiple),
        )

pub legal_64 : (kind bound : ℕ) (w : Row) → (kind ≡ 1) ⊎ (kind ≡ 2) → bound ≤ 64 → Legal kind bound w → w.mask < 2 ^ 64
legal_64 kind bound w k h l =
    ⊎_elim
    (λ e.
    let s = l.one e in
    let m : s.b ≤ 64 = omega (arith, s.most) in
    subst (λ (x : ℕ). x < 2 ^ 64) (sym s.ones) (lt_of_lt_of_le (ones_lt s.b) (pow_mono m)))
    (λ e. lt_of_lt_of_le (under_bits w.mask bound (l.two e).no_bit) (pow_mono h))
    k
