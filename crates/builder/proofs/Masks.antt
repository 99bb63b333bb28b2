-- A mask made of different units has its digits at them and nowhere else: the power of an empty digit adds without a carry.
use Prim.Native.Nat.{ℕ, zero, suc, ◌+◌, ◌-◌, ◌*◌, ◌/◌, ◌%◌, ◌^◌, ◌≤◌, ◌<◌}
use mathlib.Core.Path.{◌≡◌, refl, sym, ap, ap₂, ◌∙◌, subst}
use mathlib.Core.Logic.{◌⊎◌, inl, inr, ⊎_elim}
use mathlib.Core.List.{List, [], ◌∷◌, map}
use mathlib.Core.Bool.{Bool, false, ◌||◌}
use native.Mathlib.Nat.{pow-suc, add-suc, add-zero, zero-div, two-pow-succ}
use native.Mathlib.Numerals.{one-add}
use native.Mathlib.Omega.{arith}
use lib.Dec.{T, eqb, eqb→eq, eqb_refl, eqb-suc-suc, eqb-zero-suc, eqb-suc-zero}
use Rattle.sheet.specs.Sets.{bit}
use Rattle.sheet.specs.Lists.{from, any}
use Rattle.sheet.specs.Words.{In}
use Rattle.builder.specs.Build.{mask_of, writing, own_unit, pair_unit}
use Rattle.sheet.proofs.Bits.{digit, digit_bit, digit_shr, odd}
use Rattle.sheet.proofs.Folds.{same_test, fails, failed, or_cases, or_left, or_right, from_any, any_from}

-- ---- one digit more

bit_suc : (m j : ℕ) → bit m (suc j) ≡ bit (m / 2) j
bit_suc m j = ap (λ (x : ℕ). eqb x 1) (ap (digit m) (sym (one-add j)) ∙ sym (digit_shr m 1 j))

clear_digit : (m j : ℕ) → bit m j ≡ false → digit m j ≡ 0
clear_digit m j h = go (odd (m / 2 ^ j))
  where
    go : (digit m j ≡ 0) ⊎ (digit m j ≡ 1) → digit m j ≡ 0
    go (inl e) = e
    go (inr e) = absurd (failed (bit m j) h (digit_bit m j e))

-- the power of a digit that is 0 sets that digit, and no other
pub bit_added : (a m j : ℕ) → bit m a ≡ false → bit (2 ^ a + m) j ≡ (eqb j a || bit m j)
bit_added zero m zero h =
    let e = clear_digit m 0 h in
    let f : digit (1 + m) 0 ≡ 1 = omega arith in
    ap (λ (x : ℕ). eqb x 1) f
bit_added zero m (suc j) h =
    let e = clear_digit m 0 h in
    let f : (1 + m) / 2 ≡ m / 2 = omega arith in
    bit_suc (1 + m) j ∙ ap (λ (x : ℕ). bit x j) f ∙ sym (bit_suc m j) ∙ ap (λ (b : Bool). b || bit m (suc j)) (sym (eqb-suc-zero j))
bit_added (suc a) m zero h =
    let e = pow-suc 2 a in
    let f : digit (2 ^ suc a + m) 0 ≡ digit m 0 = omega arith in
    ap (λ (x : ℕ). eqb x 1) f ∙ ap (λ (b : Bool). b || bit m 0) (sym (eqb-zero-suc a))
bit_added (suc a) m (suc j) h =
    let e = pow-suc 2 a in
    let f : (2 ^ suc a + m) / 2 ≡ 2 ^ a + m / 2 = omega arith in
    bit_suc (2 ^ suc a + m) j
    ∙ ap (λ (x : ℕ). bit x j) f
    ∙ bit_added a (m / 2) j (sym (bit_suc m a) ∙ h)
    ∙ ap₂ ◌||◌ (sym (eqb-suc-suc j a)) (sym (bit_suc m j))

-- ---- the mask of some units

-- the units are different, and none is below the start
abbrev pub Different : ℕ → List ℕ → Type 0
Different start [] = Unit
Different start (u ∷ us) = (start ≤ u) × (any (eqb u) us ≡ false) × Different start us

pub mask_bit : (start : ℕ) (us : List ℕ) → Different start us → (j : ℕ) → bit (mask_of start us) j ≡ any (eqb (start + j)) us
mask_bit start [] h j = ap (λ (x : ℕ). eqb (x % 2) 1) (zero-div (2 ^ j))
mask_bit start (u ∷ us) h j =
    let low = h.0 in
    let back : start + (u - start) ≡ u = omega arith in
    bit_added (u - start) (mask_of start us) j
    (mask_bit start us h.2 (u - start) ∙ ap (λ (v : ℕ). any (eqb v) us) back ∙ h.1)
    ∙ ap₂ ◌||◌ (same_test (eqb j (u - start)) (eqb (start + j) u) there here) (mask_bit start us h.2 j)
  where
    there : T (eqb j (u - start)) → T (eqb (start + j) u)
    there t = let e = eqb→eq j (u - start) t in let low = h.0 in let f : start + j ≡ u = omega arith in rw f (eqb_refl u)

    here : T (eqb (start + j) u) → T (eqb j (u - start))
    here t = let e = eqb→eq (start + j) u t in let f : j ≡ u - start = omega arith in rw f (eqb_refl (u - start))

pub in_units : (start : ℕ) (us : List ℕ) (own pair : ℕ) → Different start us → (u : ℕ) → In (writing start us own pair) u → T (any (eqb u) us)
in_units start us own pair h u i =
    let low = i.0 in
    let back : start + (u - start) ≡ u = omega arith in
    subst T (mask_bit start us h (u - start) ∙ ap (λ (v : ℕ). any (eqb v) us) back) i.1

pub units_in : (start : ℕ) (us : List ℕ) (own pair : ℕ) → Different start us → (u : ℕ) → start ≤ u → T (any (eqb u) us) → In (writing start us own pair) u
units_in start us own pair h u low t =
    let back : start + (u - start) ≡ u = omega arith in
    (low, subst T (sym (mask_bit start us h (u - start) ∙ ap (λ (v : ℕ). any (eqb v) us) back)) t)

-- ---- two units

different_two : (start a b : ℕ) → start ≤ a → start ≤ b → a < b → Different start (a ∷ b ∷ [])
different_two start a b low high less = (low, fails (eqb a b || false) (λ t. go (or_cases (eqb a b) false t)), (high, refl, tt))
  where
    go : (T (eqb a b)) ⊎ ⊥ → ⊥
    go (inl t) = let e = eqb→eq a b t in omega arith
    go (inr z) = z

pub in_two : (start a b own pair : ℕ) → start ≤ a → a < b → (u : ℕ) → In (writing start (a ∷ b ∷ []) own pair) u → (u ≡ a) ⊎ (u ≡ b)
in_two start a b own pair low less u i =
    go (or_cases (eqb u a) (eqb u b || false) (in_units start (a ∷ b ∷ []) own pair (different_two start a b low (omega arith) less) u i))
  where
    go : (T (eqb u a)) ⊎ (T (eqb u b || false)) → (u ≡ a) ⊎ (u ≡ b)
    go (inl t) = inl (eqb→eq u a t)
    go (inr t) = ⊎_elim (λ s. inr (eqb→eq u b s)) (λ z. absurd z) (or_cases (eqb u b) false t)

pub two_in : (start a b own pair : ℕ) → start ≤ a → a < b → (u : ℕ) → (u ≡ a) ⊎ (u ≡ b) → In (writing start (a ∷ b ∷ []) own pair) u
two_in start a b own pair low less u = ⊎_elim first second
  where
    member : (v : ℕ) → start ≤ v → T (any (eqb v) (a ∷ b ∷ [])) → In (writing start (a ∷ b ∷ []) own pair) v
    member = units_in start (a ∷ b ∷ []) own pair (different_two start a b low (omega arith) less)

    first : u ≡ a → In (writing start (a ∷ b ∷ []) own pair) u
    first e = rw e (member a low (or_left (eqb a a) (eqb a b || false) (eqb_refl a)))

    second : u ≡ b → In (writing start (a ∷ b ∷ []) own pair) u
    second e = rw e (member b (omega arith) (or_right (eqb b a) (eqb b b || false) (or_left (eqb b b) false (eqb_refl b))))

-- ---- units one after the other

pub different_from : (start a n : ℕ) → start ≤ a → Different start (from a n)
different_from start a zero h = tt
different_from start a (suc n) h = (
  h,
  fails (any (eqb a) (from (suc a) n)) (λ t. let r = from_any (eqb a) (suc a) n t in let e = eqb→eq a r.0 r.3 in let l = r.1 in omega arith),
  different_from start (suc a) n (omega arith),
)

pub in_run : (start a n own pair : ℕ) → start ≤ a → (u : ℕ) → In (writing start (from a n) own pair) u → (a ≤ u) × (u < a + n)
in_run start a n own pair h u i =
    let r = from_any (eqb u) a n (in_units start (from a n) own pair (different_from start a n h) u i) in
    let e = eqb→eq u r.0 r.3 in
    let low = r.1 in
    let high = r.2 in
    omega arith

pub run_in : (start a n own pair : ℕ) → start ≤ a → (u : ℕ) → a ≤ u → u < a + n → In (writing start (from a n) own pair) u
run_in start a n own pair h u low high =
    units_in start (from a n) own pair (different_from start a n h) u (omega arith) (any_from (eqb u) a n u low high (eqb_refl u))

-- the powers 2 ^ k .. 2 ^ (k + n - 1)
pub mask_run : (start k n : ℕ) → mask_of start (from (start + k) n) + 2 ^ k ≡ 2 ^ (k + n)
mask_run start k zero = let e = ap (λ (x : ℕ). 2 ^ x) (add-zero k) in omega arith
mask_run start k (suc n) =
    let ih = mask_run start (suc k) n in
    let next = ap (λ (x : ℕ). mask_of start (from x n)) (add-suc start k) in
    let here = ap (λ (x : ℕ). 2 ^ x) (let e : start + k - start ≡ k = omega arith in e) in
    let twice = two-pow-succ k in
    let sum = ap (λ (x : ℕ). 2 ^ x) (let e : suc k + n ≡ k + suc n = omega arith in e) in
    omega arith

-- ---- the masks of kind 2

pairs_run : (w r k n : ℕ) → 1 ≤ k → map (pair_unit w r) (from k n) ≡ from (w + r + k - 1) n
pairs_run w r k zero h = refl
pairs_run w r k (suc n) h =
    let next : w + r + suc k - 1 ≡ suc (w + r + k - 1) = omega arith in
    ap (pair_unit w r k ∷◌) (pairs_run w r (suc k) n (omega arith) ∙ ap (λ (a : ℕ). from a n) next)

-- the top's own unit and its pair units, one after the other
pub top_run : (w r : ℕ) → 1 ≤ r → own_unit w r ∷ map (pair_unit w r) (from 1 (r - 1)) ≡ from (own_unit w r) r
top_run w zero h = absurd (omega arith)
top_run w (suc r) h =
    ap (own_unit w (suc r) ∷◌)
    (pairs_run w (suc r) 1 (suc r - 1) (omega arith)
    ∙ ap₂ from (let e : w + suc r + 1 - 1 ≡ suc (w + suc r - 1) = omega arith in e) (let e : suc r - 1 ≡ r = omega arith in e))

pub top_mask : (w r : ℕ) → 1 ≤ r → mask_of w (own_unit w r ∷ map (pair_unit w r) (from 1 (r - 1))) ≡ 2 ^ (2 * r - 1) - 2 ^ (r - 1)
top_mask w r h =
    let e = mask_run w (r - 1) r in
    let units = ap (mask_of w) (top_run w r h) in
    let start = ap (λ (a : ℕ). mask_of w (from a r)) (let e : w + r - 1 ≡ w + (r - 1) = omega arith in e) in
    let sum = ap (λ (x : ℕ). 2 ^ x) (let e : r - 1 + r ≡ 2 * r - 1 = omega arith in e) in
    omega arith

pub lower_mask : (w r i : ℕ) → 1 ≤ i → mask_of w (own_unit w i ∷ pair_unit w r i ∷ []) ≡ 2 ^ (i - 1) + 2 ^ (r + i - 1)
lower_mask w r i h =
    ap₂ (λ (x y : ℕ). 2 ^ x + y) (let e : w + i - 1 - w ≡ i - 1 = omega arith in e)
    (add-zero (2 ^ (w + r + i - 1 - w)) ∙ ap (λ (x : ℕ). 2 ^ x) (let e : w + r + i - 1 - w ≡ r + i - 1 = omega arith in e))
