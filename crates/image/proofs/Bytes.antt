-- Bytes that are read as a number are written back, by induction over them: what stands above the last n bytes is the number of those before.
use Prim.Native.Nat.{ℕ, zero, suc, ◌+◌, ◌*◌, ◌/◌, ◌%◌, ◌^◌, ◌≤◌, ◌<◌}
use mathlib.Core.Path.{◌≡◌, refl, sym, ap, ◌∙◌}
use mathlib.Core.List.{List, [], ◌∷◌, ◌++◌, map}
use native.Mathlib.Nat.{div-one, mod-lt, pow-suc, div-div-eq-div-mul}
use native.Mathlib.Omega.{arith}
use lib.Arith.{digits_div, digits_mod}
use lib.ListN.{length, get_or, take, drop, length-take, length-drop}
use lib.Seq.{length-take-le, get_or-take, get_or-drop}
use Rattle.sheet.specs.Lists.{flat}
use Rattle.sheet.specs.Bytes.{big_from, num, bytes_of}
use Rattle.image.specs.Image.{Below}

above : (acc : ℕ) (cs : List ℕ) → Below 256 cs → big_from acc cs / 256 ^ length cs ≡ acc
above acc [] low = div-one acc
above acc (c ∷ cs) low =
    let x = big_from (acc * 256 + c) cs in
    ap (λ (p : ℕ). x / p) (pow-suc 256 (length cs))
    ∙ sym (div-div-eq-div-mul x (256 ^ length cs) 256)
    ∙ ap (λ (y : ℕ). y / 256) (above (acc * 256 + c) cs (λ k h. low (suc k) (omega arith)))
    ∙ digits_div acc (low 0 (omega arith))

written_back : (acc : ℕ) (cs : List ℕ) → Below 256 cs → bytes_of (length cs) (big_from acc cs) ≡ cs
written_back acc [] low = refl
written_back acc (c ∷ cs) low =
    let more : Below 256 cs = λ k h. low (suc k) (omega arith) in
    let top = ap (λ (y : ℕ). y % 256) (above (acc * 256 + c) cs more) ∙ digits_mod acc (low 0 (omega arith)) in
    λ i. top i ∷ written_back (acc * 256 + c) cs more i

-- ---- lists of bytes

module _ (m : ℕ) where
  pub below_drop : (a : ℕ) (b : List ℕ) → Below m b → Below m (drop a b)
  below_drop a b low k h = rw get_or-drop (low (a + k) (omega (arith, length-drop a b)))

  pub below_take : (n : ℕ) (b : List ℕ) → Below m b → Below m (take n b)
  below_take n b low k h =
      let size = length-take n b in
      let l : k < n = omega arith in
      rw get_or-take (low k (omega arith))

  pub below_cons : (x : ℕ) (s : List ℕ) → x < m → Below m s → Below m (x ∷ s)
  below_cons x s first ls zero h = first
  below_cons x s first ls (suc k) h = ls k (omega arith)

  pub below_append : (s t : List ℕ) → Below m s → Below m t → Below m (s ++ t)
  below_append [] t ls lt k h = lt k h
  below_append (x ∷ s) t ls lt zero h = ls 0 (omega arith)
  below_append (x ∷ s) t ls lt (suc k) h = below_append s t (λ j l. ls (suc j) (omega arith)) lt k (omega arith)

  pub below_flat : {A : Type 0} (f : A → List ℕ) (xs : List A) (d : A) → ((k : ℕ) → k < length xs → Below m (f (get_or xs k d)))
      → Below m (flat (map f xs))
  below_flat f [] d low k h = absurd (omega arith)
  below_flat f (x ∷ xs) d low k h =
      below_append (f x) (flat (map f xs)) (low 0 (omega arith)) (below_flat f xs d (λ j l. low (suc j) (omega arith))) k h

pub below_bytes : (n x : ℕ) → Below 256 (bytes_of n x)
below_bytes zero x k h = absurd (omega arith)
below_bytes (suc n) x zero h = mod-lt (x / 256 ^ n) (omega arith)
below_bytes (suc n) x (suc k) h = below_bytes n x k (omega arith)

-- a number that is read is written back
pub bytes_num : (n a : ℕ) (b : List ℕ) → a + n ≤ length b → Below 256 b → bytes_of n (num b a n) ≡ take n (drop a b)
bytes_num n a b h low =
    let cs = take n (drop a b) in
    let size = length-take-le n (drop a b) (omega (arith, length-drop a b)) in
    ap (λ (k : ℕ). bytes_of k (big_from 0 cs)) (sym size) ∙ written_back 0 cs (below_take 256 n (drop a b) (below_drop 256 a b low))
