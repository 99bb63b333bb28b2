-- A number is read from the bytes at its place, one by one, and one that was written is read back, by inductions over how many; a whole row is taken.
use Prim.Native.Nat.{ℕ, zero, suc, ◌+◌, ◌*◌, ◌/◌, ◌%◌, ◌^◌, ◌≤◌, ◌<◌}
use mathlib.Core.Path.{◌≡◌, refl, sym, ap, ap₂, ◌∙◌}
use mathlib.Core.List.{List, [], ◌∷◌, ◌++◌, map}
use native.Mathlib.Nat.{add-suc, add-zero, zero-add, add_assoc, add-mul, mul_assoc, mul-one, zero-mul, pow-succ', one-le-pow}
use native.Mathlib.Nat.{mod-one, mod-eq_of_lt, mul-le-mul, mul-le-mul_right, lt_of_lt_of_le}
use native.Mathlib.Numerals.{add-one}
use native.Mathlib.Omega.{arith}
use borrow.Author.Tests.{lt-ltb, le-leb}
use lib.Arith.{mod-mul}
use lib.ListN.{length, get_or, take, drop, length-drop}
use lib.Seq.{drop-cons, drop-drop, take-add, length-take-le}
use Rattle.sheet.specs.Lists.{from}
use Rattle.sheet.specs.Bytes.{big_from, big, num, bytes_of}
use Rattle.sheet.specs.Rows.{row_at, taken}

-- ---- what is read

-- the elements at place + j, one by one
taken_from : (s : List ℕ) (place j n : ℕ) → place + j + n ≤ length s → take n (drop (place + j) s) ≡ map (λ k. get_or s (place + k) 0) (from j n)
taken_from s place j zero h = refl
taken_from s place j (suc n) h =
    ap (take (suc n)) (drop-cons s (place + j) 0 (omega arith))
    ∙ ap (λ (i : ℕ). get_or s (place + j) 0 ∷ take n (drop i s)) (sym (add-suc place j))
    ∙ ap (λ (l : List ℕ). get_or s (place + j) 0 ∷ l) (taken_from s place (suc j) n (omega arith))

-- a number is that of the n bytes at the place, the one after it, ..
num_read : (s : List ℕ) (place n : ℕ) → place + n ≤ length s → num s place n ≡ big_from 0 (map (λ k. get_or s (place + k) 0) (from 0 n))
num_read s place n h =
    ap (λ (i : ℕ). big_from 0 (take n (drop i s))) (sym (add-zero place)) ∙ ap (big_from 0) (taken_from s place 0 n (omega arith))

-- so it is of two bytes, and of four, that were read one by one
pub num_two : (s : List ℕ) (place : ℕ) → place + 2 ≤ length s → big (get_or s place 0 ∷ get_or s (place + 1) 0 ∷ []) ≡ num s place 2
num_two s place h = rw (num_read s place 2 h, add-zero)

pub num_four : (s : List ℕ) (place : ℕ) → place + 4 ≤ length s
    → big (get_or s place 0 ∷ get_or s (place + 1) 0 ∷ get_or s (place + 2) 0 ∷ get_or s (place + 3) 0 ∷ []) ≡ num s place 4
num_four s place h = rw (num_read s place 4 h, add-zero)

-- bytes after those of acc
big_after : (acc : ℕ) (xs : List ℕ) → big_from acc xs ≡ acc * 256 ^ length xs + big_from 0 xs
big_after acc [] = omega arith
big_after acc (x ∷ xs) =
    let p = 256 ^ length xs in
    let more = big_after (acc * 256 + x) xs in
    let first = big_after (0 * 256 + x) xs in
    let weights : (acc * 256 + x) * p ≡ acc * (256 * p) + x * p = add-mul (acc * 256) x p ∙ ap (λ (z : ℕ). z + x * p) (mul_assoc acc 256 p) in
    let alone : (0 * 256 + x) * p ≡ x * p = ap (λ (z : ℕ). z * p) (zero-add x) in
    rw pow-succ' (omega arith)

big_append : (acc : ℕ) (xs ys : List ℕ) → big_from acc (xs ++ ys) ≡ big_from (big_from acc xs) ys
big_append acc [] ys = refl
big_append acc (x ∷ xs) ys = big_append (acc * 256 + x) xs ys

-- a number in two parts: the first by the weight of the second
pub num_parts : (s : List ℕ) (place a b : ℕ) → place + a + b ≤ length s → num s place (a + b) ≡ num s place a * 256 ^ b + num s (place + a) b
num_parts s place a b h =
    let first = take a (drop place s) in
    let second = take b (drop (place + a) s) in
    ap (big_from 0) (take-add a b (drop place s) ∙ ap (λ (l : List ℕ). first ++ take b l) (drop-drop a place s))
    ∙ big_append 0 first second
    ∙ big_after (big_from 0 first) second
    ∙ ap (λ (k : ℕ). big_from 0 first * 256 ^ k + big_from 0 second) (length-take-le b (drop (place + a) s) (simp length-drop (omega arith)))

-- a number of what is left from a place on
pub num_drop : (s : List ℕ) (place k n : ℕ) → num (drop place s) k n ≡ num s (place + k) n
num_drop s place k n = ap (λ (l : List ℕ). big_from 0 (take n l)) (drop-drop k place s)

-- bytes say less than 256 ^ n
big_below : (f : ℕ → ℕ) (j n acc : ℕ) → ((k : ℕ) → k < j + n → f k < 256) → big_from acc (map f (from j n)) < (acc + 1) * 256 ^ n
big_below f j zero acc h = omega arith
big_below f j (suc n) acc h =
    let low = h j (omega arith) in
    lt_of_lt_of_le (big_below f (suc j) n (acc * 256 + f j) (λ k l. h k (omega arith)))
    (rw (pow-succ', ← mul_assoc) (mul-le-mul_right (256 ^ n) (omega arith)))

pub num_below : (s : List ℕ) (place n : ℕ) → place + n ≤ length s → ((k : ℕ) → k < length s → get_or s k 0 < 256) → num s place n < 256 ^ n
num_below s place n h low =
    let e = big_below (λ k. get_or s (place + k) 0) 0 n 0 (λ k l. low (place + k) (omega arith)) in
    rw (num_read s place n h) (omega arith)

-- ---- rows

-- the product that the number of rows halves is at most that of 255 parties
pub most : (n : ℕ) → n ≤ 255 → n * (n + 1) ≤ 65280
most n h = mul-le-mul {n₂ = 255} {m₂ = 256} h (omega arith)

-- a whole row at a place
pub taken_row : (s : List ℕ) (k : ℕ) → k < 135 → 8 + 14 * k + 14 ≤ length s → taken s k ≡ record { row = row_at s k; next = k + 1 }
taken_row s k h l = let e : 8 + 14 * suc k ≤ length s = omega arith in simp (lt-ltb k 135 h, le-leb (8 + 14 * suc k) (length s) e, add-one)

-- ---- what is written

pub length_bytes : (n x : ℕ) → length (bytes_of n x) ≡ n
length_bytes zero x = refl
length_bytes (suc n) x = ap suc (length_bytes n x)

-- after the number acc, the n low bytes of x
big_bytes : (n acc x : ℕ) → big_from acc (bytes_of n x) ≡ acc * 256 ^ n + x % 256 ^ n
big_bytes zero acc x = sym (ap₂ ◌+◌ (mul-one acc) (mod-one x) ∙ add-zero acc)
big_bytes (suc n) acc x =
    let p = 256 ^ n in
    let d = x / 256 ^ n % 256 in
    big_bytes n (acc * 256 + d) x
    ∙ ap (λ (y : ℕ). y + x % p) (add-mul (acc * 256) d p ∙ ap (λ (y : ℕ). y + d * p) (mul_assoc acc 256 p))
    ∙ add_assoc (acc * (256 * p)) (d * p) (x % p)
    ∙ ap (λ (y : ℕ). acc * (256 * p) + y) (sym (mod-mul x {m = 256} {c = p} (omega arith) (one-le-pow n 256 (omega arith))))
    ∙ ap (λ (q : ℕ). acc * q + x % q) (sym (pow-succ' 256 n))

-- what is written is read
pub num_bytes : (n x : ℕ) → x < 256 ^ n → big_from 0 (bytes_of n x) ≡ x
num_bytes n x h = big_bytes n 0 x ∙ ap (λ (y : ℕ). y + x % 256 ^ n) (zero-mul (256 ^ n)) ∙ zero-add (x % 256 ^ n) ∙ mod-eq_of_lt h
