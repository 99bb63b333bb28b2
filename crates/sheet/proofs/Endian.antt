-- A number's bytes as the library gives them are document 01's: both are big-endian.
use Rattle.std.proofs.Common.{◌≡◌, ℕ, ◌+◌, ◌≤◌, List, [], ◌∷◌, length, take, drop, length-drop, arith, rules}
use Rattle.std.specs.Int.{w16, w32, w64, from_be_bytes, to_be_bytes}
use lib.Seq.{length-take-le}
use Rattle.sheet.specs.Bytes.{big, num, bytes_of}

pub big_2 : (a b : ℕ) → from_be_bytes w16 (a ∷ b ∷ []) ≡ big (a ∷ b ∷ [])
big_2 a b = omega arith

pub big_4 : (a b c d : ℕ) → from_be_bytes w32 (a ∷ b ∷ c ∷ d ∷ []) ≡ big (a ∷ b ∷ c ∷ d ∷ [])
big_4 a b c d = omega arith

pub big_8 : (a b c d e f g h : ℕ) → from_be_bytes w64 (a ∷ b ∷ c ∷ d ∷ e ∷ f ∷ g ∷ h ∷ []) ≡ big (a ∷ b ∷ c ∷ d ∷ e ∷ f ∷ g ∷ h ∷ [])
big_8 a b c d e f g h = omega arith

pub bytes_2 : (x : ℕ) → to_be_bytes w16 x ≡ bytes_of 2 x
bytes_2 x = search rules

pub bytes_4 : (x : ℕ) → to_be_bytes w32 x ≡ bytes_of 4 x
bytes_4 x = search rules

pub bytes_8 : (x : ℕ) → to_be_bytes w64 x ≡ bytes_of 8 x
bytes_8 x = search rules

-- ---- the number that the bytes at a place say

long : (s : List ℕ) (at n : ℕ) → at + n ≤ length s → length (take n (drop at s)) ≡ n
long s at n h = length-take-le n (drop at s) (simp length-drop (omega arith))

of_two : (xs : List ℕ) → length xs ≡ 2 → from_be_bytes w16 xs ≡ big xs
of_two (a ∷ b ∷ []) l = big_2 a b
of_two _ l = absurd (omega arith)

of_eight : (xs : List ℕ) → length xs ≡ 8 → from_be_bytes w64 xs ≡ big xs
of_eight (a ∷ b ∷ c ∷ d ∷ e ∷ f ∷ g ∷ h ∷ []) l = big_8 a b c d e f g h
of_eight _ l = absurd (omega arith)

pub read_2 : (s : List ℕ) (at : ℕ) → at + 2 ≤ length s → from_be_bytes w16 (take 2 (drop at s)) ≡ num s at 2
read_2 s at h = of_two (take 2 (drop at s)) (long s at 2 h)

pub read_8 : (s : List ℕ) (at : ℕ) → at + 8 ≤ length s → from_be_bytes w64 (take 8 (drop at s)) ≡ num s at 8
read_8 s at h = of_eight (take 8 (drop at s)) (long s at 8 h)
