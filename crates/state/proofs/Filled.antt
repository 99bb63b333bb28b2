-- A fresh session is its lists filled with zeros: what was given stands in front, nothing behind it, and the length field finds the sheet again.
use Prim.Native.Nat.{ℕ, zero, suc, ◌+◌, ◌-◌, ◌≤◌, ◌<◌, min}
use mathlib.Core.Path.{◌≡◌, refl, sym, ap, ◌∙◌, subst}
use mathlib.Core.List.{List, ◌++◌, map}
use mathlib.Core.Bool.{cond}
use mathlib.Core.Logic.{◌⊎◌, inl, inr}
use lib.Dec.{ltb}
use borrow.Author.Tests.{lt-ltb, le-ltb}
use Rattle.sheet.proofs.Folds.{lt_or_le}
use native.Mathlib.Omega.{arith}
use lib.ListN.{length, get_or, take, replicate, length-append, length-replicate, get_or-append}
use lib.Seq.{take_all, take-append-le, take-append_seam, get_or-append-add}
use Rattle.sheet.specs.Rows.{parties_of}
use Rattle.sheet.specs.Lists.{from}
use Rattle.sheet.specs.Bytes.{num, big_from}
use Rattle.rules.specs.Words.{Rules6}
use Rattle.sheet.proofs.Ranges.{length_range, range_at}
use Rattle.sheet.proofs.Slots.{count_most}
use Rattle.state.specs.Session.{fresh_party, no_party, filled, carried, layout, party_of}
use Rattle.state.specs.declared.kept.Party.{Party}
use Rattle.state.specs.declared.kept.Session.{Session}

pub replicate_at : {A : Type 0} (n u : ℕ) (a : A) → get_or (replicate n a) u a ≡ a
replicate_at zero u a = refl
replicate_at (suc n) zero a = refl
replicate_at (suc n) (suc u) a = replicate_at n u a

-- past the front there is the filling
pub behind : {A : Type 0} (xs : List A) (n j : ℕ) (a : A) → length xs ≤ j → get_or (xs ++ replicate n a) j a ≡ a
behind xs n j a l =
    let e : j ≡ length xs + (j - length xs) = omega arith in
    ap (λ (x : ℕ). get_or (xs ++ replicate n a) x a) e ∙ get_or-append-add xs (replicate n a) (j - length xs) a ∙ replicate_at n (j - length xs) a

pub filled_length : (size : ℕ) (xs : List ℕ) → length xs ≤ size → length (filled size xs) ≡ size
filled_length size xs l =
    let both = length-append xs (replicate (size - length xs) 0) in
    let rest = length-replicate {A = ℕ} (size - length xs) 0 in
    omega arith

pub filled_front : (size : ℕ) (xs : List ℕ) (j : ℕ) → j < length xs → get_or (filled size xs) j 0 ≡ get_or xs j 0
filled_front size xs j l = get_or-append xs (replicate (size - length xs) 0) 0 j l

pub filled_past : (size : ℕ) (xs : List ℕ) (j : ℕ) → length xs ≤ j → get_or (filled size xs) j 0 ≡ 0
filled_past size xs j l = behind xs (size - length xs) j 0 l

-- what has room is taken whole
pub filled_taken : (size : ℕ) (xs : List ℕ) → length xs ≤ size → filled size (take size xs) ≡ filled size xs
filled_taken size xs l = ap (filled size) (take_all size xs l)

-- ---- the parties

abbrev pub fresh_parties : ℕ → List Party
fresh_parties n = map fresh_party (from 1 n) ++ replicate (16 - n) no_party

pub fresh_taken : (n : ℕ) → n ≤ 16 → map fresh_party (from 1 (min n 16)) ++ replicate (16 - n) no_party ≡ fresh_parties n
fresh_taken n l = ap (λ (k : ℕ). map fresh_party (from 1 k) ++ replicate (16 - n) no_party) (let e : min n 16 ≡ n = omega arith in e)

-- of any n, as many as there are at most
pub fresh_long : (n : ℕ) → length (map fresh_party (from 1 (min n 16)) ++ replicate (16 - n) no_party) ≡ 16
fresh_long n =
    let both = length-append (map fresh_party (from 1 (min n 16))) (replicate (16 - n) no_party) in
    let rest = length-replicate (16 - n) no_party in
    omega (arith, length_range fresh_party 1 (min n 16))

pub fresh_at : (n k : ℕ) → k < 16 → get_or (map fresh_party (from 1 (min n 16)) ++ replicate (16 - n) no_party) k no_party ≡ cond (ltb k n) (fresh_party (k + 1)) no_party
fresh_at n k l = go (lt_or_le k n)
  where
    go : (k < n) ⊎ (n ≤ k) → get_or (map fresh_party (from 1 (min n 16)) ++ replicate (16 - n) no_party) k no_party ≡ cond (ltb k n) (fresh_party (k + 1)) no_party
    go (inl h) =
        let e : 1 + k ≡ k + 1 = omega arith in
        get_or-append (map fresh_party (from 1 (min n 16))) (replicate (16 - n) no_party) no_party k (omega (arith, length_range fresh_party 1 (min n 16)))
        ∙ range_at fresh_party 1 (min n 16) k no_party (omega arith)
        ∙ rw (lt-ltb k n h, e)
    go (inr h) =
        behind (map fresh_party (from 1 (min n 16))) (16 - n) k no_party (omega (arith, length_range fresh_party 1 (min n 16)))
        ∙ rw (le-ltb k n h)

pub fresh_length : (n : ℕ) → n ≤ 16 → length (fresh_parties n) ≡ 16
fresh_length n l = ap length (sym (fresh_taken n l)) ∙ fresh_long n

pub fresh_party_lem : (n i : ℕ) → 1 ≤ i → i ≤ n → party_of (fresh_parties n) i ≡ fresh_party i
fresh_party_lem n i least most =
    let e : 1 + (i - 1) ≡ i = omega arith in
    get_or-append (map fresh_party (from 1 n)) (replicate (16 - n) no_party) no_party (i - 1) (omega (arith, length_range fresh_party 1 n))
    ∙ range_at fresh_party 1 n (i - 1) no_party (omega arith)
    ∙ ap fresh_party e

pub fresh_past : (n i : ℕ) → n < i → party_of (fresh_parties n) i ≡ no_party
fresh_past n i l = behind (map fresh_party (from 1 n)) (16 - n) (i - 1) no_party (omega (arith, length_range fresh_party 1 n))

-- ---- the sheet

pub sheet_most : (sheet : List ℕ) → Rules6 sheet → length sheet ≤ 1898
sheet_most sheet rules =
    let four = rules.before.before in
    omega (arith, four.lengths.lent, count_most (parties_of sheet) four.before.header.parties_most)

pub carried_copy : (sheet : List ℕ) → Rules6 sheet → (s : Session) → s.sheet ≡ filled 1898 sheet → carried s ≡ sheet
carried_copy sheet rules s copy =
    ap (λ (x : List ℕ). take (num x 0 2) x) copy
    ∙ ap (λ (x : ℕ). take x (filled 1898 sheet)) field
    ∙ take-append_seam sheet (replicate (1898 - length sheet) 0)
  where
    field : num (filled 1898 sheet) 0 2 ≡ length sheet
    field =
        let four = rules.before.before in
        ap (big_from 0) (take-append-le 2 sheet (replicate (1898 - length sheet) 0) (omega (arith, four.before.before.before.whole)))
        ∙ four.lengths.field
        ∙ sym four.lengths.lent

pub carried_rules : (sheet : List ℕ) → Rules6 sheet → (s : Session) → s.sheet ≡ filled 1898 sheet → Rules6 (carried s)
carried_rules sheet rules s copy = subst Rules6 (sym (carried_copy sheet rules s copy)) rules

pub carried_parties : (sheet : List ℕ) → Rules6 sheet → (s : Session) → s.sheet ≡ filled 1898 sheet → (layout s).parties ≡ parties_of sheet
carried_parties sheet rules s copy = ap (λ (x : List ℕ). parties_of x) (carried_copy sheet rules s copy)
