-- The builder: which sheets it gives, and their bytes.
use Rattle.std.specs.Prelude.{ℕ, ◌+◌, ◌-◌, ◌*◌, ◌^◌, List, [], ◌∷◌, ◌++◌, map, Bool, not, ◌&&◌, ◌||◌, cond, length, get_or, drop, leb, ltb, eqb}
use Rattle.sheet.specs.Lists.{from, flat}
use Rattle.sheet.specs.Bytes.{bytes_of}
use Rattle.sheet.specs.Sizes.{version}
use Rattle.sheet.specs.Rows.{Layout, slots, sheet_length, row_number, no_row, is_top}
use Rattle.answers.specs.Answers.{Answer, answer, done}
use Rattle.rules.specs.Check.{numbers_ok}
use Rattle.sheet.specs.declared.rows.Row.{Row}
use Rattle.sheet.specs.declared.rows.Slot.{Slot}

-- ---- the bytes that say a layout

abbrev pub row_bytes : Row → List ℕ
row_bytes w = bytes_of 2 w.start ++ (bytes_of 8 w.mask ++ (bytes_of 2 w.own ++ bytes_of 2 w.pair))

abbrev pub header_bytes : ℕ → ℕ → ℕ → ℕ → List ℕ
header_bytes kind bound n units = bytes_of 2 (sheet_length n) ++ (version ∷ kind ∷ bound ∷ n ∷ bytes_of 2 units)

abbrev pub sheet_bytes : Layout → List ℕ
sheet_bytes l =
    header_bytes l.kind l.bound l.parties l.units ++ flat (map (λ p. row_bytes (l.row p)) (slots l.parties))

-- ---- the layout that is built

-- the mask of some units, from a start on
abbrev pub mask_of : ℕ → List ℕ → ℕ
mask_of start [] = 0
mask_of start (u ∷ us) = 2 ^ (u - start) + mask_of start us

-- the row that writes these units
abbrev pub writing : ℕ → List ℕ → ℕ → ℕ → Row
writing start us own pair = record { start = start; mask = mask_of start us; own = own; pair = pair }

-- kind 2: round r uses the word at (r − 2) × A
abbrev pub word_of : ℕ → ℕ → ℕ
word_of a r = (r - 2) * a

-- own unit of party i in the word at w
abbrev pub own_unit : ℕ → ℕ → ℕ
own_unit w i = w + i - 1

-- pair unit of lower k in round r
abbrev pub pair_unit : ℕ → ℕ → ℕ → ℕ
pair_unit w r k = w + r + k - 1

-- each lower writes its own and pair unit only; the top its own and all r − 1 pair units
abbrev pub row2 : ℕ → Slot → Row
row2 a p =
    let r = p.round in
    let i = p.party in
    let w = word_of a r in
    cond (is_top p)
    (writing w (own_unit w r ∷ map (pair_unit w r) (from 1 (r - 1))) (own_unit w r) 0)
    (writing w (own_unit w i ∷ pair_unit w r i ∷ []) (own_unit w i) (pair_unit w r i))

-- kind 1: the table, in the sheet's order; each start is the lowest unit written
abbrev pub rows1 : List Row
rows1 =
    writing 2 (from 2 2) 2 3
    ∷ writing 3 (from 3 3) 4 0
    ∷ writing 14 (from 14 2) 14 15
    ∷ writing 18 (from 18 3) 20 19
    ∷ writing 15 (from 15 5) 16 0
    ∷ []

abbrev pub built_row : ℕ → ℕ → Slot → Row
built_row kind bound p = cond (eqb kind 1) (get_or rows1 (row_number p - 1) no_row) (row2 bound p)

-- kind 1: 1, 6 and 21 units for N = 1, 2 and 3; kind 2: (N − 1) × A, or 1 for N = 1
abbrev pub built_units : ℕ → ℕ → ℕ → ℕ
built_units kind bound n = cond (eqb n 1) 1 (cond (eqb kind 1) (cond (eqb n 2) 6 21) ((n - 1) * bound))

abbrev pub built : ℕ → ℕ → ℕ → Layout
built kind bound n =
    record { kind = kind; bound = bound; parties = n; units = built_units kind bound n; row = built_row kind bound }

abbrev pub built_sheet : ℕ → ℕ → ℕ → List ℕ
built_sheet kind bound n = sheet_bytes (built kind bound n)

-- ---- the call

-- kind 1: N = 1 always, N = 2 if B ≥ 3, N = 3 if B ≥ 5; kind 2: exactly if 2N − 1 ≤ A
abbrev pub given : ℕ → ℕ → ℕ → Bool
given kind bound n =
    cond (eqb kind 1) (eqb n 1 || ((eqb n 2 && leb 3 bound) || (eqb n 3 && leb 5 bound))) (leb (2 * n - 1) bound)

-- the answer, for an output of len bytes
abbrev pub build_answer : ℕ → ℕ → ℕ → ℕ → Answer
build_answer kind bound n len =
    cond (not (numbers_ok kind bound n)) (answer 3 0)
    (cond (not (given kind bound n)) (answer 12 0) (cond (ltb len (sheet_length n)) (answer 11 0) done))

-- the output afterwards: the sheet, and past it what was there; after a refusal all that was there
abbrev pub out_after : ℕ → ℕ → ℕ → List ℕ → List ℕ
out_after kind bound n out =
    cond (eqb (build_answer kind bound n (length out)).number 0) (built_sheet kind bound n ++ drop (sheet_length n) out) out
