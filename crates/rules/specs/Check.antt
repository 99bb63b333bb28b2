-- The check of a sheet: the first rule that fails, in the order 1, 2, 3, 4, 5 for all rows, 6.
use Rattle.std.specs.Prelude.{ℕ, List, Bool, not, ◌&&◌, cond, length, get_or, ltb, eqb}
use Rattle.answers.specs.Answers.{Answer, answer, done}
use Rattle.sheet.specs.Lists.{first_bad, within}
use Rattle.sheet.specs.Bytes.{num}
use Rattle.sheet.specs.Sizes.{header_length, length_at, version_at, version, most_bound, most_parties, most_units}
use Rattle.sheet.specs.Rows.{Layout, layout_of, slots, sheet_length, parties_of}
use Rattle.rules.specs.Rules.{row_rule, writer_rule}

-- kind 1 or 2, bound 1 to 64, N 1 to 16
abbrev pub numbers_ok : ℕ → ℕ → ℕ → Bool
numbers_ok kind bound n = within 1 2 kind && within 1 most_bound bound && within 1 most_parties n

-- and units 1 to 1,024
abbrev pub header_ok : Layout → Bool
header_ok l = numbers_ok l.kind l.bound l.parties && within 1 most_units l.units

-- the length field and the lent length
abbrev pub length_ok : List ℕ → Bool
length_ok s = eqb (num s length_at 2) (sheet_length (parties_of s)) && eqb (length s) (sheet_length (parties_of s))

-- refusal number n at the first failing row k, or what comes after where there is none
abbrev pub unless_row : ℕ → ℕ → Answer → Answer
unless_row n k after = cond (eqb k 0) after (answer n k)

-- refusals 1 to 5, the first of them that is due, or what comes after where none is
abbrev pub unless_unfit : List ℕ → Answer → Answer
unless_unfit s after =
    cond (ltb (length s) header_length) (answer 1 0)
    (cond (not (eqb (get_or s version_at 0) version)) (answer 2 0)
    (cond (not (header_ok (layout_of s))) (answer 3 0)
    (cond (not (length_ok s)) (answer 4 0) (unless_row 5 (first_bad (row_rule (layout_of s)) 1 (slots (layout_of s).parties)) after))))

-- the check: those, then 6 at the first row that breaks the writer rule
abbrev pub check_answer : List ℕ → Answer
check_answer s = unless_unfit s (unless_row 6 (first_bad (writer_rule (layout_of s)) 1 (slots (layout_of s).parties)) done)
