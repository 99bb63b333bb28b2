-- Both sides compute: document 01's example, from its record and from its schedule, and what a schedule with a bad byte is listed as.
use Prim.Native.Nat.{ℕ, ◌-◌}
use mathlib.Core.Path.{◌≡◌, refl}
use mathlib.Core.List.{List, [], ◌∷◌, ◌++◌}
use borrow.Author.Tests.{ne_eqb}
use Rattle.sheet.specs.Lists.{first_bad}
use Rattle.steps.specs.Step.{won, next_k, lowers_win, seen, party_after, marks_after, published_after, step, stop}
use Rattle.steps.specs.Run.{byte_ok}
use Rattle.lister.specs.Text.{decimal, counts_line, party_line, record_line, listing, refused_text}
use Rattle.lister.specs.Listed.{listed}

-- `parties 2 entries 9`, `1 decided 7 600`, `2 running 2 -`
abbrev pub three_lines : List ℕ
three_lines =
    (112 ∷ 97 ∷ 114 ∷ 116 ∷ 105 ∷ 101 ∷ 115 ∷ 32 ∷ 50 ∷ 32 ∷ 101 ∷ 110 ∷ 116 ∷ 114 ∷ 105 ∷ 101 ∷ 115 ∷ 32 ∷ 57 ∷ 10 ∷ [])
    ++ (49 ∷ 32 ∷ 100 ∷ 101 ∷ 99 ∷ 105 ∷ 100 ∷ 101 ∷ 100 ∷ 32 ∷ 55 ∷ 32 ∷ 54 ∷ 48 ∷ 48 ∷ 10 ∷ [])
    ++ (50 ∷ 32 ∷ 114 ∷ 117 ∷ 110 ∷ 110 ∷ 105 ∷ 110 ∷ 103 ∷ 32 ∷ 50 ∷ 32 ∷ 45 ∷ 10 ∷ [])

-- from the record: status, own steps and decision of party 1, and of party 2
pub record_text : listing
    (0x00 ∷ 0x12 ∷ 0x01 ∷ 0x02 ∷ 0x02 ∷ 0x00 ∷ 0x07 ∷ 0x00 ∷ 0x00 ∷ 0x02 ∷ 0x58 ∷ 0x01 ∷ 0x00 ∷ 0x02 ∷ 0x00 ∷ 0x00 ∷ 0x00 ∷ 0x00 ∷ []) 9
    ≡ three_lines
unfolding decimal counts_line party_line record_line listing
record_text = refl

-- from the schedule
pub worked_text : listed (2 ∷ 2 ∷ 1 ∷ 1 ∷ 1 ∷ 1 ∷ 1 ∷ 1 ∷ 1 ∷ []) ≡ three_lines
unfolding decimal counts_line party_line record_line listing listed won next_k lowers_win seen party_after marks_after published_after step stop
worked_text = refl

-- a refused schedule: the number is 8 and the position the index of the first bad byte
pub refused_text_lem : (schedule : List ℕ) → (first_bad (byte_ok 2) 1 schedule ≡ 0 → ⊥) → listed schedule ≡ refused_text 8 (first_bad (byte_ok 2) 1 schedule - 1)
unfolding listed
refused_text_lem schedule h = rw (ne_eqb (first_bad (byte_ok 2) 1 schedule) 0 h) refl

-- `refused 8 at 2`
pub refused_line : listed (1 ∷ 130 ∷ 3 ∷ 1 ∷ []) ≡ 114 ∷ 101 ∷ 102 ∷ 117 ∷ 115 ∷ 101 ∷ 100 ∷ 32 ∷ 56 ∷ 32 ∷ 97 ∷ 116 ∷ 32 ∷ 50 ∷ 10 ∷ []
unfolding decimal counts_line refused_text listed
refused_line = refl
