-- The text that the lister prints, in ASCII bytes, and how it is put into a buffer.
use Rattle.std.specs.Prelude.{ℕ, zero, suc, ◌+◌, ◌/◌, ◌%◌, ◌≡◌, List, [], ◌∷◌, ◌++◌, map, cond, length, take, drop, ltb, eqb}
use Rattle.sheet.specs.Lists.{from, flat}
use Rattle.record.specs.Record.{parties_in, status_after, steps_after, decision_after}

-- ---- words

abbrev pub newline : List ℕ
newline = 10 ∷ []

abbrev pub space : List ℕ
space = 32 ∷ []

-- `-`
abbrev pub dash : List ℕ
dash = 45 ∷ []

-- `parties `
abbrev pub parties_word : List ℕ
parties_word = 112 ∷ 97 ∷ 114 ∷ 116 ∷ 105 ∷ 101 ∷ 115 ∷ 32 ∷ []

-- ` entries `
abbrev pub entries_word : List ℕ
entries_word = 32 ∷ 101 ∷ 110 ∷ 116 ∷ 114 ∷ 105 ∷ 101 ∷ 115 ∷ 32 ∷ []

-- `refused `
abbrev pub refused_word : List ℕ
refused_word = 114 ∷ 101 ∷ 102 ∷ 117 ∷ 115 ∷ 101 ∷ 100 ∷ 32 ∷ []

-- ` at `
abbrev pub at_word : List ℕ
at_word = 32 ∷ 97 ∷ 116 ∷ 32 ∷ []

-- status: `idle` 0, `running` 1, `decided` 2, `stopped` 3
abbrev pub status_word : ℕ → List ℕ
status_word s =
    cond (eqb s 0) (105 ∷ 100 ∷ 108 ∷ 101 ∷ [])
    (cond (eqb s 1) (114 ∷ 117 ∷ 110 ∷ 110 ∷ 105 ∷ 110 ∷ 103 ∷ [])
    (cond (eqb s 2) (100 ∷ 101 ∷ 99 ∷ 105 ∷ 100 ∷ 101 ∷ 100 ∷ []) (115 ∷ 116 ∷ 111 ∷ 112 ∷ 112 ∷ 101 ∷ 100 ∷ [])))

-- ---- numbers

-- the decimal digits of n, which is below the fuel
abbrev pub digits : ℕ → ℕ → List ℕ
digits zero n = []
digits (suc fuel) n = cond (ltb n 10) ((48 + n) ∷ []) (digits fuel (n / 10) ++ ((48 + n % 10) ∷ []))

-- without leading zeros; 0 is `0`
unfoldable pub decimal : ℕ → List ℕ
decimal n = digits (suc n) n

-- ---- lines

-- a line of two words, each with a number behind it
unfoldable pub counts_line : List ℕ → ℕ → List ℕ → ℕ → List ℕ
counts_line v x w y = v ++ (decimal x ++ (w ++ (decimal y ++ newline)))

-- decision or `-`
abbrev pub decision_word : ℕ → ℕ → List ℕ
decision_word status decision = cond (eqb status 2) (decimal decision) dash

-- party, status, own steps, and decision or `-`
unfoldable pub party_line : ℕ → ℕ → ℕ → ℕ → List ℕ
party_line party status steps decision =
    (decimal party ++ space) ++ ((status_word status ++ space) ++ ((decimal steps ++ space) ++ (decision_word status decision ++ newline)))

-- ---- the whole text

-- the line of the party after k others
unfoldable pub record_line : List ℕ → ℕ → List ℕ
record_line bytes k = party_line (k + 1) (status_after bytes k) (steps_after bytes k) (decision_after bytes k)

-- the first line gives N and the schedule's length; then each party's
unfoldable pub listing : List ℕ → ℕ → List ℕ
listing bytes entries =
    let n = parties_in bytes in
    counts_line parties_word n entries_word entries ++ flat (map (record_line bytes) (from 0 n))

-- a refusal's number and position
unfoldable pub refused_text : ℕ → ℕ → List ℕ
refused_text number position = counts_line refused_word number at_word position

-- ---- in a buffer

-- o with a text at a place
abbrev pub placed : List ℕ → ℕ → List ℕ → List ℕ
placed o at text = take at o ++ (text ++ drop (at + length text) o)

-- a text was put at a place of o, which leaves o' and the place behind the text
pub record Put (o : List ℕ) (at : ℕ) (text o' : List ℕ) (next : ℕ) : Type 0 where
  pub place : next ≡ at + length text
  pub bytes : o' ≡ placed o at text
