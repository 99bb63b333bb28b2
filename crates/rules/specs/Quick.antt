-- How the code tests the writer rule: within the round, and across rounds only where they do not ascend in memory.
-- No public promise cites this page; `proofs/Quick.antt` shows that the answer is the writer rule's.
use Rattle.std.specs.Prelude.{ℕ, zero, suc, ◌+◌, ◌-◌, max, min, length, Option, Some, None, option_map, List, [], ◌∷◌, Bool, true, not, ◌&&◌, ◌||◌, cond, leb, eqb}
use Rattle.std.specs.List.{list_all, position}
use Rattle.sheet.specs.Lists.{from, all}
use Rattle.sheet.specs.Sets.{apart}
use Rattle.sheet.specs.Length.{bit_length}
use Rattle.sheet.specs.Rows.{Layout, slot, slots, row_place, writes}
use Rattle.sheet.specs.Reader.{whole_rows, rows_on}
use Rattle.sheet.specs.Left.{rows_left}
use Rattle.sheet.specs.declared.rows.Row.{Row}
use Rattle.sheet.specs.declared.rows.Slot.{Slot}
use Rattle.sheet.specs.declared.rows.Rows.{Rows}
use Rattle.rules.specs.declared.writers.Edge.{Edge}

-- party i's row w beside party j's row v of the same round r: own unit not in v; for a lower, its pair unit in v exactly if v is the top's
abbrev pub beside : ℕ → ℕ → Row → ℕ → Row → Bool
beside r i w j v =
    eqb i j || (not (writes v w.own) && (eqb i r || cond (eqb j r) (writes v w.pair) (not (writes v w.pair))))

abbrev pub alone_in_round : Layout → Slot → Bool
alone_in_round l p = all (λ j. beside p.round p.party (l.row p) j (l.row (slot p.round j))) (from 1 p.round)

-- no unit of w in a row of another round than r
abbrev pub clear_of_rounds : Layout → ℕ → Row → Bool
clear_of_rounds l r w = all (λ q. eqb r q.round || apart w.start w.mask (l.row q).start (l.row q).mask) (slots l.parties)

abbrev pub quick_rule : Layout → Bool → Slot → Bool
quick_rule l ascending p = alone_in_round l p && (ascending || clear_of_rounds l p.round (l.row p))

-- ---- the pass that finds out whether rounds ascend: past what limit the round's rows must start, and where the rows so far end

abbrev pub edge : Bool → ℕ → ℕ → Edge
edge ok limit end = record { ok = ok; limit = limit; end = end }

abbrev pub edge_after : Edge → Bool → Row → Edge
edge_after e first w =
    let limit = cond first e.end e.limit in
    edge (e.ok && leb limit w.start) limit (max e.end (w.start + bit_length w.mask))

abbrev pub edge_over : Layout → List Slot → Edge → Edge
edge_over l [] e = e
edge_over l (p ∷ ps) e = edge_over l ps (edge_after e (eqb p.party 1) (l.row p))

abbrev pub ascending : Layout → Bool
ascending l = (edge_over l (slots l.parties) (edge true 0 0)).ok

-- ---- the same over rows that are read one after the other, each with its slot

-- the number of a row, or none for 0
abbrev pub number_or_none : ℕ → Option ℕ
number_or_none zero = None
number_or_none (suc k) = Some (suc k)

-- the place, counted from 1, of the first element that f does not hold of
abbrev pub first_not : {A : Type 0} → (A → Bool) → List A → Option ℕ
first_not f xs = option_map (λ k. k + 1) (position (λ x. not (f x)) xs)

-- p's row w beside the rows of its round
abbrev pub beside_rows : List (Slot × Row) → Slot → Row → Bool
beside_rows xs p w = list_all (λ x. beside p.round p.party w x.0.party x.1) xs

-- no unit of w in a row of another round than r
abbrev pub clear_of_rows : List (Slot × Row) → ℕ → Row → Bool
clear_of_rows xs r w = list_all (λ x. eqb r x.0.round || apart w.start w.mask x.1.start x.1.mask) xs

-- the rows of round r, as many as the sheet has
abbrev pub round_left : List ℕ → ℕ → List (Slot × Row)
round_left s r = rows_on s (row_place r 1) (slot r 1) (min r (whole_rows (length s) - row_place r 1))

-- p's row w, of a sheet with these rows
abbrev pub quick_row : Rows → Bool → Slot → Row → Bool
quick_row rows ascending p w =
    beside_rows (round_left rows.reader.sheet.now p.round) p w
    && (ascending || clear_of_rows (rows_left rows) p.round w)
