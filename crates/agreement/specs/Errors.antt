-- Errors that look right: the step rules with one rule changed, apart from the product's definitions. They show that the rules are needed.
use Rattle.std.specs.Prelude.{ℕ, ◌-◌, List, [], ◌∷◌, map, cond, take, set, eqb}
use Rattle.sheet.specs.Rows.{Layout, slot}
use Rattle.state.specs.Session.{layout, party_of}
use Rattle.state.specs.declared.kept.Party.{Party}
use Rattle.state.specs.declared.kept.Session.{Session}
use Rattle.steps.specs.Step.{Place, announce, publish, write, read_top, read_own, read_pair, fetch, decide, done, place_of, goes, next_k, lowers_win, counted, mark_at, party_acted, marks_after, published_after, is_live}

-- what an act makes of a party's own entries
abbrev pub Rule : Type 0
Rule = Layout → List ℕ → List ℕ → List ℕ → ℕ → Party → Place → Party

-- a step by a changed rule: what is written and published stays
unfoldable pub step_by : Rule → Session → ℕ → Session
step_by rule s i =
    let p = party_of s.parties i in
    let at = place_of p.place in
    cond (is_live p)
    (record {
      sheet = s.sheet;
      proposals = s.proposals;
      marks = marks_after (layout s) i p s.marks at;
      published = published_after i p s.published at;
      parties = set s.parties (i - 1) (counted (rule (layout s) s.proposals s.marks s.published i p at));
    }) s

-- steps of these parties, one after the other
abbrev pub steps_by : Rule → Session → List ℕ → Session
steps_by rule s [] = s
steps_by rule s (i ∷ is) = steps_by rule (step_by rule s i) is

-- what the first n parties have decided, and their candidates
abbrev pub decisions : ℕ → Session → List ℕ
decisions n s = map (λ (p : Party). p.decision) (take n s.parties)

abbrev pub candidates : ℕ → Session → List ℕ
candidates n s = map (λ (p : Party). p.candidate) (take n s.parties)

-- the pair unit is read before the own unit
unfoldable pub pair_first : Rule
pair_first l proposals marks published i p announce = party_acted l proposals marks published i p announce
pair_first l proposals marks published i p publish = party_acted l proposals marks published i p publish
pair_first l proposals marks published i p write = party_acted l proposals marks published i p write
pair_first l proposals marks published i p read_top = party_acted l proposals marks published i p read_top
pair_first l proposals marks published i p read_own =
    cond (eqb (mark_at marks (l.row (slot p.round p.k)).pair) 2) (goes p 5 p.round p.k p.candidate)
    (next_k l.parties p)
pair_first l proposals marks published i p read_pair =
    cond (eqb (mark_at marks (l.row (slot p.round p.k)).own) 0) (next_k l.parties p) (lowers_win l.parties i p)
pair_first l proposals marks published i p fetch = party_acted l proposals marks published i p fetch
pair_first l proposals marks published i p decide = party_acted l proposals marks published i p decide
pair_first l proposals marks published i p done = party_acted l proposals marks published i p done

-- the mark that remains is taken for the winner's
unfoldable pub last_mark : Rule
last_mark l proposals marks published i p announce = party_acted l proposals marks published i p announce
last_mark l proposals marks published i p publish = party_acted l proposals marks published i p publish
last_mark l proposals marks published i p write = party_acted l proposals marks published i p write
last_mark l proposals marks published i p read_top = party_acted l proposals marks published i p read_top
last_mark l proposals marks published i p read_own = party_acted l proposals marks published i p read_own
last_mark l proposals marks published i p read_pair =
    cond (eqb (mark_at marks (l.row (slot p.round p.k)).pair) 1) (lowers_win l.parties i p) (next_k l.parties p)
last_mark l proposals marks published i p fetch = party_acted l proposals marks published i p fetch
last_mark l proposals marks published i p decide = party_acted l proposals marks published i p decide
last_mark l proposals marks published i p done = party_acted l proposals marks published i p done

-- a lower that enters a round writes first
abbrev pub enter_late : Party → Party
enter_late p = cond (eqb p.place 1) (goes p 2 p.round 0 p.candidate) p

-- a lower publishes after its write: 2, then 1, then 3
unfoldable pub publish_late : Rule
publish_late l proposals marks published i p announce = enter_late (party_acted l proposals marks published i p announce)
publish_late l proposals marks published i p publish = goes p 3 p.round 0 p.candidate
publish_late l proposals marks published i p write =
    cond (eqb i p.round) (party_acted l proposals marks published i p write) (goes p 1 p.round 0 p.candidate)
publish_late l proposals marks published i p read_top = enter_late (party_acted l proposals marks published i p read_top)
publish_late l proposals marks published i p read_own = enter_late (party_acted l proposals marks published i p read_own)
publish_late l proposals marks published i p read_pair = enter_late (party_acted l proposals marks published i p read_pair)
publish_late l proposals marks published i p fetch = enter_late (party_acted l proposals marks published i p fetch)
publish_late l proposals marks published i p decide = party_acted l proposals marks published i p decide
publish_late l proposals marks published i p done = party_acted l proposals marks published i p done

-- a sheet of kind 2, A = 3, N = 2 whose top covers the lower's own unit: units 0 and 2 against 0, 1 and 2
abbrev pub covering_sheet : List ℕ
covering_sheet =
    0x00 ∷ 0x24 ∷ 0x01 ∷ 0x02 ∷ 0x03 ∷ 0x02 ∷ 0x00 ∷ 0x03
    ∷ 0x00 ∷ 0x00 ∷ 0x00 ∷ 0x00 ∷ 0x00 ∷ 0x00 ∷ 0x00 ∷ 0x00 ∷ 0x00 ∷ 0x05 ∷ 0x00 ∷ 0x00 ∷ 0x00 ∷ 0x02
    ∷ 0x00 ∷ 0x00 ∷ 0x00 ∷ 0x00 ∷ 0x00 ∷ 0x00 ∷ 0x00 ∷ 0x00 ∷ 0x00 ∷ 0x07 ∷ 0x00 ∷ 0x01 ∷ 0x00 ∷ 0x00 ∷ []
