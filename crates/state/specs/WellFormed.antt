-- When a session is well formed, computed clause by clause.
use Rattle.std.specs.Prelude.{ℕ, ◌+◌, ◌-◌, ◌/◌, ◌%◌, List, Bool, not, ◌&&◌, ◌||◌, cond, length, get_or, leb, ltb, eqb}
use Rattle.sheet.specs.Lists.{from, all, within}
use Rattle.sheet.specs.Sizes.{most_parties, most_units, most_sheet}
use Rattle.rules.specs.Check.{check_answer}
use Rattle.state.specs.Mark as Mark
use Rattle.state.specs.Status as Status
use Rattle.state.specs.Place as Place
use Rattle.state.specs.Sizes.{cells, most_steps}
use Rattle.state.specs.Session.{carried_of, layout, party_of, cell}
use Rattle.state.specs.declared.kept.Party.{Party}
use Rattle.state.specs.declared.kept.Session.{Session}

-- the carried sheet is accepted, and the copy past it is zero
abbrev pub carried_ok : List ℕ → Bool
carried_ok sheet =
    let carried = carried_of sheet in
    eqb (check_answer carried).number 0 && all (λ j. eqb (get_or sheet j 0) 0) (from (length carried) (most_sheet - length carried))

-- marks are 0 to 2; past the unit count they are zero
abbrev pub marks_ok : ℕ → List ℕ → Bool
marks_ok units marks = all (λ u. leb (get_or marks u 0) (cond (ltb u units) Mark.higher Mark.empty)) (from 0 most_units)

-- a round r from 2 to N and a lower k of it
abbrev pub is_lower : ℕ → ℕ → ℕ → Bool
is_lower n r k = leb 2 r && leb r n && ltb k r

-- published candidates are 0 to N; entries that are no round's and lower's are zero. Entry j is of round j / 16 + 1 and lower j % 16 + 1
abbrev pub published_ok : ℕ → List ℕ → Bool
published_ok n published = all (λ j. leb (get_or published j 0) (cond (is_lower n (j / most_parties + 1) (j % most_parties + 1)) n 0)) (from 0 cells)

-- past the N proposals they are zero
abbrev pub proposals_ok : ℕ → List ℕ → Bool
proposals_ok n proposals = all (λ j. eqb (get_or proposals j 0) 0) (from n (most_parties - n))

-- two tests say the same
abbrev pub same : Bool → Bool → Bool
same a b = cond a b (not b)

-- the round is zero except that at places 1 to 6 it is 2 to N and not below the party's number
abbrev pub round_ok : ℕ → ℕ → Party → Bool
round_ok n i p = cond (within Place.publish Place.fetch p.place) (within 2 n p.round && leb i p.round) (eqb p.round 0)

-- k is zero except that at places 4 to 6 it is 1 to r − 1
abbrev pub scan_ok : Party → Bool
scan_ok p = cond (within Place.read_own Place.fetch p.place) (leb 1 p.k && ltb p.k p.round) (eqb p.k 0)

-- places 1 and 3 are held only by lowers
abbrev pub lower_ok : ℕ → Party → Bool
lower_ok i p = not (eqb p.place Place.publish || eqb p.place Place.read_top) || ltb i p.round

-- place 6 only by the top with a published candidate of k
abbrev pub top_ok : List ℕ → ℕ → Party → Bool
top_ok published i p =
    not (eqb p.place Place.fetch) || (eqb i p.round && not (eqb (get_or published (cell p.round p.k) 0) 0))

-- idle exactly at place 0, unless stopped
abbrev pub idle_ok : Party → Bool
idle_ok p = eqb p.status Status.stopped || same (eqb p.status Status.idle) (eqb p.place Place.announce)

-- no own steps at place 0
abbrev pub unstarted_ok : Party → Bool
unstarted_ok p = not (eqb p.place Place.announce) || eqb p.steps 0

-- the decision is zero unless decided
abbrev pub decision_ok : Party → Bool
decision_ok p = eqb p.status Status.decided || eqb p.decision 0

-- decided exactly at place 8, and these
abbrev pub status_ok : Party → Bool
status_ok p = same (eqb p.status Status.decided) (eqb p.place Place.done) && idle_ok p && unstarted_ok p && decision_ok p

-- statuses are 0 to 3, places 0 to 8, candidates 1 to N, own steps at most 1,000
abbrev pub ranges_ok : ℕ → Party → Bool
ranges_ok n p = leb p.status Status.stopped && leb p.place Place.done && within 1 n p.candidate && leb p.steps most_steps

-- party i of N
abbrev pub party_ok : ℕ → List ℕ → ℕ → Party → Bool
party_ok n published i p = ranges_ok n p && round_ok n i p && scan_ok p && lower_ok i p && top_ok published i p && status_ok p

-- an entry past the parties is zero
abbrev pub unused_ok : Party → Bool
unused_ok p =
    eqb p.status 0 && eqb p.place 0 && eqb p.round 0 && eqb p.k 0 && eqb p.candidate 0 && eqb p.steps 0 && eqb p.decision 0

abbrev pub parties_ok : ℕ → List ℕ → List Party → Bool
parties_ok n published parties =
    all (λ i. cond (leb i n) (party_ok n published i (party_of parties i)) (unused_ok (party_of parties i))) (from 1 most_parties)

abbrev pub well_formed : Session → Bool
well_formed s =
    let n = (layout s).parties in
    carried_ok s.sheet && marks_ok (layout s).units s.marks && published_ok n s.published && proposals_ok n s.proposals
    && parties_ok n s.published s.parties
