-- What a step does, place by place, and what a stop does.
use Rattle.std.specs.Prelude.{ℕ, zero, suc, ◌+◌, ◌-◌, List, [], ◌∷◌, Bool, cond, get_or, set, ltb, eqb}
use Rattle.sheet.specs.Rows.{Layout, slot, writes}
use Rattle.state.specs.Session.{layout, party_of, cell}
use Rattle.state.specs.Status as Status
use Rattle.state.specs.Mark as Mark
use Rattle.state.specs.declared.kept.Party.{Party}
use Rattle.state.specs.declared.kept.Session.{Session}

-- ---- places

pub data Place : Type 0 where
  announce publish write read_top read_own read_pair fetch decide done : Place

-- the place of a number from 0 to 8; any other counts as done
abbrev pub place_of : ℕ → Place
place_of zero = announce
place_of (suc zero) = publish
place_of (suc (suc zero)) = write
place_of (suc (suc (suc zero))) = read_top
place_of (suc (suc (suc (suc zero)))) = read_own
place_of (suc (suc (suc (suc (suc zero))))) = read_pair
place_of (suc (suc (suc (suc (suc (suc zero)))))) = fetch
place_of (suc (suc (suc (suc (suc (suc (suc zero))))))) = decide
place_of (suc (suc (suc (suc (suc (suc (suc (suc n)))))))) = done

-- the number of a place
abbrev pub place_number : Place → ℕ
place_number announce = 0
place_number publish = 1
place_number write = 2
place_number read_top = 3
place_number read_own = 4
place_number read_pair = 5
place_number fetch = 6
place_number decide = 7
place_number done = 8

-- ---- where a party goes

-- running, at a place, in a round, at a scan number, with a candidate
abbrev pub goes : Party → ℕ → ℕ → ℕ → ℕ → Party
goes p place r k c =
    record { status = Status.running; place = place; round = r; k = k; candidate = c; steps = p.steps; decision = p.decision }

-- round r is won, with candidate c: on to the next round, or after round n to 7
unfoldable pub won : ℕ → Party → ℕ → ℕ → Party
won n p r c = cond (ltb r n) (goes p 1 (r + 1) 0 c) (goes p 7 0 0 c)

-- next k: place 4 with k one more; after k = r − 1 the top wins, and the candidate becomes r
unfoldable pub next_k : ℕ → Party → Party
next_k n p = cond (ltb (p.k + 1) p.round) (goes p 4 p.round (p.k + 1) p.candidate) (won n p p.round p.round)

-- the lowers win: a lower keeps its candidate, a top goes to 6 first
unfoldable pub lowers_win : ℕ → ℕ → Party → Party
lowers_win n i p = cond (ltb i p.round) (won n p p.round p.candidate) (goes p 6 p.round p.k p.candidate)

-- each act is one own step
abbrev pub counted : Party → Party
counted p =
    record {
      status = p.status;
      place = p.place;
      round = p.round;
      k = p.k;
      candidate = p.candidate;
      steps = p.steps + 1;
      decision = p.decision;
    }

-- ---- the acts

-- the mark of a unit: empty 0, lower 1, higher 2
abbrev pub mark_at : List ℕ → ℕ → ℕ
mark_at marks u = get_or marks u 0

-- 0. Announce, then enter round 2 (party 1) or round i; if N = 1 go to 7
abbrev pub announced : ℕ → ℕ → Party → Party
announced n i p =
    cond (eqb n 1) (goes p 7 0 0 p.candidate)
    (cond (eqb i 1) (goes p 1 2 0 p.candidate) (goes p 2 i 0 p.candidate))

-- 1. Publish, and go to 2
abbrev pub after_publish : Party → Party
after_publish p = goes p 2 p.round 0 p.candidate

-- 2. Write. The top goes to 4 with k = 1, lowers to 3
abbrev pub after_write : ℕ → Party → Party
after_write i p = cond (eqb i p.round) (goes p 4 p.round 1 p.candidate) (goes p 3 p.round 0 p.candidate)

-- 3. The mark of the top's own unit. Empty: the lowers win. Marked: go to 4 with k = 1
abbrev pub after_top : ℕ → ℕ → ℕ → Party → Party
after_top n i mark p = cond (eqb mark 0) (lowers_win n i p) (goes p 4 p.round 1 p.candidate)

-- 4. The mark of the own unit of lower k. Empty: next k. Marked: go to 5
abbrev pub after_own : ℕ → ℕ → Party → Party
after_own n mark p = cond (eqb mark 0) (next_k n p) (goes p 5 p.round p.k p.candidate)

-- 5. The mark of the pair unit of lower k. Higher: the lowers win, k is the witness. Otherwise next k
abbrev pub after_pair : ℕ → ℕ → ℕ → Party → Party
after_pair n i mark p = cond (eqb mark 2) (lowers_win n i p) (next_k n p)

-- 6. Fetch: the candidate becomes the one published in this round by k
abbrev pub after_fetch : ℕ → ℕ → Party → Party
after_fetch n candidate p = won n p p.round candidate

-- 7. Read the candidate's proposal and decide it
abbrev pub decided : ℕ → Party → Party
decided proposal p =
    record { status = Status.decided; place = 8; round = 0; k = 0; candidate = p.candidate; steps = p.steps; decision = proposal }

-- ---- the two halves of an act: what it sees, and what it makes of the party from that alone

-- the one mark, published candidate or proposal that the act of p reads; 0 where it reads nothing
unfoldable pub seen : Layout → List ℕ → List ℕ → List ℕ → Party → Place → ℕ
seen l proposals marks published p announce = 0
seen l proposals marks published p publish = 0
seen l proposals marks published p write = 0
seen l proposals marks published p read_top = mark_at marks (l.row (slot p.round p.round)).own
seen l proposals marks published p read_own = mark_at marks (l.row (slot p.round p.k)).own
seen l proposals marks published p read_pair = mark_at marks (l.row (slot p.round p.k)).pair
seen l proposals marks published p fetch = get_or published (cell p.round p.k) 0
seen l proposals marks published p decide = get_or proposals (p.candidate - 1) 0
seen l proposals marks published p done = 0

-- what the act of party i of n, which is p, makes of its own entries, from the number that it sees
unfoldable pub party_after : ℕ → ℕ → ℕ → Party → Place → Party
party_after n i x p announce = announced n i p
party_after n i x p publish = after_publish p
party_after n i x p write = after_write i p
party_after n i x p read_top = after_top n i x p
party_after n i x p read_own = after_own n x p
party_after n i x p read_pair = after_pair n i x p
party_after n i x p fetch = after_fetch n x p
party_after n i x p decide = decided x p
party_after n i x p done = p

-- both together
abbrev pub party_acted : Layout → List ℕ → List ℕ → List ℕ → ℕ → Party → Place → Party
party_acted l proposals marks published i p at = party_after l.parties i (seen l proposals marks published p at) p at

-- ---- what an act stores

-- one mark in all units that a test picks, from unit u on
abbrev pub stamped : (ℕ → Bool) → ℕ → ℕ → List ℕ → List ℕ
stamped f m u [] = []
stamped f m u (x ∷ xs) = cond (f u) m x ∷ stamped f m (suc u) xs

-- the row's set: higher for the top, lower for others
abbrev pub written : Layout → ℕ → Party → List ℕ → List ℕ
written l i p marks = stamped (writes (l.row (slot p.round i))) (cond (eqb i p.round) Mark.higher Mark.lower) 0 marks

-- what an act makes of the marks: only place 2 writes
unfoldable pub marks_after : Layout → ℕ → Party → List ℕ → Place → List ℕ
marks_after l i p marks at = cond (eqb (place_number at) 2) (written l i p marks) marks

-- and of the published candidates: only place 1 stores one
unfoldable pub published_after : ℕ → Party → List ℕ → Place → List ℕ
published_after i p published at = cond (eqb (place_number at) 1) (set published (cell p.round i) p.candidate) published

-- ---- a step, a stop, and who is live

-- status 0 or 1
abbrev pub is_live : Party → Bool
is_live p = ltb p.status 2

abbrev pub acted : Session → ℕ → Session
acted s i =
    let p = party_of s.parties i in
    let at = place_of p.place in
    record {
      sheet = s.sheet;
      proposals = s.proposals;
      marks = marks_after (layout s) i p s.marks at;
      published = published_after i p s.published at;
      parties = set s.parties (i - 1) (counted (party_acted (layout s) s.proposals s.marks s.published i p at));
    }

-- a party that has decided or stopped changes nothing
unfoldable pub step : Session → ℕ → Session
step s i = cond (is_live (party_of s.parties i)) (acted s i) s

-- the place acted on, or 8 where nothing changes
abbrev pub place_acted : Session → ℕ → ℕ
place_acted s i = cond (is_live (party_of s.parties i)) (party_of s.parties i).place 8

-- a stop makes a party stopped unless it has decided
abbrev pub stopped_party : Party → Party
stopped_party p =
    record {
      status = cond (eqb p.status Status.decided) Status.decided Status.stopped;
      place = p.place;
      round = p.round;
      k = p.k;
      candidate = p.candidate;
      steps = p.steps;
      decision = p.decision;
    }

unfoldable pub stop : Session → ℕ → Session
stop s i =
    record {
      sheet = s.sheet;
      proposals = s.proposals;
      marks = s.marks;
      published = s.published;
      parties = set s.parties (i - 1) (stopped_party (party_of s.parties i));
    }
