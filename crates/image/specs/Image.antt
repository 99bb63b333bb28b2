-- A session in 3,418 bytes, big-endian and without gaps: sheet copy 1,898; proposals 16 × 4; marks 1,024; published 256; parties 16 × 11.
use Rattle.std.specs.Prelude.{ℕ, ◌*◌, ◌/◌, ◌%◌, ◌^◌, ◌<◌, ◌+◌, ◌-◌, ◌≡◌, List, ◌∷◌, ◌++◌, map, ◌&&◌, cond, leb, eqb, length, get_or, take, drop}
use Rattle.sheet.specs.Lists.{from, flat}
use Rattle.sheet.specs.Bytes.{num, bytes_of}
use Rattle.sheet.specs.Sizes.{most_parties, most_units, most_sheet}
use Rattle.state.specs.Sizes.{cells}
use Rattle.state.specs.Session.{no_party}
use Rattle.state.specs.Readings.{Readings}
use Rattle.state.specs.declared.kept.Party.{Party}
use Rattle.state.specs.declared.kept.Session.{Session}
use Rattle.image.specs.Sizes.{proposal_length, proposals_length, entry_length, proposals_at, marks_at, published_at, entries_at}

-- a party's 11: status 1, place 1, round 1, k 1, candidate 1, steps 2, decision 4
abbrev pub party_image : Party → List ℕ
party_image p =
    p.status ∷ p.place ∷ p.round ∷ p.k ∷ p.candidate ∷ bytes_of 2 p.steps ++ bytes_of 4 p.decision

abbrev pub proposals_bytes : List ℕ → List ℕ
proposals_bytes xs = flat (map (bytes_of proposal_length) xs)

abbrev pub parties_bytes : List Party → List ℕ
parties_bytes ps = flat (map party_image ps)

abbrev pub session_bytes : Session → List ℕ
session_bytes s = s.sheet ++ proposals_bytes s.proposals ++ s.marks ++ s.published ++ parties_bytes s.parties

-- the party that 11 bytes say
abbrev pub party_from : List ℕ → Party
party_from b =
    record {
      status = get_or b 0 0;
      place = get_or b 1 0;
      round = get_or b 2 0;
      k = get_or b 3 0;
      candidate = get_or b 4 0;
      steps = num b 5 2;
      decision = num b 7 4;
    }

-- the proposals of n parties, 4 bytes each
abbrev pub proposals_of : ℕ → List ℕ → List ℕ
proposals_of n b = map (λ j. num b (proposal_length * j) proposal_length) (from 0 n)

-- how many proposals so many bytes hold; 0, which is no number of parties, where they are more than 64 or no multiple of 4
abbrev pub proposal_count : ℕ → ℕ
proposal_count len = cond (leb len proposals_length && eqb (len % proposal_length) 0) (len / proposal_length) 0

-- the proposals of a slice: as many as it holds
abbrev pub proposals_in : List ℕ → List ℕ
proposals_in b = proposals_of (proposal_count (length b)) b

abbrev pub parties_from : List ℕ → List Party
parties_from b = map (λ j. party_from (drop (entry_length * j) b)) (from 0 most_parties)

-- the session that 3,418 bytes say
abbrev pub session_of : List ℕ → Session
session_of b =
    record {
      sheet = take most_sheet b;
      proposals = proposals_of most_parties (drop proposals_at b);
      marks = take most_units (drop marks_at b);
      published = take cells (drop published_at b);
      parties = parties_from (drop entries_at b);
    }

-- where party i's bytes stand: after 3,242 of the sheet, proposals, marks and published candidates, 11 for each party before it
abbrev pub party_place : ℕ → ℕ
party_place i = entries_at + entry_length * (i - 1)

-- what the bytes of a session say of each party
abbrev pub of_image : List ℕ → Readings
of_image b =
    record {
      status = λ i. get_or b (party_place i) 0;
      steps = λ i. num b (party_place i + 5) 2;
      decision = λ i. num b (party_place i + 7) 4;
    }

-- ---- sessions as the code holds them: numbers that fit their widths, lists as long as their arrays

abbrev pub Below : ℕ → List ℕ → Type 0
Below n xs = (k : ℕ) → k < length xs → get_or xs k 0 < n

pub record SizedParty (p : Party) : Type 0 where
  pub status_fits : p.status < 256
  pub place_fits : p.place < 256
  pub round_fits : p.round < 256
  pub k_fits : p.k < 256
  pub candidate_fits : p.candidate < 256
  pub steps_fit : p.steps < 2 ^ 16
  pub decision_fits : p.decision < 2 ^ 32

pub record Sized (s : Session) : Type 0 where
  pub sheet_length : length s.sheet ≡ most_sheet
  pub sheet_fits : Below 256 s.sheet
  pub proposals_length : length s.proposals ≡ most_parties
  pub proposals_fit : Below (2 ^ 32) s.proposals
  pub marks_length : length s.marks ≡ most_units
  pub marks_fit : Below 256 s.marks
  pub published_length : length s.published ≡ cells
  pub published_fits : Below 256 s.published
  pub parties_length : length s.parties ≡ most_parties
  pub parties_fit : (k : ℕ) → k < length s.parties → SizedParty (get_or s.parties k no_party)
