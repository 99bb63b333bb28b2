-- The session: what it keeps, and how it is filled at opening.
use Rattle.std.specs.Prelude.{ℕ, ◌+◌, ◌-◌, ◌*◌, List, ◌++◌, map, length, get_or, take, replicate}
use Rattle.sheet.specs.Lists.{from}
use Rattle.sheet.specs.Bytes.{num}
use Rattle.sheet.specs.Sizes.{length_at, most_parties, most_units, most_sheet}
use Rattle.sheet.specs.Rows.{Layout, layout_of}
use Rattle.state.specs.Mark as Mark
use Rattle.state.specs.Status as Status
use Rattle.state.specs.Place as Place
use Rattle.state.specs.Sizes.{cells}
use Rattle.state.specs.declared.kept.Party.{Party}
use Rattle.state.specs.declared.kept.Session.{Session}

-- party i as it starts: idle at place 0, its own number as candidate
abbrev pub fresh_party : ℕ → Party
fresh_party i = record { status = Status.idle; place = Place.announce; round = 0; k = 0; candidate = i; steps = 0; decision = 0 }

-- an unused entry
abbrev pub no_party : Party
no_party = fresh_party 0

-- a list filled with zeros to a size
abbrev pub filled : ℕ → List ℕ → List ℕ
filled size xs = xs ++ replicate (size - length xs) 0

-- a session filled whole: a copy of the sheet, the proposals, empty marks, no published candidate, n fresh parties; unused entries with zero
abbrev pub fresh_session : List ℕ → List ℕ → ℕ → Session
fresh_session sheet proposals n =
    record {
      sheet = filled most_sheet sheet;
      proposals = filled most_parties proposals;
      marks = replicate most_units Mark.empty;
      published = replicate cells 0;
      parties = map fresh_party (from 1 n) ++ replicate (most_parties - n) no_party;
    }

-- a session of its parts
abbrev pub of_parts : List ℕ → List ℕ → List ℕ → List ℕ → List Party → Session
of_parts sheet proposals marks published parties =
    record { sheet = sheet; proposals = proposals; marks = marks; published = published; parties = parties }

-- the sheet that a session carries: as many bytes of its copy as the length field says
abbrev pub carried_of : List ℕ → List ℕ
carried_of sheet = take (num sheet length_at 2) sheet

abbrev pub carried : Session → List ℕ
carried s = carried_of s.sheet

abbrev pub layout : Session → Layout
layout s = layout_of (carried s)

abbrev pub party_of : List Party → ℕ → Party
party_of ps i = get_or ps (i - 1) no_party

-- where the published candidate of round r and lower k stands
abbrev pub cell : ℕ → ℕ → ℕ
cell r k = most_parties * (r - 1) + (k - 1)
