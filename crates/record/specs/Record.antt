-- The record of a run: its length, its head, and each party's bytes.
use Rattle.std.specs.Prelude.{ℕ, ◌+◌, ◌-◌, ◌*◌, List, [], ◌∷◌, ◌++◌, map, get_or, take}
use Rattle.sheet.specs.Lists.{flat}
use Rattle.sheet.specs.Bytes.{num, bytes_of}
use Rattle.state.specs.Readings.{Readings}
use Rattle.state.specs.declared.kept.Party.{Party}

-- ---- how long its parts are, and where its fields stand

abbrev pub head_length : ℕ
head_length = 4

abbrev pub parties_at : ℕ
parties_at = 3

-- the one version of a record
abbrev pub version : ℕ
version = 1

abbrev pub party_length : ℕ
party_length = 7

-- from the first of a party's bytes, its status
abbrev pub steps_at : ℕ
steps_at = 1

abbrev pub decision_at : ℕ
decision_at = 3

-- ---- a record made

-- each party in 7 bytes: status (1), own steps (2), decision (4, zero unless decided)
abbrev pub party_record : Party → List ℕ
party_record p = p.status ∷ (bytes_of 2 p.steps ++ bytes_of 4 p.decision)

abbrev pub record_length : ℕ → ℕ
record_length n = head_length + party_length * n

-- length (2), version 1 (1), N (1)
abbrev pub record_head : ℕ → List ℕ
record_head n = bytes_of 2 (record_length n) ++ (version ∷ n ∷ [])

-- then the parties
abbrev pub record_bytes : ℕ → List Party → List ℕ
record_bytes n parties = record_head n ++ flat (map party_record (take n parties))

-- ---- a record read

-- N
abbrev pub parties_in : List ℕ → ℕ
parties_in bytes = get_or bytes parties_at 0

-- where the bytes of the party after k others stand
abbrev pub place_after : ℕ → ℕ
place_after k = head_length + party_length * k

-- its status, own steps and decision
abbrev pub status_after : List ℕ → ℕ → ℕ
status_after bytes k = get_or bytes (place_after k) 0

abbrev pub steps_after : List ℕ → ℕ → ℕ
steps_after bytes k = num bytes (place_after k + steps_at) 2

abbrev pub decision_after : List ℕ → ℕ → ℕ
decision_after bytes k = num bytes (place_after k + decision_at) 4

-- what a record says of each party
abbrev pub of_record : List ℕ → Readings
of_record bytes =
    record {
      status = λ i. status_after bytes (i - 1);
      steps = λ i. steps_after bytes (i - 1);
      decision = λ i. decision_after bytes (i - 1);
    }
