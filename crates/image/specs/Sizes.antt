-- How long a session's bytes and their parts are, and where each part stands.
use Rattle.std.specs.Prelude.{ℕ}

abbrev pub proposal_length : ℕ
proposal_length = 4

-- 16 proposals
abbrev pub proposals_length : ℕ
proposals_length = 64

-- a party's entries
abbrev pub entry_length : ℕ
entry_length = 11

-- those of 16 parties
abbrev pub entries_length : ℕ
entries_length = 176

-- behind the sheet's copy
abbrev pub proposals_at : ℕ
proposals_at = 1898

abbrev pub marks_at : ℕ
marks_at = 1962

abbrev pub published_at : ℕ
published_at = 2986

abbrev pub entries_at : ℕ
entries_at = 3242

-- the whole session
abbrev pub session_length : ℕ
session_length = 3418
