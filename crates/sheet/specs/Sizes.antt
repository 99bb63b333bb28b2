-- How long a sheet and its parts are, where its fields stand, and how large its numbers can be.
use Rattle.std.specs.Prelude.{ℕ}

-- ---- the header: length (2), version (1), kind (1), bound (1), parties N (1), units (2)

abbrev pub header_length : ℕ
header_length = 8

abbrev pub length_at : ℕ
length_at = 0

abbrev pub version_at : ℕ
version_at = 2

abbrev pub kind_at : ℕ
kind_at = 3

abbrev pub bound_at : ℕ
bound_at = 4

abbrev pub parties_at : ℕ
parties_at = 5

abbrev pub units_at : ℕ
units_at = 6

-- the one version of a sheet
abbrev pub version : ℕ
version = 1

-- ---- a row: start (2), mask (8), own unit (2), pair unit (2)

abbrev pub row_length : ℕ
row_length = 14

abbrev pub start_at : ℕ
start_at = 0

abbrev pub mask_at : ℕ
mask_at = 2

abbrev pub own_at : ℕ
own_at = 10

abbrev pub pair_at : ℕ
pair_at = 12

-- ---- the largest sheet

abbrev pub most_bound : ℕ
most_bound = 64

abbrev pub most_parties : ℕ
most_parties = 16

abbrev pub most_units : ℕ
most_units = 1024

abbrev pub most_rows : ℕ
most_rows = 135

abbrev pub most_sheet : ℕ
most_sheet = 1898
