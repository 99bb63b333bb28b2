-- The record is what the two tests choose where both hold, and it is as long as its head and its parties.
use Prim.Native.Nat.{ℕ, ◌≤◌}
use mathlib.Core.Path.{◌≡◌, refl}
use mathlib.Core.List.{List, ◌++◌}
use mathlib.Core.Bool.{◌&&◌, cond}
use lib.Dec.{leb}
use lib.ListN.{length, drop}
use borrow.Author.Tests.{le-leb}
use Rattle.sheet.proofs.InTurn.{length_up_to}
use Rattle.state.specs.declared.kept.Party.{Party}
use Rattle.record.specs.Record.{party_record, record_length, record_head, record_bytes}

module _ (n : ℕ) (ps : List Party) where
  -- where there are so many parties and the record fits, it is what the two tests choose
  pub recorded : (o out : List ℕ) → n ≤ 16 → record_length n ≤ length o
      → out ≡ cond (leb n 16 && leb (record_length n) (length o)) (record_bytes n ps ++ drop (record_length n) o) o
      → out ≡ record_bytes n ps ++ drop (record_length n) o
  recorded o out few room e = rw (le-leb n 16 few, le-leb (record_length n) (length o) room) at e

  pub length_record : n ≤ length ps → length (record_bytes n ps) ≡ record_length n
  length_record = length_up_to party_record 7 (λ _. refl) (record_head n) ps n
