-- Kind 1: the table's rows pass the tests, which are computed with the least bound of their number of parties; a larger one allows no less.
use Prim.Native.Nat.{ℕ, ◌≤◌}
use mathlib.Core.Logic.{⊎_elim}
use native.Mathlib.Nat.{le_trans}
use native.Mathlib.Omega.{arith}
use lib.Dec.{T}
use Rattle.sheet.specs.Lists.{all}
use Rattle.sheet.specs.Rows.{slots}
use Rattle.rules.specs.Rules.{row_rule, writer_rule}
use Rattle.rules.specs.Check.{header_ok}
use Rattle.sheet.specs.Words.{SizeVarying}
use Rattle.rules.specs.Words.{RowRule, WriterRule, HeaderRule, Every}
use Rattle.builder.specs.Build.{built_row, built_units, built}
use Rattle.builder.specs.Given.{Given1}
use Rattle.sheet.proofs.Slots.{all_slots}
use Rattle.rules.proofs.RuleWords.{header_says, row_says, writer_says}

-- the sizes there are
sizes : (P : ℕ → Type 0) (bound n : ℕ) → Given1 bound n → P 1 → (3 ≤ bound → P 2) → (5 ≤ bound → P 3) → P n
sizes P bound n g one two three =
    ⊎_elim (λ e. rw e one) (⊎_elim (λ (e, wide). rw e (two wide)) (λ (e, wide). rw e (three wide))) g

pub units1 : (bound n : ℕ) → Given1 bound n → (1 ≤ built_units 1 bound n) × (built_units 1 bound n ≤ 1024)
units1 bound n g =
    sizes (λ m. (1 ≤ built_units 1 bound m) × (built_units 1 bound m ≤ 1024)) bound n g (omega arith) (λ _. omega arith) (λ _. omega arith)

-- tests that are passed with a least bound
rows_pass : (bound n least : ℕ) → least ≤ bound → T (header_ok (built 1 least n)) → T (all (row_rule (built 1 least n)) (slots n))
    → Every RowRule (built 1 bound n)
rows_pass bound n least wide header t p h =
    let r = (row_says (built 1 least n) ((header_says (built 1 least n)).0 header) p h).0 (all_slots (row_rule (built 1 least n)) n t p h) in
    record {
      legal = record { one = λ e. more (r.legal.one e); two = λ e. absurd (omega arith) };
      below = r.below;
      own = r.own;
      pair_of_lower = r.pair_of_lower;
      pair_of_top = r.pair_of_top;
    }
  where
    more : SizeVarying least (built_row 1 least p) → SizeVarying bound (built_row 1 bound p)
    more s = record { b = s.b; least = s.least; most = le_trans s.most wide; ones = s.ones; multiple = s.multiple }

pub rows1 : (bound n : ℕ) → 1 ≤ bound → Given1 bound n → Every RowRule (built 1 bound n)
rows1 bound n some g =
    sizes (λ m. Every RowRule (built 1 bound m)) bound n g (rows_pass bound 1 1 some tt tt) (λ wide. rows_pass bound 2 3 wide tt tt)
    (λ wide. rows_pass bound 3 5 wide tt tt)

pub writers1 : (bound n : ℕ) → HeaderRule (built 1 bound n) → Given1 bound n → Every WriterRule (built 1 bound n)
writers1 bound n header g = sizes Writers bound n g (pass 1 tt) (λ _. pass 2 tt) (λ _. pass 3 tt) header (rows1 bound n header.bound_least g)
  where
    Writers : ℕ → Type 0
    Writers m = HeaderRule (built 1 bound m) → Every RowRule (built 1 bound m) → Every WriterRule (built 1 bound m)

    pass : (m : ℕ) → T (all (writer_rule (built 1 bound m)) (slots m)) → Writers m
    pass m s header rows p h = (writer_says (built 1 bound m) header rows p h).0 (all_slots (writer_rule (built 1 bound m)) m s p h)
