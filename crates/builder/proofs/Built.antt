-- What is built keeps every rule of document 01, kind by kind; so each row's numbers fit their bytes.
use Prim.Native.Nat.{ℕ, ◌*◌, ◌-◌, ◌^◌, ◌≤◌, ◌<◌}
use mathlib.Core.Logic.{⊎_elim}
use native.Mathlib.Nat.{eq-or-lt_of_le}
use native.Mathlib.Omega.{arith}
use Rattle.sheet.specs.Rows.{Layout}
use Rattle.sheet.specs.Words.{IsSlot}
use Rattle.rules.specs.Words.{RowRule, WriterRule, HeaderRule, Every}
use Rattle.sheet.specs.declared.rows.Row.{Row}
use Rattle.sheet.specs.declared.rows.Slot.{Slot}
use Rattle.builder.specs.Build.{built_units, built}
use Rattle.builder.specs.Given.{Given1, Given}
use Rattle.rules.proofs.RuleWords.{mask_64}
use Rattle.builder.proofs.Kind1.{rows1, writers1, units1}
use Rattle.builder.proofs.Kind2.{rows2, writers2, units2}

-- ---- kind by kind

by_kind : (P : ℕ → Type 0) (kind bound n : ℕ) → Given kind bound n → (Given1 bound n → P 1) → (2 * n - 1 ≤ bound → P 2) → P kind
by_kind P kind bound n g one two = ⊎_elim (λ e. rw e (one (g.one e))) (λ e. rw e (two (g.two e))) g.numbers.one_or_two

pub built_header : (kind bound n : ℕ) → Given kind bound n → HeaderRule (built kind bound n)
built_header kind bound n g =
    let r = g.numbers in
    let units =
    by_kind (λ k. (1 ≤ built_units k bound n) × (built_units k bound n ≤ 1024)) kind bound n g (units1 bound n)
    (λ wide. units2 bound n wide r.parties_least r.parties_most r.bound_most) in
    record {
      kind = r.one_or_two;
      bound_least = r.bound_least;
      bound_most = r.bound_most;
      parties_least = r.parties_least;
      parties_most = r.parties_most;
      units_least = units.0;
      units_most = units.1;
    }

pub built_rows : (kind bound n : ℕ) → Given kind bound n → Every RowRule (built kind bound n)
built_rows kind bound n g =
    by_kind (λ k. Every RowRule (built k bound n)) kind bound n g (rows1 bound n g.numbers.bound_least) (rows2 bound n)

pub built_writers : (kind bound n : ℕ) → Given kind bound n → Every WriterRule (built kind bound n)
built_writers kind bound n g =
    by_kind (λ k. HeaderRule (built k bound n) → Every WriterRule (built k bound n)) kind bound n g (λ one header. writers1 bound n header one)
    (λ wide _. writers2 bound n wide) (built_header kind bound n g)

-- ---- the bytes of a row

pub record Fits (w : Row) : Type 0 where
  pub start : w.start < 65536
  pub mask : w.mask < 2 ^ 64
  pub own : w.own < 65536
  pub pair : w.pair < 65536

-- every unit is below 1,024, and a row starts at or below its own unit
pub row_fits : (l : Layout) (p : Slot) → HeaderRule l → IsSlot l.parties p → RowRule l p → Fits (l.row p)
row_fits l p header h r =
    let own = r.below (l.row p).own r.own in
    let start = r.own.0 in
    let most = header.units_most in
    record {
      start = omega arith;
      mask = mask_64 l header p r;
      own = omega arith;
      pair =
          ⊎_elim (λ e. omega (arith, r.pair_of_top e)) (λ less. omega (arith, r.below (l.row p).pair (r.pair_of_lower less))) (eq-or-lt_of_le h.top);
    }

pub built_fits : (kind bound n : ℕ) → Given kind bound n → (p : Slot) → IsSlot n p → Fits ((built kind bound n).row p)
built_fits kind bound n g p h = row_fits (built kind bound n) p (built_header kind bound n g) h (built_rows kind bound n g p h)
