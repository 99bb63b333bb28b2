-- A built sheet keeps every rule, since it says the layout that was built: the rules ask a layout for its numbers and for the rows of its slots only.
use Prim.Native.Nat.{ℕ}
use mathlib.Core.Path.{◌≡◌, refl}
use native.Mathlib.Nat.{le_refl}
use native.Mathlib.Omega.{arith}
use Rattle.sheet.specs.Rows.{Layout, layout_of, slot}
use Rattle.sheet.specs.Words.{IsSlot}
use Rattle.rules.specs.Words.{RowRule, WriterRule, HeaderRule, Every, Rules6}
use Rattle.sheet.specs.declared.rows.Slot.{Slot}
use Rattle.builder.specs.Build.{built, built_sheet}
use Rattle.builder.specs.Given.{Given}
use Rattle.builder.proofs.Built.{built_rows, built_writers, built_header}
use Rattle.builder.proofs.ReadBack.{length_sheet, reads_length, reads_units, reads_row}

-- l says what m says
pub record Same (l m : Layout) : Type 0 where
  pub kind : l.kind ≡ m.kind
  pub bound : l.bound ≡ m.bound
  pub parties : l.parties ≡ m.parties
  pub units : l.units ≡ m.units
  pub row : (p : Slot) → IsSlot m.parties p → l.row p ≡ m.row p

module _ (l m : Layout) (s : Same l m) where
  is_slot : (p : Slot) → IsSlot l.parties p → IsSlot m.parties p
  is_slot p h = rw s.parties at h

  pub same_header : HeaderRule m → HeaderRule l
  same_header h =
      record {
        kind = rw s.kind h.kind;
        bound_least = rw s.bound h.bound_least;
        bound_most = rw s.bound h.bound_most;
        parties_least = rw s.parties h.parties_least;
        parties_most = rw s.parties h.parties_most;
        units_least = rw s.units h.units_least;
        units_most = rw s.units h.units_most;
      }

  pub same_rows : Every RowRule m → Every RowRule l
  same_rows rows p h =
      let e = s.row p (is_slot p h) in
      let r = rows p (is_slot p h) in
      record {
        legal = rw (s.kind, s.bound, e) r.legal;
        below = λ u i. rw s.units (r.below u (rw e at i));
        own = rw e r.own;
        pair_of_lower = λ less. rw e (r.pair_of_lower less);
        pair_of_top = λ top. rw e (r.pair_of_top top);
      }

  pub same_writers : Every WriterRule m → Every WriterRule l
  same_writers writers p h =
      let e = s.row p (is_slot p h) in
      let r = writers p (is_slot p h) in
      let last = slot p.round p.round in
      let top = s.row last (is_slot last (record { first = h.first; last = h.last; lowest = omega (arith, h.first); top = le_refl p.round })) in
      record {
        own_alone = λ q k other i. r.own_alone q (is_slot q k) other (rw (s.row q (is_slot q k), e) at i);
        set_apart = λ q k ne u i j. r.set_apart q (is_slot q k) ne u (rw e at i) (rw (s.row q (is_slot q k)) at j);
        pair_at_top = λ less. rw (top, e) (r.pair_at_top less);
        pair_alone = λ less q k other third i. r.pair_alone less q (is_slot q k) other third (rw (s.row q (is_slot q k), e) at i);
      }

pub built_keeps : (kind bound n : ℕ) → Given kind bound n → Rules6 (built_sheet kind bound n)
built_keeps kind bound n g =
    record {
      before = record {
        before = record {
          before = record {
            before = record { before = record { whole = let e = length_sheet kind bound n g in omega arith }; version = refl };
            header = same_header l m s (built_header kind bound n g);
          };
          lengths = record { field = reads_length kind bound n g; lent = length_sheet kind bound n g };
        };
        rows = same_rows l m s (built_rows kind bound n g);
      };
      writers = same_writers l m s (built_writers kind bound n g);
    }
  where
    l : Layout
    l = layout_of (built_sheet kind bound n)

    m : Layout
    m = built kind bound n

    s : Same l m
    s = record { kind = refl; bound = refl; parties = refl; units = reads_units kind bound n g; row = reads_row kind bound n g }
