-- What the rules see of a session: its marks at the rows' units, its cells, its parties; where there is no row there is nothing to see.
use Prim.Native.Nat.{ℕ, ◌≤◌, ◌<◌}
use mathlib.Core.Path.{◌≡◌, refl}
use native.Mathlib.Decide.{dec_le, dec_lt}
use lib.ListN.{get_or}
use Rattle.sheet.specs.Rows.{slot}
use Rattle.sheet.specs.Words.{IsSlot}
use Rattle.state.specs.Session.{layout, party_of, cell}
use Rattle.state.specs.declared.kept.Party.{Party}
use Rattle.state.specs.declared.kept.Session.{Session}
use Rattle.steps.specs.Step.{Place, announce, publish, write, read_top, read_own, read_pair, fetch, decide, done, place_of, mark_at}
use Rattle.steps.proofs.Views.{Standing, at_announce, at_publish, at_write, at_top, at_own, at_pair, at_fetch, at_decide, at_done, View}

-- ---- where a party stands

abbrev pub standing : Place → ℕ → ℕ → ℕ → Standing
standing announce r k c = at_announce c
standing publish r k c = at_publish r c
standing write r k c = at_write r c
standing read_top r k c = at_top r c
standing read_own r k c = at_own r k c
standing read_pair r k c = at_pair r k c
standing fetch r k c = at_fetch r k c
standing decide r k c = at_decide c
standing done r k c = at_done c

abbrev pub stands_at : Party → Standing
stands_at p = standing (place_of p.place) p.round p.k p.candidate

-- ---- the rows

pub row? : (n r k : ℕ) → Dec (IsSlot n (slot r k))
row? n r k = by (dec_le 2 r) (dec_le r n) (dec_le 1 k) (dec_le k r)
  where
    by : Dec (2 ≤ r) → Dec (r ≤ n) → Dec (1 ≤ k) → Dec (k ≤ r) → Dec (IsSlot n (slot r k))
    by (yes a) (yes b) (yes c) (yes d) = yes (record { first = a; last = b; lowest = c; top = d })
    by (yes a) (yes b) (yes c) (no d) = no (λ w. d w.top)
    by (yes a) (yes b) (no c) _ = no (λ w. c w.lowest)
    by (yes a) (no b) _ _ = no (λ w. b w.last)
    by (no a) _ _ _ = no (λ w. a w.first)

abbrev pub LowerRow : ℕ → ℕ → ℕ → Type 0
LowerRow n r k = IsSlot n (slot r k) × (k < r)

pub lower? : (n r k : ℕ) → Dec (LowerRow n r k)
lower? n r k = by (row? n r k) (dec_lt k r)
  where
    by : Dec (IsSlot n (slot r k)) → Dec (k < r) → Dec (LowerRow n r k)
    by (yes a) (yes b) = yes (a, b)
    by (yes a) (no b) = no (λ w. b w.1)
    by (no a) _ = no (λ w. a w.0)

-- x where A holds, elsewhere 0
abbrev pub where_is : {A : Type 0} → Dec A → ℕ → ℕ
where_is (yes a) x = x
where_is (no a) x = 0

pub where_yes : {A : Type 0} (d : Dec A) (x : ℕ) → A → where_is d x ≡ x
where_yes (yes b) x a = refl
where_yes (no b) x a = absurd (b a)

pub where_same : {A : Type 0} (d : Dec A) (x y : ℕ) → (A → x ≡ y) → where_is d x ≡ where_is d y
where_same (yes b) x y f = f b
where_same (no b) x y f = refl

pub where_zero : {A : Type 0} (d : Dec A) (x : ℕ) → x ≡ 0 → where_is d x ≡ 0
where_zero (yes a) x e = e
where_zero (no a) x e = refl

-- ---- the view

abbrev pub view : Session → View
view s =
    record {
      own = λ r k. where_is (row? (layout s).parties r k) (mark_at s.marks ((layout s).row (slot r k)).own);
      pair = λ r k. where_is (lower? (layout s).parties r k) (mark_at s.marks ((layout s).row (slot r k)).pair);
      published = λ r k. where_is (lower? (layout s).parties r k) (get_or s.published (cell r k) 0);
      stands = λ j. stands_at (party_of s.parties j);
      steps = λ j. (party_of s.parties j).steps;
    }
