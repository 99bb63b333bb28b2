-- A row's own and pair units are in its set, so against other rounds the set decides, and where rounds ascend no set meets another round's.
use Prim.Native.Nat.{ℕ, ◌+◌, ◌≤◌, ◌<◌}
use mathlib.Core.Path.{◌≡◌, refl, sym, ◌∙◌, subst}
use mathlib.Core.Logic.{◌↔◌, ⊎_elim}
use mathlib.Core.List.{List}
use mathlib.Core.Bool.{Bool}
use native.Mathlib.Omega.{arith}
use lib.Dec.{T}
use Rattle.sheet.specs.Lists.{first_bad}
use Rattle.sheet.specs.Rows.{Layout, layout_of, slot, slots}
use Rattle.rules.specs.Rules.{writer_rule}
use Rattle.rules.specs.Quick.{alone_in_round, quick_rule, ascending}
use Rattle.sheet.specs.Words.{In, IsSlot, Other, Lower}
use Rattle.rules.specs.Words.{RowRule, WriterRule, HeaderRule, Every, Rules5}
use Rattle.sheet.specs.declared.rows.Slot.{Slot}
use Rattle.sheet.proofs.Folds.{either, same_test, lt_or_le}
use Rattle.sheet.proofs.FirstBad.{first_slots_same}
use Rattle.sheet.proofs.TestWords.{Tells, tells, decide, eq_words, and_words, or_words, cond_words, not_words, range_words}
use Rattle.rules.proofs.RuleWords.{Clear, in_words, mask_64, set_words, writer_says}
use Rattle.rules.proofs.Ascending.{ascending_order}

-- row p beside the row of the same round's party j
abbrev Beside : Layout → Slot → ℕ → Type 0
Beside l p j =
    let v = l.row (slot p.round j) in
    (p.party ≡ j → ⊥) → (In v (l.row p).own → ⊥)
    × ((p.party ≡ p.round → ⊥) → (j ≡ p.round → In v (l.row p).pair) × ((j ≡ p.round → ⊥) → In v (l.row p).pair → ⊥))

abbrev Alone : Layout → Slot → Type 0
Alone l p = (j : ℕ) → 1 ≤ j → j < 1 + p.round → Beside l p j

alone_words : (l : Layout) (p : Slot) → Tells (alone_in_round l p) (Alone l p)
alone_words l p =
    range_words 1 p.round (λ j.
    let own = in_words (l.row (slot p.round j)) (l.row p).own in
    let pair = in_words (l.row (slot p.round j)) (l.row p).pair in
    or_words (eq_words p.party j)
    (and_words (not_words own) (λ _. or_words (eq_words p.party p.round) (cond_words (eq_words j p.round) pair (not_words pair)))))

module _ (l : Layout) (h : HeaderRule l) (rows : Every RowRule l) (a : Bool) (asc : T a → T (ascending l)) (p : Slot)
    (s : IsSlot l.parties p) where
  -- rounds ascend, so sets of different rounds have no unit in common
  ascending_clear : T a → Clear l p
  ascending_clear t q o n u x y =
      let order = ascending_order l h.parties_least (λ q o. mask_64 l h q (rows q o)) (asc t) in
      ⊎_elim
      (λ b. let z = order p q s o b u u x y in omega arith)
      (λ b. let z = order q p o s (omega arith) u u y x in omega arith)
      (lt_or_le p.round q.round)

  quick_says : T (quick_rule l a p) ↔ WriterRule l p
  quick_says =
      let parts = and_words (alone_words l p) (λ _. or_words (tells a (λ t. t, λ t. t)) (set_words l p (mask_64 l h p (rows p s)))) in (
        λ t. let (alone, clear) = parts.says.0 t in words alone (⊎_elim ascending_clear clear (either a)),
        λ w. parts.says.1 (alone w, λ _. w.set_apart),
      )
    where
      words : Alone l p → Clear l p → WriterRule l p
      words alone clear =
          record {
            own_alone = λ q o n x.
                ⊎_elim
                (λ e. (at q o e (λ f. n (e, f))).0 (there q e x))
                (λ e. clear q o e (l.row p).own (rows p s).own x)
                (decide (eq_words p.round q.round));
            set_apart = clear;
            pair_at_top = λ d. ((alone p.round (let b = s.first in omega arith) (omega arith) (λ e. omega arith)).1 (λ e. omega arith)).0 refl;
            pair_alone = λ d q o n m x.
                ⊎_elim
                (λ e. ((at q o e (λ f. n (e, f))).1 (λ f. omega arith)).1 (λ f. m (e, f ∙ e)) (there q e x))
                (λ e. clear q o e (l.row p).pair ((rows p s).pair_of_lower d) x)
                (decide (eq_words p.round q.round));
          }
        where
          at : (q : Slot) → IsSlot l.parties q → p.round ≡ q.round → Beside l p q.party
          at q o e = let b = o.top in alone q.party o.lowest (omega arith)

          there : {u : ℕ} (q : Slot) → p.round ≡ q.round → In (l.row q) u → In (l.row (slot p.round q.party)) u
          there {u} q e x = subst (λ (r : ℕ). In (l.row (slot r q.party)) u) (sym e) x

      alone : WriterRule l p → Alone l p
      alone w j low high n =
          let q = slot p.round j in
          let o : IsSlot l.parties q = record { first = s.first; last = s.last; lowest = low; top = omega arith } in
          let other : Other p q = λ e. n e.1 in (
            w.own_alone q o other,
            λ d.
                let lower : Lower p = omega (arith, s.top) in (
                  λ e. subst (λ (i : ℕ). In (l.row (slot p.round i)) (l.row p).pair) (sym e) (w.pair_at_top lower),
                  λ f. w.pair_alone lower q o other (λ e. f e.1),
                ),
          )

  quick_rule_lem : quick_rule l a p ≡ writer_rule l p
  quick_rule_lem =
      let says = writer_says l h rows p s in
      same_test (quick_rule l a p) (writer_rule l p) (λ t. says.1 (quick_says.0 t)) (λ t. quick_says.1 (says.0 t))

pub quick_same : (s : List ℕ) → Rules5 s → (a : Bool) → (T a → T (ascending (layout_of s)))
    → first_bad (quick_rule (layout_of s) a) 1 (slots (layout_of s).parties) ≡ first_bad (writer_rule (layout_of s)) 1 (slots (layout_of s).parties)
quick_same s r a asc =
    first_slots_same (quick_rule (layout_of s) a) (writer_rule (layout_of s)) 1 (layout_of s).parties
    (quick_rule_lem (layout_of s) r.before.before.header r.rows a asc)
