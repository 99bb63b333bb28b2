-- Place by place, what a step does to a session is an act of its view; the sheet's rules enter only at the write.
use Prim.Native.Nat.{ℕ, ◌+◌, ◌-◌, ◌≤◌, ◌<◌}
use mathlib.Core.Path.{◌≡◌, refl, sym, ◌∙◌, ap, subst₂}
use mathlib.Core.Bool.{Bool, true, false, cond}
use mathlib.Core.List.{List}
use native.Mathlib.Omega.{arith}
use borrow.Author.Tests.{eqb-true, eqb-false}
use lib.Dec.{eqb}
use lib.ListN.{length, get_or, set}
use lib.Seq.{get_or-set_same, get_or-set_other}
use Rattle.sheet.specs.Rows.{slot}
use Rattle.sheet.specs.Words.{IsSlot}
use Rattle.rules.specs.Words.{Rules6}
use Rattle.state.specs.Session.{carried, layout, party_of, cell}
use Rattle.state.specs.declared.kept.Party.{Party}
use Rattle.state.specs.declared.kept.Session.{Session}
use Rattle.steps.specs.Step.{Place, announce, publish, write, read_top, read_own, read_pair, fetch, decide, done, place_of}
use Rattle.steps.specs.Step.{goes, next_k, lowers_win, counted, mark_at, seen, party_acted, party_after, marks_after, published_after}
use Rattle.steps.proofs.Views.{Standing, at_announce, at_publish, at_write, at_top, at_own, at_pair, at_fetch, Here, Same}
use Rattle.steps.proofs.Views.{Won, Move}
use Rattle.steps.proofs.Views.{Act, announces_alone, announces_first, announces_top, publishes, lower_writes, top_writes}
use Rattle.steps.proofs.Views.{top_empty, top_marked, own_empty, own_marked, pair_higher, pair_else, fetches, decides}
use Rattle.steps.proofs.Justified.{Justified}
use Rattle.steps.proofs.Invariant.{Invariant}
use Rattle.steps.proofs.Limits.{Done}
use Rattle.steps.proofs.Seen.{standing, stands_at, row?, lower?, LowerRow, where_is, where_yes, where_same, view}
use Rattle.steps.proofs.Landing.{party_set, party_kept, lands}
use Rattle.steps.proofs.Writing.{writing, lower_wrote, top_wrote}
use Rattle.steps.proofs.Ways.{won_seen, next_seen, lowers_seen, lower_won}

module _ (s : Session) (rules : Rules6 (carried s)) (marked : length s.marks ≡ 1024) (celled : length s.published ≡ 256)
    (seated : length s.parties ≡ 16) (i : ℕ) (least : 1 ≤ i) (most : i ≤ (layout s).parties) (I : Invariant (layout s).parties (view s)) where
  abbrev n : ℕ
  n = (layout s).parties

  few : n ≤ 16
  few = rules.before.before.before.header.parties_most

  abbrev p : Party
  p = party_of s.parties i

  abbrev next : Place → Party
  next at = party_acted (layout s) s.proposals s.marks s.published i p at

  -- the session that the act of a place leaves
  abbrev pub after : Place → Session
  after at =
      record {
        sheet = s.sheet;
        proposals = s.proposals;
        marks = marks_after (layout s) i p s.marks at;
        published = published_after i p s.published at;
        parties = set s.parties (i - 1) (counted (next at));
      }

  abbrev Acts : Place → Type 0
  Acts at = Act n (view s) (view (after at)) i (standing at p.round p.k p.candidate) (stands_at (next at))

  -- what holds where party i stands
  knows : (at : Place) → place_of p.place ≡ at → Justified n (view s) i (standing at p.round p.k p.candidate)
  knows at e = rw e at (I.justified i least most)

  unchanged : (at : Place) → marks_after (layout s) i p s.marks at ≡ s.marks → published_after i p s.published at ≡ s.published
      → Same (view s) (view (after at))
  unchanged at e f =
      record {
        own = λ r k. ap (λ (x : List ℕ). where_is (row? n r k) (mark_at x ((layout s).row (slot r k)).own)) e;
        pair = λ r k. ap (λ (x : List ℕ). where_is (lower? n r k) (mark_at x ((layout s).row (slot r k)).pair)) e;
        published = λ r k. ap (λ (x : List ℕ). where_is (lower? n r k) (get_or x (cell r k) 0)) f;
      }

  announce_acts : Acts announce
  unfolding seen party_after marks_after published_after
  announce_acts = by (eqb n 1) refl (eqb i 1) refl
    where
      same : Same (view s) (view (after announce))
      same = unchanged announce refl refl

      by : (a : Bool) → eqb n 1 ≡ a → (b : Bool) → eqb i 1 ≡ b → Act n (view s) (view (after announce)) i (at_announce p.candidate)
          (stands_at (cond a (goes p 7 0 0 p.candidate) (cond b (goes p 1 2 0 p.candidate) (goes p 2 i 0 p.candidate))))
      by true e b f = announces_alone (eqb-true n 1 e) same
      by false e true f = announces_first (omega (arith, eqb-false n 1 e)) (eqb-true i 1 f) same
      by false e false f = announces_top (omega (arith, eqb-false i 1 f)) same

  publish_acts : place_of p.place ≡ publish → Acts publish
  unfolding seen party_after marks_after published_after
  publish_acts e =
      publishes (record {
        own = λ r k. refl;
        pair = λ r k. refl;
        here = where_yes (lower? n p.round i) _ w
            ∙ get_or-set_same s.published (cell p.round i) p.candidate 0 (omega (arith, few, o, celled));
        other = λ r k h.
            where_same
            (lower? n r k)
            _
            _
            (λ v. get_or-set_other s.published (cell p.round i) (cell r k) p.candidate 0 (λ z. h (apart r k v z)));
      })
    where
      o : Justified n (view s) i (at_publish p.round p.candidate)
      o = knows publish e

      w : LowerRow n p.round i
      w = (record { first = omega (arith, o); last = o.fits; lowest = least; top = omega (arith, o) }, o.lower.below)

      -- two rows have two cells
      apart : (r k : ℕ) → LowerRow n r k → cell r k ≡ cell p.round i → Here r k p.round i
      apart r k v z = (omega (arith, few, o, v, z), omega (arith, few, o, v, z))

  write_acts : place_of p.place ≡ write → Acts write
  unfolding seen party_after marks_after published_after
  write_acts e = by (eqb i p.round) refl
    where
      o : Justified n (view s) i (at_write p.round p.candidate)
      o = knows write e

      w : IsSlot n (slot p.round i)
      w = record { first = o.least; last = o.fits; lowest = least; top = o.within }

      by : (b : Bool) → eqb i p.round ≡ b
          → Act n (view s) (view (writing s p.round i (cond b 2 1) (after write).parties)) i (at_write p.round p.candidate)
          (stands_at (cond b (goes p 4 p.round 1 p.candidate) (goes p 3 p.round 0 p.candidate)))
      by true g = let x = eqb-true i p.round g in top_writes x (top_wrote s rules marked p.round i w (after write).parties x)
      by false g =
          let x : i < p.round = omega (arith, o.within, eqb-false i p.round g) in
          lower_writes x (lower_wrote s rules marked p.round i w (after write).parties x)

  -- a read of an own unit
  own_read : (r k : ℕ) → IsSlot n (slot r k) → (view s).own r k ≡ mark_at s.marks ((layout s).row (slot r k)).own
  own_read r k w = where_yes (row? n r k) _ w

  top_acts : place_of p.place ≡ read_top → Acts read_top
  unfolding seen party_after marks_after published_after
  top_acts e = by (eqb mark 0) refl
    where
      o : Justified n (view s) i (at_top p.round p.candidate)
      o = knows read_top e

      mark : ℕ
      mark = mark_at s.marks ((layout s).row (slot p.round p.round)).own

      seen : (view s).own p.round p.round ≡ mark
      seen = own_read p.round p.round (record { first = omega (arith, o); last = o.fits; lowest = omega (arith, o); top = omega arith })

      same : Same (view s) (view (after read_top))
      same = unchanged read_top refl refl

      by : (b : Bool) → eqb mark 0 ≡ b → Act n (view s) (view (after read_top)) i (at_top p.round p.candidate)
          (stands_at (cond b (lowers_win n i p) (goes p 4 p.round 1 p.candidate)))
      by true g = top_empty (seen ∙ eqb-true mark 0 g) (lower_won o.lower.below (lowers_seen n i p o.fits (omega (arith, o)))) same
      by false g = top_marked {r = p.round} (omega (arith, seen, eqb-false mark 0 g)) same

  own_acts : place_of p.place ≡ read_own → Acts read_own
  unfolding seen party_after marks_after published_after
  own_acts e = by (eqb mark 0) refl
    where
      o : Justified n (view s) i (at_own p.round p.k p.candidate)
      o = knows read_own e

      mark : ℕ
      mark = mark_at s.marks ((layout s).row (slot p.round p.k)).own

      seen : (view s).own p.round p.k ≡ mark
      seen = own_read p.round p.k (record { first = omega (arith, o); last = o.fits; lowest = o.scan.least; top = omega (arith, o) })

      same : Same (view s) (view (after read_own))
      same = unchanged read_own refl refl

      by : (b : Bool) → eqb mark 0 ≡ b → Act n (view s) (view (after read_own)) i (at_own p.round p.k p.candidate)
          (stands_at (cond b (next_k n p) (goes p 5 p.round p.k p.candidate)))
      by true g = own_empty (seen ∙ eqb-true mark 0 g) (next_seen n p o.fits o.scan.most) same
      by false g = own_marked {r = p.round} {k = p.k} (omega (arith, seen, eqb-false mark 0 g)) same

  pair_acts : place_of p.place ≡ read_pair → Acts read_pair
  unfolding seen party_after marks_after published_after
  pair_acts e = by (eqb mark 2) refl
    where
      o : Justified n (view s) i (at_pair p.round p.k p.candidate)
      o = knows read_pair e

      mark : ℕ
      mark = mark_at s.marks ((layout s).row (slot p.round p.k)).pair

      seen : (view s).pair p.round p.k ≡ mark
      seen =
          where_yes
          (lower? n p.round p.k)
          _
          (record { first = omega (arith, o); last = o.fits; lowest = o.scan.least; top = omega (arith, o) }, o.scan.most)

      same : Same (view s) (view (after read_pair))
      same = unchanged read_pair refl refl

      by : (b : Bool) → eqb mark 2 ≡ b → Act n (view s) (view (after read_pair)) i (at_pair p.round p.k p.candidate)
          (stands_at (cond b (lowers_win n i p) (next_k n p)))
      by true g = pair_higher (seen ∙ eqb-true mark 2 g) (lowers_seen n i p o.fits o.scan.within) same
      by false g = pair_else (λ z. eqb-false mark 2 g (sym seen ∙ z)) (next_seen n p o.fits o.scan.most) same

  fetch_acts : place_of p.place ≡ fetch → Acts fetch
  unfolding seen party_after marks_after published_after
  fetch_acts e = fetches goes_on (unchanged fetch refl refl)
    where
      o : Justified n (view s) i (at_fetch p.round p.k p.candidate)
      o = knows fetch e

      seen : (view s).published p.round p.k ≡ get_or s.published (cell p.round p.k) 0
      seen =
          where_yes
          (lower? n p.round p.k)
          _
          (record { first = omega (arith, o); last = o.fits; lowest = o.least; top = omega (arith, o) }, o.most)

      goes_on : Won n p.round ((view s).published p.round p.k) (stands_at (next fetch))
      goes_on = rw seen (won_seen n p p.round (get_or s.published (cell p.round p.k) 0) o.fits)

  decide_acts : Acts decide
  unfolding seen party_after marks_after published_after
  decide_acts = decides (unchanged decide refl refl)

  acts : (at : Place) → place_of p.place ≡ at → (Done (standing at 0 0 0) → ⊥) → Acts at
  acts announce e d = announce_acts
  acts publish e d = publish_acts e
  acts write e d = write_acts e
  acts read_top e d = top_acts e
  acts read_own e d = own_acts e
  acts read_pair e d = pair_acts e
  acts fetch e d = fetch_acts e
  acts decide e d = decide_acts
  acts done e d = absurd (d tt)

  -- the entries of others stay, and one own step is counted
  pub moves : (at : Place) → place_of p.place ≡ at → (Done (standing at 0 0 0) → ⊥) → Move n (view s) (view (after at)) i
  moves at e d =
      record {
        act = subst₂ (λ (x y : Standing). Act n (view s) (view (after at)) i x y) from (ap stands_at (sym here)) (acts at e d);
        counted = ap (λ (x : Party). x.steps) here ∙ ap (λ (x : ℕ). x + 1) same;
        others = λ j l h. ap stands_at (party_kept s.parties i j new least l h);
        others_steps = λ j l h. ap (λ (x : Party). x.steps) (party_kept s.parties i j new least l h);
      }
    where
      new : Party
      new = counted (next at)

      from : standing at p.round p.k p.candidate ≡ stands_at p
      from = ap (λ (x : Place). standing x p.round p.k p.candidate) (sym e)

      here : party_of (set s.parties (i - 1) new) i ≡ new
      here = party_set s.parties i new least (omega (arith, few))

      same : (next at).steps ≡ p.steps
      same =
          lands
          {P = λ (q : Party). q.steps ≡ p.steps}
          (record { on = λ place r k c h. refl; end = refl })
          (layout s)
          s.marks
          s.published
          i
          at
          d
