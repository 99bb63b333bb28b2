-- A step and a stop set entries and lengthen no list, so every session that a schedule leads to is as long as the one it started from.
use Prim.Native.Nat.{ℕ, ◌-◌, ◌≤◌}
use mathlib.Core.Path.{◌≡◌, refl, ◌∙◌}
use mathlib.Core.List.{List, [], ◌∷◌}
use mathlib.Core.Bool.{Bool, true, false, ◌&&◌, cond}
use lib.Dec.{ltb, eqb}
use lib.ListN.{length, length-set}
use Rattle.sheet.specs.Lists.{within}
use Rattle.sheet.specs.Rows.{slot, writes}
use Rattle.state.specs.Session.{fresh_session, layout, party_of, cell}
use Rattle.state.specs.WellFormed.{well_formed}
use Rattle.state.specs.declared.kept.Party.{Party}
use Rattle.state.specs.declared.kept.Session.{Session}
use Rattle.state.proofs.Filled.{filled_length, fresh_length}
use Rattle.steps.specs.Step.{Place, announce, publish, write, read_top, read_own, read_pair, fetch, decide, done, place_of, counted, party_acted}
use Rattle.steps.specs.Step.{marks_after, published_after, acted, step, stopped_party, stop}
use Rattle.steps.specs.Calls.{unless_kept}
use Rattle.steps.specs.Run.{entry, obeyed}
use Rattle.steps.proofs.Stamps.{length_stamped}
use Rattle.steps.proofs.Changes.{step_either}
use Rattle.image.proofs.Inverse.{Full}

-- ---- one act

module _ (s : Session) (i : ℕ) where
  abbrev p : Party
  p = party_of s.parties i

  marks_length_lem : (at : Place) → length (marks_after (layout s) i p s.marks at) ≡ length s.marks
  unfolding marks_after
  marks_length_lem announce = refl
  marks_length_lem publish = refl
  marks_length_lem write = length_stamped (writes ((layout s).row (slot p.round i))) (cond (eqb i p.round) 2 1) 0 s.marks
  marks_length_lem read_top = refl
  marks_length_lem read_own = refl
  marks_length_lem read_pair = refl
  marks_length_lem fetch = refl
  marks_length_lem decide = refl
  marks_length_lem done = refl

  published_length_lem : (at : Place) → length (published_after i p s.published at) ≡ length s.published
  unfolding published_after
  published_length_lem announce = refl
  published_length_lem publish = length-set s.published (cell p.round i) p.candidate
  published_length_lem write = refl
  published_length_lem read_top = refl
  published_length_lem read_own = refl
  published_length_lem read_pair = refl
  published_length_lem fetch = refl
  published_length_lem decide = refl
  published_length_lem done = refl

  module _ (f : Full s) where
    full_acted : Full (acted s i)
    full_acted =
        let after = counted (party_acted (layout s) s.proposals s.marks s.published i p (place_of p.place)) in
        record {
          sheet_full = f.sheet_full;
          proposals_full = f.proposals_full;
          marks_full = marks_length_lem (place_of p.place) ∙ f.marks_full;
          published_full = published_length_lem (place_of p.place) ∙ f.published_full;
          parties_full = length-set s.parties (i - 1) after ∙ f.parties_full;
        }

    pub full_step : Full (step s i)
    full_step = step_either s i Full full_acted f

    pub full_stop : Full (stop s i)
    unfolding stop
    full_stop =
        record {
          sheet_full = f.sheet_full;
          proposals_full = f.proposals_full;
          marks_full = f.marks_full;
          published_full = f.published_full;
          parties_full = length-set s.parties (i - 1) (stopped_party p) ∙ f.parties_full;
        }

    -- done or not
    pub full_unless : (after : Session) → Full after → Full (unless_kept s i after)
    full_unless after g = by (well_formed s && within 1 (layout s).parties i)
      where
        by : (b : Bool) → Full (cond b after s)
        by true = g
        by false = f

-- ---- a schedule

pub full_obeyed : (s : Session) (bs : List ℕ) → Full s → Full (obeyed s bs)
full_obeyed s [] f = f
full_obeyed s (b ∷ bs) f = full_obeyed (entry s b) bs (by (ltb b 128))
  where
    by : (t : Bool) → Full (cond t (step s b) (stop s (b - 128)))
    by true = full_step s b f
    by false = full_stop s (b - 128) f

pub full_fresh : (sheet proposals : List ℕ) (n : ℕ) → length sheet ≤ 1898 → length proposals ≤ 16 → n ≤ 16 → Full (fresh_session sheet proposals n)
full_fresh sheet proposals n short few most =
    record {
      sheet_full = filled_length 1898 sheet short;
      proposals_full = filled_length 16 proposals few;
      marks_full = refl;
      published_full = refl;
      parties_full = fresh_length n most;
    }
