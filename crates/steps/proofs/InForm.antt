-- A session that is kept is well formed: each clause is a field, or the justification of where a party stands.
use Prim.Native.Nat.{ℕ, zero, suc, ◌+◌, ◌≤◌, ◌<◌}
use mathlib.Core.Path.{◌≡◌, refl, ◌∙◌, ap}
use mathlib.Core.List.{List}
use mathlib.Core.Logic.{◌⊎◌, inl, inr}
use native.Mathlib.Omega.{arith}
use native.Mathlib.Nat.{mul-le-mul}
use lib.ListN.{length, get_or}
use Rattle.sheet.specs.Rows.{parties_of}
use Rattle.rules.specs.Words.{Rules6}
use Rattle.state.specs.Session.{carried, layout, party_of, cell}
use Rattle.state.specs.Words.{PartyRule, WellFormed}
use Rattle.state.specs.declared.kept.Party.{Party}
use Rattle.state.specs.declared.kept.Session.{Session}
use Rattle.state.proofs.Filled.{carried_copy, carried_rules, carried_parties, filled_past}
use Rattle.steps.specs.Step.{Place, announce, publish, write, read_top, read_own, read_pair, fetch, decide, done, place_of}
use Rattle.steps.proofs.Views.{View}
use Rattle.steps.proofs.Justified.{Justified}
use Rattle.steps.proofs.Invariant.{published_fits_lem, candidate_of, candidate_fits_lem}
use Rattle.steps.proofs.Limits.{limit}
use Rattle.steps.proofs.Seen.{standing, stands_at, lower?, LowerRow, where_yes, view}
use Rattle.steps.proofs.Kept.{Kept}

-- round and k in range, by place
record Ranges (n i place r k : ℕ) : Type 0 where
  round_least : 1 ≤ place → place ≤ 6 → 2 ≤ r
  round_most : 1 ≤ place → place ≤ 6 → r ≤ n
  round_own : 1 ≤ place → place ≤ 6 → i ≤ r
  scan_least : 4 ≤ place → place ≤ 6 → 1 ≤ k
  scan_most : 4 ≤ place → place ≤ 6 → k < r
  publisher : place ≡ 1 → i < r
  reader : place ≡ 3 → i < r
  top : place ≡ 6 → i ≡ r

ranges : (n : ℕ) (s : View) (i place r k c : ℕ) → 1 ≤ i → Justified n s i (standing (place_of place) r k c) → Ranges n i place r k
ranges n s i zero r k c least o = omega arith
ranges n s i (suc zero) r k c least o = omega arith
ranges n s i (suc (suc zero)) r k c least o = omega arith
ranges n s i (suc (suc (suc zero))) r k c least o = omega arith
ranges n s i (suc (suc (suc (suc zero)))) r k c least o = omega arith
ranges n s i (suc (suc (suc (suc (suc zero))))) r k c least o = omega arith
ranges n s i (suc (suc (suc (suc (suc (suc zero)))))) r k c least o = omega arith
ranges n s i (suc (suc (suc (suc (suc (suc (suc zero))))))) r k c least o = omega arith
ranges n s i (suc (suc (suc (suc (suc (suc (suc (suc x)))))))) r k c least o = omega arith

candidate_standing : (at : Place) (r k c : ℕ) → candidate_of (standing at r k c) ≡ c
candidate_standing announce r k c = refl
candidate_standing publish r k c = refl
candidate_standing write r k c = refl
candidate_standing read_top r k c = refl
candidate_standing read_own r k c = refl
candidate_standing read_pair r k c = refl
candidate_standing fetch r k c = refl
candidate_standing decide r k c = refl
candidate_standing done r k c = refl

module _ {sheet proposals : List ℕ} (rules : Rules6 sheet) (s : Session) (K : Kept sheet proposals s) where
  abbrev n : ℕ
  n = (layout s).parties

  sound : Rules6 (carried s)
  sound = carried_rules sheet rules s K.copy

  few : n ≤ 16
  few = sound.before.before.before.header.parties_most

  module _ (i : ℕ) (least : 1 ≤ i) (most : i ≤ n) where
    abbrev p : Party
    p = party_of s.parties i

    steps_most : p.steps ≤ 1000
    steps_most =
        let close : n + 1 ≤ 17 = omega (arith, few) in
        let square = mul-le-mul close close in
        omega (arith, limit K.invariant K.limited i least most)

    candidate_range : (1 ≤ p.candidate) × (p.candidate ≤ n)
    candidate_range =
        rw
        (candidate_standing (place_of p.place) p.round p.k p.candidate)
        at
        (candidate_fits_lem K.invariant i least most (stands_at p) (K.invariant.justified i least most))

    -- the witness has published
    witness : p.place ≡ 6 → get_or s.published (cell p.round p.k) 0 ≡ 0 → ⊥
    witness e z =
        let shown = K.invariant.memory.shown p.round p.k o.most o.marked in
        let seen = where_yes (lower? n p.round p.k) (get_or s.published (cell p.round p.k) 0) w in
        omega arith
      where
        o : Justified n (view s) i (standing fetch p.round p.k p.candidate)
        o = rw e at (K.invariant.justified i least most)

        w : LowerRow n p.round p.k
        w = (record { first = omega (arith, o); last = o.fits; lowest = o.least; top = omega (arith, o) }, o.most)

    party_rule : PartyRule n s.published i p
    party_rule =
        let O = K.orderly i least most in
        let R = ranges n (view s) i p.place p.round p.k p.candidate least (K.invariant.justified i least most) in
        record {
          status = O.status;
          place = O.place;
          candidate_least = candidate_range.0;
          candidate_most = candidate_range.1;
          steps = steps_most;
          round_least = R.round_least;
          round_most = R.round_most;
          round_own = R.round_own;
          round_none = O.round_none;
          scan_least = R.scan_least;
          scan_most = R.scan_most;
          scan_none = O.scan_none;
          lowers = lowers R;
          top = R.top;
          witness = witness;
          decided = O.decided;
          idle = O.idle;
          no_steps = O.no_steps;
          no_decision = O.no_decision;
        }
      where
        lowers : Ranges n i p.place p.round p.k → (p.place ≡ 1) ⊎ (p.place ≡ 3) → i < p.round
        lowers R (inl e) = R.publisher e
        lowers R (inr e) = R.reader e

  published_most : (r k : ℕ) → 2 ≤ r → r ≤ n → 1 ≤ k → k < r → get_or s.published (cell r k) 0 ≤ n
  published_most r k a b c d =
      let w : LowerRow n r k = (record { first = a; last = b; lowest = c; top = omega arith }, d) in
      omega (arith, published_fits_lem K.invariant r k b, where_yes (lower? n r k) (get_or s.published (cell r k) 0) w)

  pub kept_in_form : length proposals ≡ parties_of sheet → WellFormed s
  kept_in_form count =
      record {
        sheet = sound;
        marks = λ u l. K.marks.most u (omega (arith, sound.before.before.before.header.units_most));
        published = published_most;
        parties = party_rule;
        sheet_past = λ j l h.
            ap (λ (x : List ℕ). get_or x j 0) K.copy
            ∙ filled_past 1898 sheet j (omega (arith, ap length (carried_copy sheet rules s K.copy)));
        marks_past = K.marks.past;
        published_past = K.cells.past;
        proposals_past = λ j l h.
            ap (λ (x : List ℕ). get_or x j 0) K.given ∙ filled_past 16 proposals j (omega (arith, carried_parties sheet rules s K.copy, count));
        parties_past = K.past;
      }
