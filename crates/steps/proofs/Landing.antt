-- Wherever an act leads, the party goes on to a place from 1 to 7 or decides: what holds of each of these holds after the act.
use Prim.Native.Nat.{ℕ, ◌+◌, ◌-◌, ◌≤◌, ◌<◌}
use mathlib.Core.Path.{◌≡◌, refl}
use mathlib.Core.List.{List}
use mathlib.Core.Logic.{◌≢◌, ◌⊎◌, ⊎_elim}
use mathlib.Core.Bool.{Bool, true, false, cond}
use native.Mathlib.Omega.{arith}
use lib.Dec.{ltb, eqb}
use lib.ListN.{length, get_or, set}
use lib.Seq.{get_or-set_same, get_or-set_other}
use Rattle.sheet.specs.Rows.{Layout, slot}
use Rattle.state.specs.Session.{no_party, party_of, cell}
use Rattle.state.specs.declared.kept.Party.{Party}
use Rattle.steps.specs.Step.{Place, announce, publish, write, read_top, read_own, read_pair, fetch, decide, done}
use Rattle.steps.specs.Step.{goes, won, next_k, lowers_win, mark_at, decided, seen, party_acted, party_after}
use Rattle.steps.proofs.Limits.{Done}
use Rattle.steps.proofs.Seen.{standing}

-- ---- one party's entries

pub party_set : (ps : List Party) (i : ℕ) (p : Party) → 1 ≤ i → i ≤ length ps → party_of (set ps (i - 1) p) i ≡ p
party_set ps i p least most = get_or-set_same ps (i - 1) p no_party (omega arith)

pub party_kept : (ps : List Party) (i j : ℕ) (p : Party) → 1 ≤ i → 1 ≤ j → j ≢ i → party_of (set ps (i - 1) p) j ≡ party_of ps j
party_kept ps i j p least least' n = get_or-set_other ps (i - 1) (j - 1) p no_party (λ e. n (omega arith))

-- ---- where an act leads

-- a place from 1 to 7, and round and k zero where it has none
pub record Placed (place r k : ℕ) : Type 0 where
  pub least : 1 ≤ place
  pub most : place ≤ 7
  pub no_round : 7 ≤ place → r ≡ 0
  pub no_scan : (place < 4) ⊎ (7 ≤ place) → k ≡ 0

pub record Landing (proposals : List ℕ) (p : Party) (P : Party → Type 0) : Type 0 where
  pub on : (place r k c : ℕ) → Placed place r k → P (goes p place r k c)
  pub end : P (decided (get_or proposals (p.candidate - 1) 0) p)

module _ {proposals : List ℕ} {p : Party} {P : Party → Type 0} (L : Landing proposals p P) where
  -- places with a round and no scan, and with both
  entering : (place r c : ℕ) → 1 ≤ place → place < 4 → P (goes p place r 0 c)
  entering place r c a b = L.on place r 0 c (record { least = a; most = omega arith; no_round = λ h. absurd (omega arith); no_scan = λ _. refl })

  scanning : (place r k c : ℕ) → 4 ≤ place → place < 7 → P (goes p place r k c)
  scanning place r k c a b =
      L.on place r k c (record {
        least = omega arith;
        most = omega arith;
        no_round = λ h. absurd (omega arith);
        no_scan = ⊎_elim (λ h. absurd (omega arith)) (λ h. absurd (omega arith));
      })

  deciding : (c : ℕ) → P (goes p 7 0 0 c)
  deciding c = L.on 7 0 0 c (record { least = omega arith; most = omega arith; no_round = λ _. refl; no_scan = λ _. refl })

  either : (b : Bool) (x y : Party) → P x → P y → P (cond b x y)
  either true x y u v = u
  either false x y u v = v

  won_lands : (n r c : ℕ) → P (won n p r c)
  unfolding won
  won_lands n r c = either (ltb r n) _ _ (entering 1 (r + 1) c (omega arith) (omega arith)) (deciding c)

  next_lands : (n : ℕ) → P (next_k n p)
  unfolding next_k
  next_lands n =
      either
      (ltb (p.k + 1) p.round)
      _
      _
      (scanning 4 p.round (p.k + 1) p.candidate (omega arith) (omega arith))
      (won_lands n p.round p.round)

  lowers_land : (n i : ℕ) → P (lowers_win n i p)
  unfolding lowers_win
  lowers_land n i =
      either
      (ltb i p.round)
      _
      _
      (won_lands n p.round p.candidate)
      (scanning 6 p.round p.k p.candidate (omega arith) (omega arith))

  pub lands : (l : Layout) (marks published : List ℕ) (i : ℕ) (at : Place) → (Done (standing at 0 0 0) → ⊥)
      → P (party_acted l proposals marks published i p at)
  unfolding seen party_after
  lands l marks published i announce n =
      either
      (eqb l.parties 1)
      _
      _
      (deciding p.candidate)
      (either (eqb i 1) _ _ (entering 1 2 p.candidate (omega arith) (omega arith)) (entering 2 i p.candidate (omega arith) (omega arith)))
  lands l marks published i publish n = entering 2 p.round p.candidate (omega arith) (omega arith)
  lands l marks published i write n =
      either
      (eqb i p.round)
      _
      _
      (scanning 4 p.round 1 p.candidate (omega arith) (omega arith))
      (entering 3 p.round p.candidate (omega arith) (omega arith))
  lands l marks published i read_top n =
      either
      (eqb (mark_at marks (l.row (slot p.round p.round)).own) 0)
      _
      _
      (lowers_land l.parties i)
      (scanning 4 p.round 1 p.candidate (omega arith) (omega arith))
  lands l marks published i read_own n =
      either
      (eqb (mark_at marks (l.row (slot p.round p.k)).own) 0)
      _
      _
      (next_lands l.parties)
      (scanning 5 p.round p.k p.candidate (omega arith) (omega arith))
  lands l marks published i read_pair n =
      either (eqb (mark_at marks (l.row (slot p.round p.k)).pair) 2) _ _ (lowers_land l.parties i) (next_lands l.parties)
  lands l marks published i fetch n = won_lands l.parties p.round (get_or published (cell p.round p.k) 0)
  lands l marks published i decide n = L.end
  lands l marks published i done n = absurd (n tt)
