-- A good byte is a step or a stop of one party, so a schedule of them leads on to reached sessions, and what a loop holds of one changes with it.
use Prim.Native.Nat.{ℕ, ◌+◌, ◌-◌, ◌%◌, ◌≤◌, ◌<◌}
use mathlib.Core.Path.{◌≡◌, sym, ap, ◌∙◌, subst}
use mathlib.Core.List.{List, [], ◌∷◌}
use mathlib.Core.Bool.{cond}
use mathlib.Core.Logic.{⊎_elim}
use native.Mathlib.Decide.{ℕ_discrete}
use native.Mathlib.Omega.{arith}
use borrow.Author.Tests.{lt-ltb, le-ltb, eq-eqb, ne_eqb}
use lib.Dec.{T, leb, eqb, leb→le}
use lib.ListN.{set}
use lib.Seq.{set-get_or}
use Rattle.sheet.specs.Lists.{within, all}
use Rattle.sheet.specs.Rows.{Layout, parties_of}
use Rattle.rules.specs.Words.{Rules6}
use Rattle.sheet.proofs.Folds.{and_left, and_right, or_cases, lt_or_le}
use Rattle.state.specs.Session.{no_party, layout, party_of}
use Rattle.state.specs.declared.kept.Party.{Party}
use Rattle.state.specs.declared.kept.Session.{Session}
use Rattle.steps.specs.Step.{place_of, counted, party_acted, marks_after, published_after, acted, step, stopped_party, stop}
use Rattle.steps.specs.Run.{byte_ok, entry, obeyed}
use Rattle.steps.proofs.Reached.{Reached, by_step, by_stop}

-- ---- a good byte

-- whose byte it is, and what it asks of a session
pub record Good (n b : ℕ) : Type 0 where
  pub byte : b < 256
  pub least : 1 ≤ b % 128
  pub most : b % 128 ≤ n
  pub steps : b < 128 → (s : Session) → entry s b ≡ step s (b % 128)
  pub stops : 128 ≤ b → (s : Session) → entry s b ≡ stop s (b % 128)

pub good : (n b : ℕ) → n ≤ 16 → T (byte_ok n b) → Good n b
good n b few t = ⊎_elim low high (or_cases (within 1 n b) (within 129 (128 + n) b) t)
  where
    entry_step : b < 128 → (s : Session) → entry s b ≡ step s (b % 128)
    entry_step l s = rw (lt-ltb b 128 l) (ap (step s) (let e : b ≡ b % 128 = omega arith in e))

    entry_stop : b < 256 → 128 ≤ b → (s : Session) → entry s b ≡ stop s (b % 128)
    entry_stop m l s = rw (le-ltb b 128 l) (ap (stop s) (let e : b - 128 ≡ b % 128 = omega arith in e))

    low : T (within 1 n b) → Good n b
    low w =
        let a = leb→le 1 b (and_left (leb 1 b) (leb b n) w) in
        let z = leb→le b n (and_right (leb 1 b) (leb b n) w) in
        record { byte = omega arith; least = omega arith; most = omega arith; steps = entry_step; stops = λ l. absurd (omega arith) }

    high : T (within 129 (128 + n) b) → Good n b
    high w =
        let a = leb→le 129 b (and_left (leb 129 b) (leb b (128 + n)) w) in
        let z = leb→le b (128 + n) (and_right (leb 129 b) (leb b (128 + n)) w) in
        record { byte = omega arith; least = omega arith; most = omega arith; steps = λ l. absurd (omega arith); stops = entry_stop (omega arith) }

-- ---- where a byte leads

module _ (sheet proposals : List ℕ) (rules : Rules6 sheet) where
  few : parties_of sheet ≤ 16
  few = rules.before.before.before.header.parties_most

  pub byte_good : (b : ℕ) → T (byte_ok (parties_of sheet) b) → Good (parties_of sheet) b
  byte_good b t = good (parties_of sheet) b few t

  pub entry_reached : {s : Session} → Reached sheet proposals s → (b : ℕ) → T (byte_ok (parties_of sheet) b) → Reached sheet proposals (entry s b)
  entry_reached {s} R b t =
      let g = byte_good b t in
      ⊎_elim
      (λ l. subst (Reached sheet proposals) (sym (g.steps l s)) (by_step (b % 128) g.least g.most R))
      (λ l. subst (Reached sheet proposals) (sym (g.stops l s)) (by_stop (b % 128) g.least g.most R))
      (lt_or_le b 128)

  pub obeyed_reached : {s : Session} → Reached sheet proposals s → (bs : List ℕ) → T (all (byte_ok (parties_of sheet)) bs)
      → Reached sheet proposals (obeyed s bs)
  obeyed_reached R [] t = R
  obeyed_reached {s} R (b ∷ bs) t =
      let here = byte_ok (parties_of sheet) b in
      let later = all (byte_ok (parties_of sheet)) bs in
      obeyed_reached {s = entry s b} (entry_reached R b (and_left here later t)) bs (and_right here later t)

-- ---- steps and stops by status

stopped_over : (q : Party) → 2 ≤ q.status → q.status ≤ 3 → stopped_party q ≡ q
stopped_over q l m =
    λ k.
    record {
      status = status k;
      place = q.place;
      round = q.round;
      k = q.k;
      candidate = q.candidate;
      steps = q.steps;
      decision = q.decision;
    }
  where
    by : Dec (q.status ≡ 2) → cond (eqb q.status 2) 2 3 ≡ q.status
    by (yes e) = rw (eq-eqb q.status 2 e) (sym e)
    by (no n) = rw (ne_eqb q.status 2 n) (omega arith)

    status : cond (eqb q.status 2) 2 3 ≡ q.status
    status = by (ℕ_discrete q.status 2)

module _ (s : Session) (i : ℕ) where
  abbrev p : Party
  p = party_of s.parties i

  pub step_live : p.status < 2 → step s i ≡ acted s i
  unfolding step
  step_live l = rw (lt-ltb p.status 2 l)

  pub stop_over : 2 ≤ p.status → p.status ≤ 3 → stop s i ≡ s
  unfolding stop
  stop_over l m =
      λ k. record { sheet = s.sheet; proposals = s.proposals; marks = s.marks; published = s.published; parties = parties k }
    where
      parties : set s.parties (i - 1) (stopped_party p) ≡ s.parties
      parties = ap (set s.parties (i - 1)) (stopped_over p l m) ∙ set-get_or s.parties (i - 1) no_party

-- ---- what a loop holds of a session

pub record Shows (s : Session) (parties : List Party) (marks published : List ℕ) : Type 0 where
  pub of_parties : parties ≡ s.parties
  pub of_marks : marks ≡ s.marks
  pub of_published : published ≡ s.published

module _ {s : Session} {parties : List Party} {marks published : List ℕ} (S : Shows s parties marks published) (i : ℕ) where
  abbrev held : Party
  held = party_of parties i

  module _ (after : List Party) (ms us : List ℕ) (q : Party) (put : after ≡ set parties (i - 1) q) where
    pub shows_acted : (l : Layout) (kept : List ℕ) → layout s ≡ l → s.proposals ≡ kept
        → q ≡ counted (party_acted l kept marks published i held (place_of held.place))
        → ms ≡ marks_after l i held marks (place_of held.place)
        → us ≡ published_after i held published (place_of held.place) → Shows (acted s i) after ms us
    shows_acted l kept el eo eq em eu =
        record {
          of_parties = put
              ∙ ap (set parties (i - 1)) eq
              ∙ (λ k.
              set (S.of_parties k) (i - 1)
              (counted (party_acted (sym el k) (sym eo k) (S.of_marks k) (S.of_published k) i (now k) (place_of (now k).place))));
          of_marks = em ∙ (λ k. marks_after (sym el k) i (now k) (S.of_marks k) (place_of (now k).place));
          of_published = eu ∙ (λ k. published_after i (now k) (S.of_published k) (place_of (now k).place));
        }
      where
        now : held ≡ party_of s.parties i
        now = ap (λ (ps : List Party). party_of ps i) S.of_parties

    pub shows_stopped : q ≡ stopped_party held → ms ≡ marks → us ≡ published → Shows (stop s i) after ms us
    unfolding stop
    shows_stopped eq em eu =
        record {
          of_parties = put
              ∙ ap (set parties (i - 1)) eq
              ∙ (λ k. set (S.of_parties k) (i - 1) (stopped_party (party_of (S.of_parties k) i)));
          of_marks = em ∙ S.of_marks;
          of_published = eu ∙ S.of_published;
        }
