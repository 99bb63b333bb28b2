-- The loop over a schedule holds, at place j, what the session has to which the first j bytes lead; the byte at j takes both one place further.
use Prim.Native.Nat.{ℕ, ◌+◌, ◌-◌, ◌%◌, ◌≤◌, ◌<◌}
use mathlib.Core.Path.{◌≡◌, refl, sym, ap, ◌∙◌, subst}
use mathlib.Core.List.{List, ◌++◌, map}
use mathlib.Core.Logic.{⊎_elim}
use native.Mathlib.Omega.{arith}
use lib.Dec.{T}
use lib.ListN.{length, get_or, take, set, replicate}
use lib.Seq.{take_all}
use Rattle.sheet.specs.Lists.{from, all}
use Rattle.sheet.specs.Rows.{layout_of, parties_of}
use Rattle.rules.specs.Words.{Rules6}
use Rattle.sheet.proofs.Folds.{lt_or_le}
use Rattle.state.specs.Session.{fresh_party, no_party, filled, fresh_session, party_of}
use Rattle.state.specs.Words.{PartyRule}
use Rattle.state.specs.declared.kept.Party.{Party}
use Rattle.state.specs.declared.kept.Session.{Session}
use Rattle.steps.specs.Step.{place_of, counted, party_acted, marks_after, published_after, stopped_party}
use Rattle.steps.specs.Run.{byte_ok, entry, ran}
use Rattle.steps.specs.Ready.{Ready}
use Rattle.steps.proofs.Reached.{Reached, here, reached_layout, reached_parties, reached_proposals, reached_well_formed}
use Rattle.steps.proofs.Turns.{step_none}
use Rattle.steps.proofs.Schedules.{all_taken, all_at, obeyed_more}
use Rattle.steps.proofs.Obeying.{Good, good, obeyed_reached, step_live, stop_over, Shows, shows_acted, shows_stopped}

pub record Going (sheet proposals schedule : List ℕ) (n : ℕ) (kept : List ℕ) (j : ℕ) (parties : List Party) (marks published : List ℕ) : Type 0 where
  pub rules : Rules6 sheet
  pub size : n ≡ parties_of sheet
  pub count : length proposals ≡ n
  pub good : T (all (byte_ok n) schedule)
  pub copy : kept ≡ filled 16 proposals
  pub inside : j ≤ length schedule
  pub shows : Shows (ran sheet proposals (take j schedule)) parties marks published

pub going_first : {sheet proposals schedule : List ℕ} {n : ℕ} (kept : List ℕ) (parties : List Party) → Rules6 sheet
    → n ≡ parties_of sheet → length proposals ≡ n → T (all (byte_ok n) schedule) → kept ≡ filled 16 proposals
    → parties ≡ map fresh_party (from 1 n) ++ replicate (16 - n) no_party
    → Going sheet proposals schedule n kept 0 parties (replicate 1024 0) (replicate 256 0)
going_first kept parties rules size count good copy e =
    record {
      rules = rules;
      size = size;
      count = count;
      good = good;
      copy = copy;
      inside = omega arith;
      shows = record {
        of_parties = e ∙ ap (λ (m : ℕ). map fresh_party (from 1 m) ++ replicate (16 - m) no_party) size;
        of_marks = refl;
        of_published = refl;
      };
    }

module _ {sheet proposals schedule : List ℕ} {n : ℕ} {kept : List ℕ} {j : ℕ} {parties : List Party} {marks published : List ℕ}
    (g : Going sheet proposals schedule n kept j parties marks published) where
  pub going_end : length schedule ≤ j → parties ≡ (ran sheet proposals schedule).parties
  going_end h = g.shows.of_parties ∙ ap (λ (bs : List ℕ). (ran sheet proposals bs).parties) (take_all j schedule h)

  module _ (more : j < length schedule) where
    s : Session
    s = ran sheet proposals (take j schedule)

    reached : Reached sheet proposals s
    unfolding s
    reached =
        obeyed_reached sheet proposals g.rules here (take j schedule)
        (subst (λ (m : ℕ). T (all (byte_ok m) (take j schedule))) g.size (all_taken (byte_ok n) schedule j g.good))

    few : n ≤ 16
    few = let most = g.rules.before.before.before.header.parties_most in let size = g.size in omega arith

    -- the byte at j, and its party
    abbrev b : ℕ
    b = get_or schedule j 0

    abbrev p : Party
    p = party_of parties (b % 128)

    pub going_byte : Good n b
    going_byte = good n b few (all_at (byte_ok n) schedule j more g.good)

    pub going_place : b % 128 - 1 < 16
    going_place = let least = going_byte.least in let most = going_byte.most in let size = few in omega arith

    same : p.status ≡ (party_of s.parties (b % 128)).status
    unfolding s
    same = ap (λ (ps : List Party). (party_of ps (b % 128)).status) g.shows.of_parties

    rule : PartyRule n published (b % 128) p
    unfolding s
    rule =
        let same = reached_parties sheet proposals g.rules reached ∙ sym g.size in
        let most = going_byte.most in
        let form = reached_well_formed sheet proposals g.rules (g.count ∙ g.size) reached in
        rw (g.shows.of_parties, g.shows.of_published, ← same) (form.parties (b % 128) going_byte.least (omega arith))

    pub going_ready : p.status < 2 → Ready sheet published (b % 128) p n
    going_ready live =
        record { rules = g.rules.before; parties = g.size; least = going_byte.least; most = going_byte.most; party = rule; live = live }

    module _ (after : List Party) (ms us : List ℕ) where
      on : Shows (entry s b) after ms us → Going sheet proposals schedule n kept (j + 1) after ms us
      unfolding s
      on S =
          record {
            rules = g.rules;
            size = g.size;
            count = g.count;
            good = g.good;
            copy = g.copy;
            inside = omega arith;
            shows =
                subst (λ (t : Session). Shows t after ms us) (sym (obeyed_more (fresh_session sheet proposals (parties_of sheet)) schedule j more)) S;
          }

      pub going_act : p.status < 2 → b < 128 → (q : Party) → after ≡ set parties (b % 128 - 1) q
          → q ≡ counted (party_acted (layout_of sheet) kept marks published (b % 128) p (place_of p.place))
          → ms ≡ marks_after (layout_of sheet) (b % 128) p marks (place_of p.place)
          → us ≡ published_after (b % 128) p published (place_of p.place) → Going sheet proposals schedule n kept (j + 1) after ms us
      unfolding s
      going_act live l q put eq em eu =
          let status = same in
          let step = going_byte.steps l s ∙ step_live s (b % 128) (omega arith) in
          on
          (rw step
          (shows_acted g.shows (b % 128) after ms us q put (layout_of sheet) kept (reached_layout sheet proposals g.rules reached)
          (reached_proposals sheet proposals g.rules reached ∙ sym g.copy) eq em eu))

      pub going_stop : 128 ≤ b → (q : Party) → after ≡ set parties (b % 128 - 1) q → q ≡ stopped_party p → ms ≡ marks → us ≡ published
          → Going sheet proposals schedule n kept (j + 1) after ms us
      unfolding s
      going_stop l q put eq em eu = on (rw (going_byte.stops l s) (shows_stopped g.shows (b % 128) after ms us q put eq em eu))

      -- who has decided or stopped stays as it is
      pub going_over : 2 ≤ p.status → after ≡ parties → ms ≡ marks → us ≡ published → Going sheet proposals schedule n kept (j + 1) after ms us
      unfolding s
      going_over over ep em eu =
          let S = g.shows in
          on
          (rw stays
          (record { of_parties = ep ∙ S.of_parties; of_marks = em ∙ S.of_marks; of_published = eu ∙ S.of_published }))
        where
          stays : entry s b ≡ s
          stays =
              let status = same in
              let most = rule.status in
              ⊎_elim
              (λ l. going_byte.steps l s ∙ step_none s (b % 128) going_byte.least (omega arith))
              (λ l. going_byte.stops l s ∙ stop_over s (b % 128) (omega arith) (omega arith))
              (lt_or_le b 128)
