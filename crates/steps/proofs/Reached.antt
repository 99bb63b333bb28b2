-- Every session that steps and stops reach from an opening is kept, and so well formed, with the sheet and the proposals that it was opened with.
use Prim.Native.Nat.{ℕ, ◌≤◌}
use mathlib.Core.Path.{◌≡◌, refl, ◌∙◌, ap}
use mathlib.Core.List.{List}
use native.Mathlib.Omega.{arith}
use lib.ListN.{length, get_or, length-replicate}
use Rattle.sheet.specs.Rows.{layout_of, slot, parties_of}
use Rattle.rules.specs.Words.{Rules6}
use Rattle.state.specs.Session.{fresh_party, filled, fresh_session, carried, layout, party_of, cell}
use Rattle.state.specs.Words.{WellFormed}
use Rattle.state.specs.declared.kept.Party.{Party}
use Rattle.state.specs.declared.kept.Session.{Session}
use Rattle.state.proofs.Filled.{replicate_at, fresh_parties, fresh_length, fresh_party_lem, fresh_past}
use Rattle.state.proofs.Filled.{filled_length, sheet_most, carried_copy, carried_parties}
pub use Rattle.steps.specs.Reach.{Leads, here, by_step, by_stop, Reached}
use Rattle.steps.proofs.Views.{Opened}
use Rattle.steps.proofs.Invariant.{opened_invariant}
use Rattle.steps.proofs.Limits.{opened_limited}
use Rattle.steps.proofs.Seen.{stands_at, row?, lower?, where_zero, view}
use Rattle.steps.proofs.Orderly.{fresh_orderly}
use Rattle.steps.proofs.Kept.{Kept, step_kept, stop_kept}
use Rattle.steps.proofs.InForm.{kept_in_form}

-- the lists of a session are as long as they were declared
pub record Lengths (s : Session) : Type 0 where
  pub sheet : length s.sheet ≡ 1898
  pub proposals : length s.proposals ≡ 16
  pub marks : length s.marks ≡ 1024
  pub published : length s.published ≡ 256
  pub parties : length s.parties ≡ 16

-- ---- the opening

module _ (sheet proposals : List ℕ) (rules : Rules6 sheet) where
  module _ (s : Session) (copy : s.sheet ≡ filled 1898 sheet) (given : s.proposals ≡ filled 16 proposals)
      (parties : s.parties ≡ fresh_parties (parties_of sheet))
      (marks : length s.marks ≡ 1024) (cells : length s.published ≡ 256)
      (unmarked : (u : ℕ) → get_or s.marks u 0 ≡ 0) (unpublished : (j : ℕ) → get_or s.published j 0 ≡ 0) where
    party_fresh : (i : ℕ) → 1 ≤ i → i ≤ (layout s).parties → party_of s.parties i ≡ fresh_party i
    party_fresh i l h =
        ap (λ (x : List Party). party_of x i) parties
        ∙ fresh_party_lem (parties_of sheet) i l (omega (arith, carried_parties sheet rules s copy))

    opened : Opened (layout s).parties (view s)
    opened =
        record {
          own = λ r k. where_zero (row? (layout s).parties r k) _ (unmarked ((layout s).row (slot r k)).own);
          published = λ r k. where_zero (lower? (layout s).parties r k) _ (unpublished (cell r k));
          stands = λ i l h. ap stands_at (party_fresh i l h);
          steps = λ i l h. ap (λ (x : Party). x.steps) (party_fresh i l h);
        }

    opening_kept : Kept sheet proposals s
    opening_kept =
        record {
          copy = copy;
          given = given;
          marks = record { size = marks; most = λ u l. omega (arith, unmarked u); past = λ u l h. unmarked u };
          cells = record { size = cells; past = λ j l h. unpublished j };
          size = ap length parties ∙ fresh_length (parties_of sheet) rules.before.before.before.header.parties_most;
          past = λ i l h.
              ap (λ (x : List Party). party_of x i) parties
              ∙ fresh_past (parties_of sheet) i (omega (arith, carried_parties sheet rules s copy));
          orderly = λ i l h. rw (party_fresh i l h) (fresh_orderly s.proposals i);
          invariant = opened_invariant opened;
          limited = opened_limited opened;
        }

  fresh_kept : Kept sheet proposals (fresh_session sheet proposals (parties_of sheet))
  fresh_kept =
      opening_kept
      (fresh_session sheet proposals (parties_of sheet))
      refl
      refl
      refl
      (length-replicate {A = ℕ} 1024 0)
      (length-replicate {A = ℕ} 256 0)
      (λ u. replicate_at 1024 u 0)
      (λ j. replicate_at 256 j 0)

  -- ---- every session that is reached

  pub reached_kept : {s : Session} → Reached sheet proposals s → Kept sheet proposals s
  reached_kept here = fresh_kept
  reached_kept (by_step {t} i least most R) =
      let K = reached_kept R in
      step_kept rules t K i least (omega (arith, carried_parties sheet rules t K.copy))
  reached_kept (by_stop {t} i least most R) =
      let K = reached_kept R in
      stop_kept rules t K i least (omega (arith, carried_parties sheet rules t K.copy))

  -- the sheet and the proposals are those of the opening
  pub reached_carried : {s : Session} → Reached sheet proposals s → carried s ≡ sheet
  reached_carried {s} R = carried_copy sheet rules s (reached_kept R).copy

  pub reached_layout : {s : Session} → Reached sheet proposals s → layout s ≡ layout_of sheet
  reached_layout R = ap layout_of (reached_carried R)

  pub reached_parties : {s : Session} → Reached sheet proposals s → (layout s).parties ≡ parties_of sheet
  reached_parties {s} R = carried_parties sheet rules s (reached_kept R).copy

  pub reached_proposals : {s : Session} → Reached sheet proposals s → s.proposals ≡ filled 16 proposals
  reached_proposals R = (reached_kept R).given

  module _ (count : length proposals ≡ parties_of sheet) where
    pub reached_well_formed : {s : Session} → Reached sheet proposals s → WellFormed s
    reached_well_formed {s} R = kept_in_form rules s (reached_kept R) count

    pub reached_lengths : {s : Session} → Reached sheet proposals s → Lengths s
    reached_lengths R =
        let K = reached_kept R in
        record {
          sheet = ap length K.copy ∙ filled_length 1898 sheet (sheet_most sheet rules);
          proposals = ap length K.given ∙ filled_length 16 proposals (omega (arith, count, rules.before.before.before.header.parties_most));
          marks = K.marks.size;
          published = K.cells.size;
          parties = K.size;
        }
