-- Every number of a reached session fits its width: well-formedness bounds it, or it is of the sheet or the proposals, whose numbers fit.
use Prim.Native.Nat.{ℕ, suc, ◌+◌, ◌-◌, ◌/◌, ◌%◌, ◌^◌, ◌≤◌, ◌<◌}
use mathlib.Core.Path.{◌≡◌, subst, subst⁻¹}
use mathlib.Core.List.{List}
use mathlib.Core.Bool.{Bool, true, false, cond}
use mathlib.Core.Logic.{inl, inr, ⊎_elim}
use native.Mathlib.Omega.{arith}
use lib.Dec.{leb, leb→le}
use lib.ListN.{length, get_or, replicate}
use Rattle.sheet.specs.Rows.{parties_of}
use Rattle.sheet.proofs.Folds.{all_from, lt_or_le}
use Rattle.state.specs.Session.{no_party, filled, layout, party_of}
use Rattle.state.specs.Words.{PartyRule, WellFormed}
use Rattle.state.specs.WellFormed.{is_lower}
use Rattle.state.specs.declared.kept.Party.{Party}
use Rattle.state.specs.declared.kept.Session.{Session}
use Rattle.state.proofs.Filled.{replicate_at}
use Rattle.state.proofs.FormWords.{passed_says, well_formed_says}
use Rattle.steps.specs.Reach.{Reached}
use Rattle.steps.proofs.Reached.{Lengths, reached_kept, reached_parties, reached_well_formed, reached_lengths}
use Rattle.agreement.specs.Demand.{Opens}
use Rattle.agreement.proofs.Demands.{rules}
use Rattle.agreement.proofs.Parties.{Fits, fits}
use Rattle.image.specs.Image.{Below, SizedParty, Sized}
use Rattle.image.proofs.Bytes.{below_append}

-- filled with zeros
below_filled : (m size : ℕ) (xs : List ℕ) → 0 < m → Below m xs → Below m (filled size xs)
below_filled m size xs some low =
    let zeros = size - length xs in
    below_append m xs (replicate zeros 0) low (λ k h. subst⁻¹ (λ (x : ℕ). x < m) (replicate_at zeros k 0) some)

-- ---- a party

no_party_lem : SizedParty no_party
no_party_lem =
    record {
      status_fits = omega arith;
      place_fits = omega arith;
      round_fits = omega arith;
      k_fits = omega arith;
      candidate_fits = omega arith;
      steps_fit = omega arith;
      decision_fits = omega arith;
    }

module _ (n : ℕ) (few : n ≤ 16) (published : List ℕ) (i : ℕ) (p : Party) (rule : PartyRule n published i p) where
  round_fits_lem : p.round < 256
  round_fits_lem =
      ⊎_elim
      (λ z. let none = rule.round_none (inl (omega arith)) in omega arith)
      (λ l. ⊎_elim (λ m. let most = rule.round_most l (omega arith) in omega arith) (λ m. let none = rule.round_none (inr m) in omega arith)
      (lt_or_le p.place 7))
      (lt_or_le p.place 1)

  k_fits_lem : p.k < 256
  k_fits_lem =
      ⊎_elim
      (λ z. let none = rule.scan_none (inl z) in omega arith)
      (λ l. ⊎_elim (λ m. let most = rule.scan_most l (omega arith) in omega (arith, round_fits_lem)) (λ m. let none = rule.scan_none (inr m) in omega arith)
      (lt_or_le p.place 7))
      (lt_or_le p.place 4)

  party_sized : Fits p → SizedParty p
  party_sized f =
      record {
        status_fits = omega (arith, rule.status);
        place_fits = omega (arith, rule.place);
        round_fits = round_fits_lem;
        k_fits = k_fits_lem;
        candidate_fits = omega (arith, rule.candidate_most);
        steps_fit = f.steps;
        decision_fits = f.decision;
      }

-- ---- a session

module _ (sheet proposals : List ℕ) (o : Opens sheet proposals) (low : Below 256 sheet) (words : (j : ℕ) → get_or proposals j 0 < 2 ^ 32)
    {s : Session} (R : Reached sheet proposals s) where
  same : (layout s).parties ≡ parties_of sheet
  same = reached_parties sheet proposals (rules o) R

  few : (layout s).parties ≤ 16
  few = omega (arith, same, (rules o).before.before.before.header.parties_most)

  formed : WellFormed s
  formed = reached_well_formed sheet proposals (rules o) o.count R

  lengths : Lengths s
  lengths = reached_lengths sheet proposals (rules o) o.count R

  published_fits_lem : Below 256 s.published
  published_fits_lem k h =
      let n = (layout s).parties in
      let most : ℕ → ℕ = λ j. cond (is_lower n (j / 16 + 1) (j % 16 + 1)) n 0 in
      let tested = ((passed_says s).0 ((well_formed_says s).1 formed)).published in
      let under = leb→le (get_or s.published k 0) (most k)
      (all_from (λ j. leb (get_or s.published j 0) (most j)) 0 256 tested k (omega arith) (omega (arith, lengths.published))) in
      omega (arith, either (is_lower n (k / 16 + 1) (k % 16 + 1)))
    where
      either : (b : Bool) → cond b (layout s).parties 0 ≤ 16
      either true = few
      either false = omega arith

  party_fits : (i : ℕ) → 1 ≤ i → i ≤ 16 → SizedParty (party_of s.parties i)
  party_fits i least last = ⊎_elim past used (lt_or_le (layout s).parties i)
    where
      past : (layout s).parties < i → SizedParty (party_of s.parties i)
      past l = subst⁻¹ SizedParty (formed.parties_past i l last) no_party_lem

      used : i ≤ (layout s).parties → SizedParty (party_of s.parties i)
      used l =
          party_sized (layout s).parties few s.published i (party_of s.parties i) (formed.parties i least l)
          (fits sheet proposals o R i least (omega (arith, same)) words)

  pub reached_sized : Sized s
  reached_sized =
      let K = reached_kept sheet proposals (rules o) R in
      record {
        sheet_length = lengths.sheet;
        sheet_fits = subst⁻¹ (Below 256) K.copy (below_filled 256 1898 sheet (omega arith) low);
        proposals_length = lengths.proposals;
        proposals_fit = subst⁻¹ (Below (2 ^ 32)) K.given (below_filled (2 ^ 32) 16 proposals (omega arith) (λ k h. words k));
        marks_length = lengths.marks;
        marks_fit = λ u h. omega (arith, K.marks.most u (omega (arith, lengths.marks)));
        published_length = lengths.published;
        published_fits = published_fits_lem;
        parties_length = lengths.parties;
        parties_fit = λ k h.
            subst (λ (j : ℕ). SizedParty (get_or s.parties j no_party)) (let e : suc k - 1 ≡ k = omega arith in e)
            (party_fits (suc k) (omega arith) (omega (arith, lengths.parties)));
      }
