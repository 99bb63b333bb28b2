-- When a session is well formed, as document 01 says it: a record of named facts.
use Rattle.std.specs.Prelude.{ℕ, ◌≤◌, ◌<◌, ◌≡◌, List, ◌⊎◌, ◌↔◌, length, get_or}
use Rattle.sheet.specs.Sizes.{most_parties, most_units, most_sheet}
use Rattle.rules.specs.Words.{Rules6}
use Rattle.state.specs.Sizes.{cells}
use Rattle.state.specs.Session.{carried, layout, no_party, party_of, cell}
use Rattle.state.specs.declared.kept.Party.{Party}
use Rattle.state.specs.declared.kept.Session.{Session}

-- party i of N, with the published candidates
pub record PartyRule (n : ℕ) (published : List ℕ) (i : ℕ) (p : Party) : Type 0 where
  pub status : p.status ≤ 3
  pub place : p.place ≤ 8
  pub candidate_least : 1 ≤ p.candidate
  pub candidate_most : p.candidate ≤ n
  pub steps : p.steps ≤ 1000
  -- at places 1 to 6 the round is 2 to N and not below the party's number, elsewhere zero
  pub round_least : 1 ≤ p.place → p.place ≤ 6 → 2 ≤ p.round
  pub round_most : 1 ≤ p.place → p.place ≤ 6 → p.round ≤ n
  pub round_own : 1 ≤ p.place → p.place ≤ 6 → i ≤ p.round
  pub round_none : (p.place ≡ 0) ⊎ (7 ≤ p.place) → p.round ≡ 0
  -- at places 4 to 6 k is 1 to r − 1, elsewhere zero
  pub scan_least : 4 ≤ p.place → p.place ≤ 6 → 1 ≤ p.k
  pub scan_most : 4 ≤ p.place → p.place ≤ 6 → p.k < p.round
  pub scan_none : (p.place < 4) ⊎ (7 ≤ p.place) → p.k ≡ 0
  -- places 1 and 3 are held only by lowers, place 6 only by the top with a published candidate of k
  pub lowers : (p.place ≡ 1) ⊎ (p.place ≡ 3) → i < p.round
  pub top : p.place ≡ 6 → i ≡ p.round
  pub witness : p.place ≡ 6 → get_or published (cell p.round p.k) 0 ≡ 0 → ⊥
  -- decided exactly at place 8; idle exactly at place 0 unless stopped, with no own steps at place 0; the decision is zero unless decided
  pub decided : p.status ≡ 2 ↔ p.place ≡ 8
  pub idle : (p.status ≡ 3 → ⊥) → p.status ≡ 0 ↔ p.place ≡ 0
  pub no_steps : p.place ≡ 0 → p.steps ≡ 0
  pub no_decision : (p.status ≡ 2 → ⊥) → p.decision ≡ 0

pub record WellFormed (s : Session) : Type 0 where
  -- the carried sheet is accepted
  pub sheet : Rules6 (carried s)
  pub marks : (u : ℕ) → u < (layout s).units → get_or s.marks u 0 ≤ 2
  pub published : (r k : ℕ) → 2 ≤ r → r ≤ (layout s).parties → 1 ≤ k → k < r → get_or s.published (cell r k) 0 ≤ (layout s).parties
  pub parties : (i : ℕ) → 1 ≤ i → i ≤ (layout s).parties → PartyRule (layout s).parties s.published i (party_of s.parties i)
  -- entries beyond the sheet's counts are zero
  pub sheet_past : (j : ℕ) → length (carried s) ≤ j → j < most_sheet → get_or s.sheet j 0 ≡ 0
  pub marks_past : (u : ℕ) → (layout s).units ≤ u → u < most_units → get_or s.marks u 0 ≡ 0
  pub published_past :
      (j : ℕ) → j < cells → ((r k : ℕ) → 2 ≤ r → r ≤ (layout s).parties → 1 ≤ k → k < r → j ≡ cell r k → ⊥) → get_or s.published j 0 ≡ 0
  pub proposals_past : (j : ℕ) → (layout s).parties ≤ j → j < most_parties → get_or s.proposals j 0 ≡ 0
  pub parties_past : (i : ℕ) → (layout s).parties < i → i ≤ most_parties → party_of s.parties i ≡ no_party
