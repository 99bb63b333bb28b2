-- What a call for a party knows where it is not refused, and what the acts ask of their caller: a sheet whose rows keep the row rule, and a live party whose
-- entries are in range.
use Rattle.std.specs.Prelude.{ℕ, ◌≤◌, ◌<◌, ◌≡◌, List, T}
use Rattle.sheet.specs.Rows.{slot, parties_of}
use Rattle.sheet.specs.Words.{IsSlot}
use Rattle.rules.specs.Words.{Rules5}
use Rattle.state.specs.Sizes.{most_steps}
use Rattle.state.specs.Session.{layout}
use Rattle.state.specs.WellFormed.{well_formed}
use Rattle.state.specs.Words.{PartyRule}
use Rattle.state.specs.declared.kept.Party.{Party}
use Rattle.state.specs.declared.kept.Session.{Session}

-- a call for party i is past both refusals
pub record Past (s : Session) (i : ℕ) : Type 0 where
  pub formed : T (well_formed s)
  pub parties : parties_of s.sheet ≡ (layout s).parties
  pub least : 1 ≤ i
  pub most : i ≤ (layout s).parties
  pub few : i ≤ 16

-- the party's round has a row of j
pub record ReadyAt (sheet : List ℕ) (j : ℕ) (p : Party) : Type 0 where
  pub rules : Rules5 sheet
  pub row : IsSlot (parties_of sheet) (slot p.round j)
  pub steps : p.steps ≤ most_steps

pub record Ready (sheet published : List ℕ) (i : ℕ) (p : Party) (n : ℕ) : Type 0 where
  pub rules : Rules5 sheet
  pub parties : n ≡ parties_of sheet
  pub least : 1 ≤ i
  pub most : i ≤ n
  pub party : PartyRule n published i p
  pub live : p.status < 2
