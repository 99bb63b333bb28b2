-- What an act sees and what it makes of the party from that are together what the step rules say of each place: by the places, one by one.
use Prim.Native.Nat.{ℕ, ◌-◌}
use mathlib.Core.Path.{◌≡◌, refl}
use mathlib.Core.List.{List}
use lib.ListN.{get_or}
use Rattle.sheet.specs.Rows.{Layout, slot}
use Rattle.state.specs.Session.{cell}
use Rattle.state.specs.declared.kept.Party.{Party}
use Rattle.steps.specs.Step.{Place, announce, publish, write, read_top, read_own, read_pair, fetch, decide, done, won, mark_at, announced, after_publish, after_write, after_top, after_own, after_pair, decided, seen, party_after, party_acted}

module _ (l : Layout) (proposals marks published : List ℕ) (i : ℕ) (p : Party) where
  -- the acts as document 01 has them, each with what it reads
  abbrev by_place : Place → Party
  by_place announce = announced l.parties i p
  by_place publish = after_publish p
  by_place write = after_write i p
  by_place read_top = after_top l.parties i (mark_at marks (l.row (slot p.round p.round)).own) p
  by_place read_own = after_own l.parties (mark_at marks (l.row (slot p.round p.k)).own) p
  by_place read_pair = after_pair l.parties i (mark_at marks (l.row (slot p.round p.k)).pair) p
  by_place fetch = won l.parties p p.round (get_or published (cell p.round p.k) 0)
  by_place decide = decided (get_or proposals (p.candidate - 1) 0) p
  by_place done = p

  pub both_halves : (at : Place) → party_acted l proposals marks published i p at ≡ by_place at
  unfolding seen party_after
  both_halves announce = refl
  both_halves publish = refl
  both_halves write = refl
  both_halves read_top = refl
  both_halves read_own = refl
  both_halves read_pair = refl
  both_halves fetch = refl
  both_halves decide = refl
  both_halves done = refl
