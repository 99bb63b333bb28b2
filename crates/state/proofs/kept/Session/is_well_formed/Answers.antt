-- An accepted sheet has the copy's header, so each test is that of the session's layout: a failed one settles the answer, and the last one is it.
use Rattle.std.proofs.Common.{arith, Bool, ◌&&◌, true, [], ◌∷◌, get_or}
use Rattle.std.specs.Int.{w16, from_be_bytes}
use Rattle.sheet.proofs.Endian.{big_2}
use mathlib.Core.Path.{◌≡◌, sym, ◌∙◌}
use Prim.Native.Nat.{ℕ, ◌≤◌}
use Rattle.sheet.specs.Rows.{parties_of}
use Rattle.rules.specs.Words.{Rules6}
use Rattle.sheet.proofs.Folds.{held}
use Rattle.sheet.proofs.Numbers.{num_two}
use Rattle.state.specs.Session.{carried, layout}
use Rattle.state.specs.WellFormed.{carried_ok, marks_ok, published_ok, proposals_ok, parties_ok}
use Rattle.state.specs.declared.kept.Session.{Session}
use Rattle.state.proofs.Tested.{passed}
use Rattle.state.proofs.Carried.{carried_parties, carried_units, copy_whole, most_parties_lem}
use Rattle.state.proofs.FormWords.{carried_words}
use Rattle.state.proofs.kept.Session.is_well_formed.Goals as goal

module _ (s : Session) (e : carried_ok s.sheet ≡ true) where
  accepted : Rules6 (carried s)
  accepted = ((carried_words s.sheet).says.0 (held (carried_ok s.sheet) e)).0

  -- the copy's header has the layout's numbers
  count : parties_of s.sheet ≡ (layout s).parties
  count = sym (carried_parties s.sheet accepted)

  units : {n : ℕ} → n ≡ from_be_bytes w16 (get_or s.sheet 6 0 ∷ get_or s.sheet 7 0 ∷ []) → n ≡ (layout s).units
  units o = o ∙ big_2 (get_or s.sheet 6 0) (get_or s.sheet 7 0) ∙ num_two s.sheet 6 (copy_whole s.sheet accepted) ∙ sym (carried_units s.sheet accepted)

  few : parties_of s.sheet ≤ 16
  few = most_parties_lem s.sheet accepted

-- what stands behind a test that is passed
behind : {a : Bool} (b c d e : Bool) → a ≡ true → (b && c && d && e) ≡ (a && b && c && d && e)
behind b c d e t = rw t

pub contents_ok-requires : goal.contents_ok-requires
contents_ok-requires c =
    let s = c.args.self.now in
    let sheet = passed c.sheet_ok.ensures c.if-not-sheet_ok.false in
    let most = (accepted s sheet).before.before.before.header.units_most in
    (few s sheet, omega (arith, units s sheet c.from_be_bytes-units.ensures, most))

pub returns : goal.returns
returns c =
    let s = c.args.self.now in
    let sheet = passed c.sheet_ok.ensures c.if-not-sheet_ok.false in
    let same_units = units s sheet c.from_be_bytes-units.ensures in
    c.contents_ok.ensures
    ∙ (λ i. marks_ok (same_units i) s.marks && published_ok (count s sheet i) s.published && proposals_ok (count s sheet i) s.proposals && parties_ok (count s sheet i) s.published s.parties)
    ∙ behind (marks_ok (layout s).units s.marks) (published_ok (layout s).parties s.published) (proposals_ok (layout s).parties s.proposals) (parties_ok (layout s).parties s.published s.parties) sheet
