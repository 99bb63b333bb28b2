-- A call for a party is refused where the session is not well formed, then where the party is none of the session's; past both tests it is answered.
use Rattle.std.specs.Prelude.{Err}
use Prim.Native.Nat.{ℕ, ◌≤◌}
use mathlib.Core.Path.{◌≡◌, refl, sym, ap, ◌∙◌}
use mathlib.Core.Bool.{Bool, true, false, ◌&&◌, cond}
use native.Mathlib.Nat.{le_trans}
use native.Mathlib.Omega.{arith}
use lib.Dec.{T}
use Rattle.sheet.specs.Rows.{parties_of}
use Rattle.sheet.specs.Lists.{within}
use Rattle.rules.specs.Words.{Rules6}
use Rattle.sheet.proofs.Folds.{holds, held}
use Rattle.state.specs.Session.{carried, layout}
use Rattle.state.specs.WellFormed.{well_formed}
use Rattle.state.specs.declared.kept.Session.{Session}
use Rattle.state.proofs.Tested.{passed}
use Rattle.state.proofs.Joins.{within_words}
use Rattle.state.proofs.Carried.{carried_parties}
use Rattle.state.proofs.FormWords.{well_formed_says}
use Rattle.answers.specs.declared.Refusal.{Refusal}
use Rattle.answers.proofs.Refused.{refuses}
use Rattle.steps.specs.Calls.{Told, told, told_by, told_of, unless_refused, unless_kept}
use Rattle.steps.specs.Ready.{Past}

module _ (s : Session) (formed : T (well_formed s)) where
  accepted : Rules6 (carried s)
  accepted = ((well_formed_says s).0 formed).sheet

  -- the copy's byte of the number of parties
  pub parties_byte : parties_of s.sheet ≡ (layout s).parties
  parties_byte = sym (carried_parties s.sheet accepted)

  pub parties_few : (layout s).parties ≤ 16
  parties_few = accepted.before.before.before.header.parties_most

-- the byte is the layout's number of parties, so the code's test of a party is the definition's
module _ (s : Session) (i : ℕ) {w : Bool} (formed : w ≡ well_formed s) (n : w ≡ true) where
  pub is_formed : well_formed s ≡ true
  is_formed = passed formed n

  pub byte_party : {b : Bool} → b ≡ within 1 (parties_of s.sheet) i → b ≡ within 1 (layout s).parties i
  byte_party e = e ∙ ap (λ (m : ℕ). within 1 m i) (parties_byte s (held (well_formed s) is_formed))

-- ---- the answer, by the two tests

module _ (w b : Bool) (value : ℕ) where
  abbrev pub Answer : Told
  Answer = cond w (cond b (told 0 value) (told 10 0)) (told 9 0)

  pub told_9 : w ≡ false → told 9 0 ≡ Answer
  told_9 e = rw e

  pub told_10 : w ≡ true → b ≡ false → told 10 0 ≡ Answer
  told_10 e f = rw (e, f)

  pub told_0 : w ≡ true → b ≡ true → told 0 value ≡ Answer
  told_0 e f = rw (e, f)

-- a call makes `after` of the session, and answers `value`; what it was told first is what `asked` tells
module _ (s : Session) (i : ℕ) (after : Session) (value : ℕ) where
  abbrev Answers : Session → Told → Type 0
  Answers t a = (t ≡ unless_kept s i after) × (a ≡ unless_refused s i value)

  pub answered : Past s i → Answers after (told 0 value)
  answered p =
      let formed = holds (well_formed s) p.formed in
      let party = holds (within 1 (layout s).parties i) ((within_words 1 (layout s).parties i).says.1 (p.least, p.most)) in
      (rw (formed, party), rw (formed, party))

  -- what is told first is told in the end, where it is a refusal
  pub refused_told : (t : Told) → t ≡ unless_refused s i 0 → (t.number ≡ 0 → ⊥) → Answers s t
  refused_told t e n = by (well_formed s) (within 1 (layout s).parties i) e
    where
      by : (w b : Bool) → t ≡ Answer w b 0 → (s ≡ cond (w && b) after s) × (t ≡ Answer w b value)
      by true true f = absurd (n (ap (λ (a : Told). a.number) f))
      by true false f = (refl, f)
      by false b f = (refl, f)

  pub refused : (r : Refusal) → told_by (λ (a : Unit {0}). 0) (Err r) ≡ unless_refused s i 0 → Answers s (told_of (Err r))
  refused r e = refused_told (told_of (Err r)) e (λ n. omega (arith, refuses r, n))

-- past both tests
pub past : (s : Session) (i : ℕ) → well_formed s ≡ true → within 1 (layout s).parties i ≡ true → Past s i
past s i formed party =
    let f = held (well_formed s) formed in
    let (least, most) = (within_words 1 (layout s).parties i).says.0 (held (within 1 (layout s).parties i) party) in
    record { formed = f; parties = parties_byte s f; least = least; most = most; few = le_trans most (parties_few s f) }

-- who is told no refusal is past both
pub past_told : (s : Session) (i : ℕ) (t : Told) → t ≡ unless_refused s i 0 → t.number ≡ 0 → Past s i
past_told s i t e n = by (well_formed s) (within 1 (layout s).parties i) e (past s i)
  where
    by : (w b : Bool) → t ≡ Answer w b 0 → (w ≡ true → b ≡ true → Past s i) → Past s i
    by true true f both = both refl refl
    by true false f both = absurd (omega (arith, n, ap (λ (a : Told). a.number) f))
    by false b f both = absurd (omega (arith, n, ap (λ (a : Told). a.number) f))
