-- An opening is decided by two tests in turn: whether the sheet is accepted, and whether there is a proposal for each party.
use Prim.Native.Nat.{ℕ}
use mathlib.Core.Path.{◌≡◌, refl, sym, ap, ◌∙◌}
use mathlib.Core.List.{List, []}
use mathlib.Core.Bool.{Bool, true, false, cond}
use mathlib.Core.Logic.{◌≢◌}
use native.Mathlib.Omega.{arith}
use borrow.Author.Tests.{eq-eqb, ne_eqb, eqb-true, eqb-false}
use lib.Dec.{T, eqb}
use lib.ListN.{length}
use Rattle.sheet.specs.Rows.{parties_of}
use Rattle.std.specs.Prelude.{Result, Ok, Err}
use Rattle.answers.specs.Answers.{Answer, answer, done, answer_of}
use Rattle.answers.specs.declared.Refusal.{Refusal}
use Rattle.answers.proofs.Refused.{refuses}
use Rattle.answers.proofs.Theorems.{one_answer}
use Rattle.rules.specs.Check.{check_answer}
use Rattle.rules.specs.Words.{Rules6}
use Rattle.state.specs.Session.{fresh_session}
use Rattle.state.specs.Opening.{open_answer, opened, session_given}
use Rattle.state.specs.declared.kept.Session.{Session}
use Rattle.state.proofs.FormWords.{accepted_says}

-- the answer by the tests, where the check answers a
module _ (w b : Bool) (a : Answer) where
  abbrev told : Answer
  told = cond w (cond b done (answer 7 0)) a

  told_a : w ≡ false → a ≡ told
  told_a e = rw e

  told_7 : w ≡ true → b ≡ false → answer 7 0 ≡ told
  told_7 e f = rw (e, f)

  told_0 : w ≡ true → b ≡ true → done ≡ told
  told_0 e f = rw (e, f)

-- a refusal, then 7, then the rest: done only where both tests are passed and the rest is done
pub opens_when : (w b : Bool) (refusal rest : Answer) → eqb refusal.number 0 ≡ w → (cond w (cond b rest (answer 7 0)) refusal).number ≡ 0
    → (T w) × (b ≡ true) × (rest.number ≡ 0)
opens_when true true refusal rest e z = (tt, refl, z)
opens_when true false refusal rest e z = absurd (omega arith)
opens_when false b refusal rest e z = absurd (eqb-false refusal.number 0 e z)

module _ (sheet proposals : List ℕ) where
  abbrev ok : Bool
  ok = eqb (check_answer sheet).number 0

  -- a proposal for each party
  abbrev each : Bool
  each = eqb (length proposals) (parties_of sheet)

  pub not_accepted : eqb (check_answer sheet).number 0 ≡ false → check_answer sheet ≡ open_answer sheet proposals
  not_accepted e = told_a ok each (check_answer sheet) e

  module _ (e : check_answer sheet ≡ done) where
    is_ok : ok ≡ true
    is_ok = ap (λ (a : Answer). eqb a.number 0) e

    pub miscounted : length proposals ≢ parties_of sheet → answer 7 0 ≡ open_answer sheet proposals
    miscounted n = told_7 ok each (check_answer sheet) is_ok (ne_eqb (length proposals) (parties_of sheet) n)

    pub opens : length proposals ≡ parties_of sheet → done ≡ open_answer sheet proposals
    opens n = told_0 ok each (check_answer sheet) is_ok (eq-eqb (length proposals) (parties_of sheet) n)

  -- where it is opened, both hold
  pub opens_says : open_answer sheet proposals ≡ done → Rules6 sheet × (length proposals ≡ parties_of sheet)
  opens_says e =
      let (t, counted, _) = opens_when ok each (check_answer sheet) done refl (ap (λ (a : Answer). a.number) e) in
      ((accepted_says sheet).0 t, eqb-true (length proposals) (parties_of sheet) counted)

  -- ---- the session by the answer

  -- the session where the answer is a
  opened_at : Answer → Session
  opened_at a = cond (eqb a.number 0) (fresh_session sheet proposals (parties_of sheet)) (fresh_session [] [] 0)

  pub opened_fresh : open_answer sheet proposals ≡ done → fresh_session sheet proposals (parties_of sheet) ≡ opened sheet proposals
  unfolding opened_at
  opened_fresh e = ap opened_at (sym e)

  pub opened_blank : eqb (open_answer sheet proposals).number 0 ≡ false → fresh_session [] [] 0 ≡ opened sheet proposals
  opened_blank e = ap (λ (b : Bool). cond b (fresh_session sheet proposals (parties_of sheet)) (fresh_session [] [] 0)) (sym e)

-- any two results that the promise of an open permits are equal: the answer tells which of the two cases it is, and each has one result
pub one_opening : (t : Answer) (s : Session) (a b : Result Session Refusal) → answer_of a ≡ t → answer_of b ≡ t → session_given a ≡ s → session_given b ≡ s → a ≡ b
one_opening t s (Ok u) (Ok v) e o f g = ap Ok (f ∙ sym g)
one_opening t s (Ok u) (Err r) e o f g = absurd (omega (arith, refuses r, ap (λ (x : Answer). x.number) (e ∙ sym o)))
one_opening t s (Err r) (Ok v) e o f g = absurd (omega (arith, refuses r, ap (λ (x : Answer). x.number) (o ∙ sym e)))
one_opening t s (Err r) (Err q) e o f g = cc (one_answer t (Err r) (Err q) e o)
