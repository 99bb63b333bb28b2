-- Steps and stops in a row lead on from where a way has come to, and a schedule's bytes are such: inductions over the row.
use Prim.Native.Nat.{ℕ, ◌-◌, ◌≤◌}
use mathlib.Core.Path.{◌≡◌, refl, sym, ap, ◌∙◌, subst}
use mathlib.Core.List.{List, [], ◌∷◌, ◌++◌, append_assoc, append-nil}
use mathlib.Core.Bool.{Bool, true, false, cond}
use native.Mathlib.Omega.{arith}
use borrow.Author.Tests.{ltb-true, ltb-false}
use lib.Dec.{T, ltb}
use Rattle.sheet.specs.Lists.{all}
use Rattle.sheet.proofs.Folds.{and_left, and_right}
use Rattle.state.specs.declared.kept.Session.{Session}
use Rattle.steps.specs.Step.{step, stop}
use Rattle.steps.specs.Moves.{Move, step_of, stop_of, whose, moved, moved_by}
use Rattle.steps.specs.Run.{byte_ok, move_of, moves_in, entry, obeyed}
use Rattle.steps.specs.Reach.{Leads, here, by_step, by_stop, moves_on}
use Rattle.steps.proofs.Obeying.{Good, good}

-- ---- moves of parties 1 to n

abbrev pub OfParty : ℕ → Move → Type 0
OfParty n m = (1 ≤ whose m) × (whose m ≤ n)

-- every one is a party's
pub data Ofs (n : ℕ) : List Move → Type 0 where
  none : Ofs n []
  more : (m : Move) {ms : List Move} → OfParty n m → Ofs n ms → Ofs n (m ∷ ms)

pub move_leads : {n : ℕ} {s t : Session} → Leads n s t → (m : Move) → OfParty n m → Leads n s (moved t m)
move_leads R (step_of i) o = by_step i o.0 o.1 R
move_leads R (stop_of i) o = by_stop i o.0 o.1 R

pub moves_lead : {n : ℕ} {s t : Session} → Leads n s t → {ms : List Move} → Ofs n ms → Leads n s (moved_by t ms)
moves_lead R none = R
moves_lead {t = t} R (more (step_of i) o os) = moves_lead {t = step t i} (by_step i o.0 o.1 R) os
moves_lead {t = t} R (more (stop_of i) o os) = moves_lead {t = stop t i} (by_stop i o.0 o.1 R) os

pub moves_on_lem : {n : ℕ} {s t : Session} (R : Leads n s t) {ms : List Move} (os : Ofs n ms) → moves_on (moves_lead R os) ≡ moves_on R ++ ms
unfolding moves_on moves_lead
moves_on_lem R none = sym (append-nil (moves_on R))
moves_on_lem {t = t} R (more (step_of i) {ms} o os) = moves_on_lem {t = step t i} (by_step i o.0 o.1 R) os ∙ append_assoc (moves_on R) (step_of i ∷ []) ms
moves_on_lem {t = t} R (more (stop_of i) {ms} o os) = moves_on_lem {t = stop t i} (by_stop i o.0 o.1 R) os ∙ append_assoc (moves_on R) (stop_of i ∷ []) ms

-- ---- the moves on a way lead where it leads

pub moved_append : (s : Session) (a b : List Move) → moved_by s (a ++ b) ≡ moved_by (moved_by s a) b
moved_append s [] b = refl
moved_append s (m ∷ a) b = moved_append (moved s m) a b

pub moves_back : {n : ℕ} {s t : Session} (R : Leads n s t) → moved_by s (moves_on R) ≡ t
unfolding moves_on
moves_back here = refl
moves_back {s = s} (by_step i least most R) = moved_append s (moves_on R) (step_of i ∷ []) ∙ ap (λ (t : Session). step t i) (moves_back R)
moves_back {s = s} (by_stop i least most R) = moved_append s (moves_on R) (stop_of i ∷ []) ∙ ap (λ (t : Session). stop t i) (moves_back R)

ofs_more : {n : ℕ} {ms : List Move} → Ofs n ms → (m : Move) → OfParty n m → Ofs n (ms ++ (m ∷ []))
ofs_more none m o = more m o none
ofs_more (more k p os) m o = more k p (ofs_more os m o)

pub moves_ofs : {n : ℕ} {s t : Session} (R : Leads n s t) → Ofs n (moves_on R)
unfolding moves_on
moves_ofs here = none
moves_ofs (by_step i least most R) = ofs_more (moves_ofs R) (step_of i) (least, most)
moves_ofs (by_stop i least most R) = ofs_more (moves_ofs R) (stop_of i) (least, most)

-- ---- a schedule

pub entry_moved : (s : Session) (b : ℕ) → entry s b ≡ moved s (move_of b)
entry_moved s b = by (ltb b 128)
  where
    by : (t : Bool) → cond t (step s b) (stop s (b - 128)) ≡ moved s (cond t (step_of b) (stop_of (b - 128)))
    by true = refl
    by false = refl

pub obeyed_moved : (s : Session) (bs : List ℕ) → obeyed s bs ≡ moved_by s (moves_in bs)
obeyed_moved s [] = refl
obeyed_moved s (b ∷ bs) = obeyed_moved (entry s b) bs ∙ ap (λ (t : Session). moved_by t (moves_in bs)) (entry_moved s b)

module _ (n : ℕ) (few : n ≤ 16) where
  of_party : (b : ℕ) → Good n b → OfParty n (move_of b)
  of_party b g = by (ltb b 128) refl
    where
      by : (t : Bool) → ltb b 128 ≡ t → OfParty n (cond t (step_of b) (stop_of (b - 128)))
      by true e = let low = ltb-true b 128 e in let least = g.least in let most = g.most in (omega arith, omega arith)
      by false e = let high = ltb-false b 128 e in let byte = g.byte in let least = g.least in let most = g.most in (omega arith, omega arith)

  pub of_parties_lem : (bs : List ℕ) → T (all (byte_ok n) bs) → Ofs n (moves_in bs)
  of_parties_lem [] t = none
  of_parties_lem (b ∷ bs) t =
      more (move_of b) (of_party b (good n b few (and_left (byte_ok n b) (all (byte_ok n) bs) t))) (of_parties_lem bs (and_right (byte_ok n b) (all (byte_ok n) bs) t))

  -- the way that a schedule of good bytes goes
  pub obeyed_leads : {s t : Session} → Leads n s t → (bs : List ℕ) → T (all (byte_ok n) bs) → Leads n s (obeyed t bs)
  obeyed_leads {s} {t} R bs ok = subst (Leads n s) (sym (obeyed_moved t bs)) (moves_lead R (of_parties_lem bs ok))
