-- A call that is of no party changes nothing and counts for none, so calls do what those among them do that are of parties: by cases of each.
use Prim.Native.Nat.{ℕ, suc, ◌≤◌}
use mathlib.Core.Path.{◌≡◌, refl, ap, subst, subst⁻¹}
use mathlib.Core.List.{List, [], ◌∷◌, ◌++◌}
use mathlib.Core.Bool.{Bool, true, false, ◌||◌, cond}
use native.Mathlib.Omega.{arith}
use borrow.Author.Tests.{ne_eqb}
use lib.Dec.{T, eqb}
use Rattle.sheet.specs.Rows.{parties_of}
use Rattle.sheet.specs.Lists.{within, keep}
use Rattle.sheet.proofs.Folds.{held, failed}
use Rattle.state.specs.declared.kept.Session.{Session}
use Rattle.state.proofs.Joins.{within_words}
use Rattle.steps.specs.Moves.{Move, step_of, stop_of, whose, moved, moved_by, steps_before, stops_in}
use Rattle.steps.specs.Reach.{Reached, step_limit}
use Rattle.steps.proofs.Given.{Follows}
use Rattle.steps.proofs.Moves.{Ofs, none, more, move_leads}

abbrev pub is_of_party : ℕ → Move → Bool
is_of_party n c = within 1 n (whose c)

-- the calls that are of parties
abbrev pub party_calls : ℕ → List Move → List Move
party_calls n cs = keep (is_of_party n) cs

-- what a call makes of a session
abbrev pub next : ℕ → Session → Move → Session
next n s c = cond (is_of_party n c) (moved s c) s

pub next_reached : (sheet proposals : List ℕ) {s : Session} → Reached sheet proposals s → (c : Move)
    → Reached sheet proposals (next (parties_of sheet) s c)
next_reached sheet proposals {s} R c = by (is_of_party (parties_of sheet) c) refl
  where
    by : (w : Bool) → is_of_party (parties_of sheet) c ≡ w → Reached sheet proposals (cond w (moved s c) s)
    by true e = move_leads R c ((within_words 1 (parties_of sheet) (whose c)).says.0 (held (is_of_party (parties_of sheet) c) e))
    by false e = R

pub all_of_parties : (n : ℕ) (cs : List Move) → Ofs n (party_calls n cs)
all_of_parties n [] = none
all_of_parties n (c ∷ cs) = by (is_of_party n c) refl (all_of_parties n cs)
  where
    by : (w : Bool) → is_of_party n c ≡ w → Ofs n (party_calls n cs) → Ofs n (cond w (c ∷ party_calls n cs) (party_calls n cs))
    by true e later = more c ((within_words 1 n (whose c)).says.0 (held (is_of_party n c) e)) later
    by false e later = later

-- of two lists of calls one after the other
pub parties_append : (n : ℕ) (a b : List Move) → party_calls n (a ++ b) ≡ party_calls n a ++ party_calls n b
parties_append n [] b = refl
parties_append n (c ∷ a) b = by (is_of_party n c) (party_calls n a) (parties_append n a b)
  where
    by : (w : Bool) {l : List Move} (m : List Move) → l ≡ m ++ party_calls n b → cond w (c ∷ l) l ≡ cond w (c ∷ m) m ++ party_calls n b
    by true m e = ap (λ (l : List Move). c ∷ l) e
    by false m e = e

pub moved_next : (n : ℕ) (s : Session) (c : Move) (cs : List Move) → moved_by (next n s c) (party_calls n cs) ≡ moved_by s (party_calls n (c ∷ cs))
moved_next n s c cs = by (is_of_party n c)
  where
    by : (w : Bool) → moved_by (cond w (moved s c) s) (party_calls n cs) ≡ moved_by s (cond w (c ∷ party_calls n cs) (party_calls n cs))
    by true = refl
    by false = refl

-- ---- of party i

module _ (n i : ℕ) (least : 1 ≤ i) (most : i ≤ n) where
  pub another : (j : ℕ) → within 1 n j ≡ false → eqb j i ≡ false
  another j e = ne_eqb j i (λ same. failed (within 1 n j) e ((within_words 1 n j).says.1 (omega arith, omega arith)))

  -- the steps before any stop of its own are the same
  steps_same : (cs : List Move) → steps_before i cs ≡ steps_before i (party_calls n cs)
  steps_same [] = refl
  steps_same (step_of j ∷ cs) = by (within 1 n j) refl (steps_same cs)
    where
      by : (w : Bool) → within 1 n j ≡ w → steps_before i cs ≡ steps_before i (party_calls n cs)
          → steps_before i (step_of j ∷ cs) ≡ steps_before i (cond w (step_of j ∷ party_calls n cs) (party_calls n cs))
      by true e later = ap (λ (r : ℕ). cond (eqb j i) (suc r) r) later
      by false e later = rw (another j e) later
  steps_same (stop_of j ∷ cs) = by (within 1 n j) refl (steps_same cs)
    where
      by : (w : Bool) → within 1 n j ≡ w → steps_before i cs ≡ steps_before i (party_calls n cs)
          → steps_before i (stop_of j ∷ cs) ≡ steps_before i (cond w (stop_of j ∷ party_calls n cs) (party_calls n cs))
      by true e later = ap (λ (r : ℕ). cond (eqb j i) 0 r) later
      by false e later = rw (another j e) later

  -- and so is whether there is such a stop
  stops_same : (cs : List Move) → stops_in i cs ≡ stops_in i (party_calls n cs)
  stops_same [] = refl
  stops_same (step_of j ∷ cs) = by (within 1 n j) (stops_same cs)
    where
      by : (w : Bool) → stops_in i cs ≡ stops_in i (party_calls n cs) → stops_in i cs ≡ stops_in i (cond w (step_of j ∷ party_calls n cs) (party_calls n cs))
      by true later = later
      by false later = later
  stops_same (stop_of j ∷ cs) = by (within 1 n j) refl (stops_same cs)
    where
      by : (w : Bool) → within 1 n j ≡ w → stops_in i cs ≡ stops_in i (party_calls n cs)
          → stops_in i (stop_of j ∷ cs) ≡ stops_in i (cond w (stop_of j ∷ party_calls n cs) (party_calls n cs))
      by true e later = ap (λ (b : Bool). eqb j i || b) later
      by false e later = rw (another j e) later

-- so what follows from the calls of parties follows from all
pub calls_follow : {n : ℕ} {s : Session} {cs : List Move} → Follows n s (party_calls n cs) → Follows n s cs
calls_follow {n} {s} {cs} f =
    record {
      enough = λ i l m g. f.enough i l m (subst (λ (k : ℕ). step_limit n i ≤ k) (steps_same n i l m cs) g);
      over = λ i l m t. f.over i l m (subst T (stops_same n i l m cs) t);
      stopped = λ i l m e. subst⁻¹ T (stops_same n i l m cs) (f.stopped i l m e);
    }
