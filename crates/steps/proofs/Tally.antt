-- A move adds one own step to party i where it is a step of i that acts, and none elsewhere; so along some moves the own steps are the acts.
use Prim.Native.Nat.{ℕ, suc, ◌+◌, ◌≤◌, ◌<◌}
use mathlib.Core.Path.{◌≡◌, refl, sym, ap, ◌∙◌, subst}
use mathlib.Core.List.{List}
use mathlib.Core.Bool.{Bool, true, false, cond}
use mathlib.Core.Logic.{◌≢◌, ⊎_elim}
use native.Mathlib.Nat.{add-zero}
use native.Mathlib.Decide.{ℕ_discrete}
use native.Mathlib.Omega.{arith}
use borrow.Author.Tests.{eq-eqb, ne_eqb, lt-ltb, le-ltb}
use lib.Dec.{T}
use lib.ListN.{length}
use Rattle.sheet.specs.Rows.{parties_of}
use Rattle.sheet.specs.Lists.{all}
use Rattle.rules.specs.Words.{Rules6}
use Rattle.sheet.proofs.Folds.{lt_or_le}
use Rattle.state.specs.Session.{fresh_session, layout, party_of}
use Rattle.state.specs.declared.kept.Party.{Party}
use Rattle.state.specs.declared.kept.Session.{Session}
use Rattle.state.proofs.Filled.{fresh_party_lem}
use Rattle.steps.specs.Step.{place_acted, step, stop}
use Rattle.steps.specs.Moves.{Move, step_of, stop_of, whose, moved, moved_by}
use Rattle.steps.specs.Run.{byte_ok, moves_in, ran}
use Rattle.steps.specs.Trace.{is_act, acts}
use Rattle.steps.specs.Reach.{moves_on}
use Rattle.steps.proofs.Changes.{step_live}
use Rattle.steps.proofs.Turns.{step_none, step_other, stop_other, stop_own}
use Rattle.steps.proofs.Reached.{Reached, here, reached_kept, reached_parties, reached_well_formed}
use Rattle.steps.proofs.Moves.{OfParty, Ofs, none, more, move_leads, moves_back, moves_ofs, of_parties_lem, obeyed_moved}

-- a party's own steps
abbrev steps_of : Session → ℕ → ℕ
steps_of s i = (party_of s.parties i).steps

module _ (sheet proposals : List ℕ) (rules : Rules6 sheet) (count : length proposals ≡ parties_of sheet)
    (i : ℕ) (least : 1 ≤ i) (most : i ≤ parties_of sheet) where
  abbrev n : ℕ
  n = parties_of sheet

  module _ {s : Session} (R : Reached sheet proposals s) where
    abbrev p : Party
    p = party_of s.parties i

    inside : i ≤ (layout s).parties
    inside = let same = reached_parties sheet proposals rules R in omega arith

    seated : i ≤ length s.parties
    seated = let size = (reached_kept sheet proposals rules R).size in let few = rules.before.before.before.header.parties_most in omega arith

    -- what a move adds
    Adds : Move → Type 0
    Adds m = steps_of (moved s m) i ≡ steps_of s i + cond (is_act i m (place_acted s (whose m))) 1 0

    -- who is live is not at place 8
    step_own : Adds (step_of i)
    unfolding Adds
    step_own = ⊎_elim live over (lt_or_le p.status 2)
      where
        live : p.status < 2 → steps_of (step s i) i ≡ steps_of s i + cond (is_act i (step_of i) (place_acted s i)) 1 0
        live l = rw (eq-eqb i i refl, lt-ltb p.status 2 l, ne_eqb p.place 8 elsewhere) (step_live s i (omega (arith, seated)) l)
          where
            elsewhere : p.place ≢ 8
            elsewhere e =
                let two = ((reached_well_formed sheet proposals rules count R).parties i least inside).decided.1 e in
                omega arith

        over : 2 ≤ p.status → steps_of (step s i) i ≡ steps_of s i + cond (is_act i (step_of i) (place_acted s i)) 1 0
        over l = rw (eq-eqb i i refl, le-ltb p.status 2 l) (ap (λ (t : Session). steps_of t i) (step_none s i least l) ∙ sym (add-zero (steps_of s i)))

    own_stop : steps_of (stop s i) i ≡ steps_of s i
    own_stop = ap (λ (q : Party). q.steps) (stop_own s i least seated)

    move_adds : (m : Move) → OfParty n m → Adds m
    unfolding Adds
    move_adds (step_of j) (a, b) = by (ℕ_discrete i j)
      where
        by : Dec (i ≡ j) → steps_of (step s j) i ≡ steps_of s i + cond (is_act i (step_of j) (place_acted s j)) 1 0
        by (yes e) = subst (λ (k : ℕ). steps_of (step s k) i ≡ steps_of s i + cond (is_act i (step_of k) (place_acted s k)) 1 0) e step_own
        by (no d) =
            rw (ne_eqb j i (λ e. d (sym e))) (ap (λ (q : Party). q.steps) (step_other s j a i least d) ∙ sym (add-zero (steps_of s i)))
    move_adds (stop_of j) (a, b) = by (ℕ_discrete i j) ∙ sym (add-zero (steps_of s i))
      where
        by : Dec (i ≡ j) → steps_of (stop s j) i ≡ steps_of s i
        by (yes e) = subst (λ (k : ℕ). steps_of (stop s k) i ≡ steps_of s i) e own_stop
        by (no d) = ap (λ (q : Party). q.steps) (stop_other s j a i least d)

  pub tallied : {s : Session} → Reached sheet proposals s → {ms : List Move} → Ofs n ms → steps_of (moved_by s ms) i ≡ steps_of s i + acts s ms i
  unfolding Adds
  tallied {s} R none = sym (add-zero (steps_of s i))
  tallied {s} R (more m {ms} o os) =
      let one = move_adds R m o in
      let later = tallied {s = moved s m} (move_leads R m o) os in
      by (is_act i m (place_acted s (whose m))) (steps_of s i) (acts (moved s m) ms i) one later
    where
      by : (b : Bool) {y z : ℕ} (x r : ℕ) → y ≡ x + cond b 1 0 → z ≡ y + r → z ≡ x + cond b (suc r) r
      by true x r e f = omega arith
      by false x r e f = omega arith

  -- the own steps after some moves from the fresh session are the acts on the way
  pub moves_acts : {ms : List Move} → Ofs n ms
      → (party_of (moved_by (fresh_session sheet proposals n) ms).parties i).steps ≡ acts (fresh_session sheet proposals n) ms i
  moves_acts os =
      let none = ap (λ (q : Party). q.steps) (fresh_party_lem n i least most) in
      let all = tallied here os in
      omega arith

  -- those of a reached session are the acts on its way
  pub way_acts : {s : Session} (R : Reached sheet proposals s) → (party_of s.parties i).steps ≡ acts (fresh_session sheet proposals n) (moves_on R) i
  way_acts R = ap (λ (s : Session). steps_of s i) (sym (moves_back R)) ∙ moves_acts (moves_ofs R)

  -- the own steps that a run comes to are the acts of its schedule
  pub steps_acts : (schedule : List ℕ) → T (all (byte_ok n) schedule)
      → (party_of (ran sheet proposals schedule).parties i).steps ≡ acts (fresh_session sheet proposals n) (moves_in schedule) i
  steps_acts schedule good =
      ap (λ (s : Session). steps_of s i) (obeyed_moved (fresh_session sheet proposals n) schedule)
      ∙ moves_acts (of_parties_lem n rules.before.before.before.header.parties_most schedule good)
