-- Until a stop of its own each step that a party is given is an own step of it while it is live, so with as many as its limit it has decided; only such a stop stops it.
use Prim.Native.Nat.{ℕ, suc, ◌+◌, ◌≤◌, ◌<◌}
use mathlib.Core.Path.{◌≡◌, refl, sym, ◌∙◌, ap, subst, subst⁻¹}
use mathlib.Core.List.{List, [], ◌∷◌, ◌++◌}
use mathlib.Core.Logic.{◌≢◌, ◌⊎◌, inl, inr, ⊎_elim}
use mathlib.Core.Bool.{Bool, true, false, ◌||◌, cond, or_assoc, or-false}
use native.Mathlib.Omega.{arith}
use native.Mathlib.Decide.{ℕ_discrete}
use borrow.Author.Tests.{eq-eqb, ne_eqb}
use lib.Dec.{T, eqb, eqb→eq}
use lib.ListN.{length}
use Rattle.sheet.specs.Rows.{parties_of}
use Rattle.rules.specs.Words.{Rules6}
use Rattle.sheet.proofs.Folds.{or_left, or_right, or_cases, held, lt_or_le}
use Rattle.state.specs.Session.{fresh_session, layout, party_of}
use Rattle.state.specs.declared.kept.Party.{Party}
use Rattle.state.specs.declared.kept.Session.{Session}
use Rattle.state.proofs.Filled.{fresh_party_lem}
use Rattle.steps.specs.Step.{step, stop}
use Rattle.steps.specs.Moves.{Move, step_of, stop_of, moved_by, steps_before, stops_in}
use Rattle.steps.specs.Reach.{step_limit, moves_on}
use Rattle.steps.proofs.Turns.{step_none, step_other, stop_other, stop_own, stop_decided}
use Rattle.steps.proofs.Changes.{step_live, step_status}
use Rattle.steps.proofs.Reached.{here, by_step, by_stop, Reached, reached_kept, reached_parties}
use Rattle.steps.proofs.Moves.{Ofs, moves_lead, moves_on_lem}
use Rattle.steps.proofs.StepLimits.{reached_decides}

module _ (j : ℕ) where
  -- ---- a move more

  -- how many steps of party j a move is
  abbrev counts : Move → ℕ
  counts (step_of i) = cond (eqb i j) 1 0
  counts (stop_of i) = 0

  first_count : (m : Move) → steps_before j (m ∷ []) ≤ counts m
  first_count (step_of i) = by (eqb i j)
    where
      by : (b : Bool) → cond b 1 0 ≤ cond b 1 0
      by true = omega arith
      by false = omega arith
  first_count (stop_of i) = by (eqb i j)
    where
      by : (b : Bool) → cond b 0 0 ≤ 0
      by true = omega arith
      by false = omega arith

  before_more : (ms : List Move) (m : Move) → steps_before j (ms ++ (m ∷ [])) ≤ steps_before j ms + counts m
  before_more [] m = omega (arith, first_count m)
  before_more (step_of i ∷ ms) m = by (eqb i j) (steps_before j ms) (counts m) (before_more ms m)
    where
      by : (b : Bool) {x : ℕ} (y z : ℕ) → x ≤ y + z → cond b (suc x) x ≤ cond b (suc y) y + z
      by true y z l = omega arith
      by false y z l = omega arith
  before_more (stop_of i ∷ ms) m = by (eqb i j) (steps_before j ms) (counts m) (before_more ms m)
    where
      by : (b : Bool) {x : ℕ} (y z : ℕ) → x ≤ y + z → cond b 0 x ≤ cond b 0 y + z
      by true y z l = omega arith
      by false y z l = l

  -- ---- a stop of its own

  -- past one no move counts
  in_closed : (ms : List Move) → T (stops_in j ms) → (xs : List Move) → steps_before j (ms ++ xs) ≡ steps_before j ms
  in_closed [] t xs = absurd t
  in_closed (step_of i ∷ ms) t xs = ap (λ (r : ℕ). cond (eqb i j) (suc r) r) (in_closed ms t xs)
  in_closed (stop_of i ∷ ms) t xs = by (eqb i j) t (λ u. in_closed ms u xs)
    where
      by : (b : Bool) → T (b || stops_in j ms) → (T (stops_in j ms) → steps_before j (ms ++ xs) ≡ steps_before j ms)
          → cond b 0 (steps_before j (ms ++ xs)) ≡ cond b 0 (steps_before j ms)
      by true u later = refl
      by false u later = later u

  in_append : (ms xs : List Move) → stops_in j (ms ++ xs) ≡ (stops_in j ms || stops_in j xs)
  in_append [] xs = refl
  in_append (step_of i ∷ ms) xs = in_append ms xs
  in_append (stop_of i ∷ ms) xs = ap (λ (b : Bool). eqb i j || b) (in_append ms xs) ∙ sym (or_assoc (eqb i j) (stops_in j ms) (stops_in j xs))

  in_front : (ms xs : List Move) → T (stops_in j ms) → T (stops_in j (ms ++ xs))
  in_front ms xs t = subst⁻¹ T (in_append ms xs) (or_left (stops_in j ms) (stops_in j xs) t)

  in_last : (ms : List Move) → T (stops_in j (ms ++ (stop_of j ∷ [])))
  in_last ms =
      subst⁻¹ T (in_append ms (stop_of j ∷ [])) (or_right (stops_in j ms) (eqb j j || false) (or_left (eqb j j) false (held (eqb j j) (eq-eqb j j refl))))

-- ---- along a way

module _ (sheet proposals : List ℕ) (rules : Rules6 sheet) (j : ℕ) (least : 1 ≤ j) (most : j ≤ parties_of sheet) where
  abbrev n : ℕ
  n = parties_of sheet

  abbrev status_of : Session → ℕ
  status_of s = (party_of s.parties j).status

  abbrev steps_of : Session → ℕ
  steps_of s = (party_of s.parties j).steps

  seated : {s : Session} → Reached sheet proposals s → j ≤ length s.parties
  seated R = let few = rules.before.before.before.header.parties_most in let size = (reached_kept sheet proposals rules R).size in omega arith

  -- who is stopped had a stop
  stopped_in : {s : Session} (R : Reached sheet proposals s) → status_of s ≡ 3 → T (stops_in j (moves_on R))
  unfolding moves_on
  stopped_in here e = absurd (omega (arith, ap (λ (p : Party). p.status) (fresh_party_lem n j least most)))
  stopped_in (by_step {t} i a b R) e = in_front j (moves_on R) (step_of i ∷ []) (stopped_in R (was (ℕ_discrete j i)))
    where
      was : Dec (j ≡ i) → status_of t ≡ 3
      was (yes d) =
          let own : status_of (step t j) ≡ 3 = ap (λ (k : ℕ). status_of (step t k)) d ∙ e in
          ⊎_elim
          (λ live. absurd (let low = step_status t j (omega (arith, seated R)) live in omega arith))
          (λ over. sym (ap status_of (step_none t j least over)) ∙ own)
          (lt_or_le (status_of t) 2)
      was (no d) = sym (ap (λ (p : Party). p.status) (step_other t i a j least d)) ∙ e
  stopped_in (by_stop {t} i a b R) e = by (ℕ_discrete j i) (λ three. stopped_in R three)
    where
      by : Dec (j ≡ i) → (status_of t ≡ 3 → T (stops_in j (moves_on R))) → T (stops_in j (moves_on R ++ (stop_of i ∷ [])))
      by (yes d) before = subst (λ (k : ℕ). T (stops_in j (moves_on R ++ (stop_of k ∷ [])))) d (in_last j (moves_on R))
      by (no d) before = in_front j (moves_on R) (stop_of i ∷ []) (before (sym (ap (λ (p : Party). p.status) (stop_other t i a j least d)) ∙ e))

  -- who is stopped is not live
  stop_over : (t : Session) → j ≤ length t.parties → 2 ≤ status_of (stop t j)
  stop_over t l = subst⁻¹ (λ (p : Party). 2 ≤ p.status) (stop_own t j least l) (by (eqb (party_of t.parties j).status 2))
    where
      by : (b : Bool) → 2 ≤ cond b 2 3
      by true = omega arith
      by false = omega arith

  -- and who had one is not live
  in_over : {s : Session} (R : Reached sheet proposals s) → T (stops_in j (moves_on R)) → 2 ≤ status_of s
  unfolding moves_on
  in_over here u = absurd u
  in_over (by_step {t} i a b R) u = by (ℕ_discrete j i) (in_over R (front (or_cases (stops_in j (moves_on R)) false (subst T (in_append j (moves_on R) (step_of i ∷ [])) u))))
    where
      front : T (stops_in j (moves_on R)) ⊎ ⊥ → T (stops_in j (moves_on R))
      front (inl x) = x
      front (inr x) = absurd x

      by : Dec (j ≡ i) → 2 ≤ status_of t → 2 ≤ status_of (step t i)
      by (yes d) over = subst (λ (k : ℕ). 2 ≤ status_of (step t k)) d (subst⁻¹ (λ (s : Session). 2 ≤ status_of s) (step_none t j least over) over)
      by (no d) over = subst⁻¹ (λ (p : Party). 2 ≤ p.status) (step_other t i a j least d) over
  in_over (by_stop {t} i a b R) u =
      by (ℕ_discrete j i) (λ d x. in_over R (front d (or_cases (stops_in j (moves_on R)) (eqb i j || false) (subst T (in_append j (moves_on R) (stop_of i ∷ [])) x)))) u
    where
      front : j ≢ i → T (stops_in j (moves_on R)) ⊎ T (eqb i j || false) → T (stops_in j (moves_on R))
      front d (inl x) = x
      front d (inr x) = absurd (d (sym (eqb→eq i j (subst T (or-false (eqb i j)) x))))

      by : Dec (j ≡ i) → (j ≢ i → T (stops_in j (moves_on R ++ (stop_of i ∷ []))) → 2 ≤ status_of t) → T (stops_in j (moves_on R ++ (stop_of i ∷ []))) → 2 ≤ status_of (stop t i)
      by (yes d) before x = subst (λ (k : ℕ). 2 ≤ status_of (stop t k)) d (stop_over t (seated R))
      by (no d) before x = subst⁻¹ (λ (p : Party). 2 ≤ p.status) (stop_other t i a j least d) (before d x)

  -- decided, or as many own steps as steps were given before a stop
  Taken : {s : Session} → Reached sheet proposals s → Type 0
  Taken {s} R = (status_of s ≡ 2) ⊎ (steps_before j (moves_on R) ≤ steps_of s)

  stop_steps : (t : Session) → j ≤ length t.parties → steps_of (stop t j) ≡ steps_of t
  stop_steps t l = ap (λ (p : Party). p.steps) (stop_own t j least l)

  module _ {t : Session} (R : Reached sheet proposals t) (i : ℕ) (a : 1 ≤ i) (b : i ≤ n) (before : Taken R) where
    inside : j ≤ (layout t).parties
    inside = let same = reached_parties sheet proposals rules R in omega arith

    moves : List Move
    moves = moves_on R

    -- another party's move
    another : (u : Session) (m : Move) → party_of u.parties j ≡ party_of t.parties j → counts j m ≡ 0
        → (status_of u ≡ 2) ⊎ (steps_before j (moves_on R ++ (m ∷ [])) ≤ steps_of u)
    unfolding Taken
    another u m same none =
        ⊎_elim
        (λ e. inl (ap (λ (p : Party). p.status) same ∙ e))
        (λ l. inr (omega (arith, before_more j (moves_on R) m, ap (λ (p : Party). p.steps) same)))
        before

    -- an own step: one more, or that of a party that has decided, or of one that was stopped
    own_step : status_of (step t j) ≡ 2 ⊎ (steps_before j (moves_on R ++ (step_of j ∷ [])) ≤ steps_of (step t j))
    unfolding Taken
    own_step = ⊎_elim live over (lt_or_le (status_of t) 2)
      where
        one : counts j (step_of j) ≡ 1
        one = rw (eq-eqb j j refl)

        live : status_of t < 2 → status_of (step t j) ≡ 2 ⊎ (steps_before j (moves_on R ++ (step_of j ∷ [])) ≤ steps_of (step t j))
        live l =
            ⊎_elim
            (λ e. absurd (omega arith))
            (λ m. inr (omega (arith, before_more j (moves_on R) (step_of j), one, step_live t j (omega (arith, seated R)) l)))
            before

        over : 2 ≤ status_of t → status_of (step t j) ≡ 2 ⊎ (steps_before j (moves_on R ++ (step_of j ∷ [])) ≤ steps_of (step t j))
        over l = by (ℕ_discrete (status_of t) 2)
          where
            same : step t j ≡ t
            same = step_none t j least l

            by : Dec (status_of t ≡ 2) → status_of (step t j) ≡ 2 ⊎ (steps_before j (moves_on R ++ (step_of j ∷ [])) ≤ steps_of (step t j))
            by (yes e) = inl (ap status_of same ∙ e)
            by (no d) =
                let three : status_of t ≡ 3 = omega (arith, ((reached_kept sheet proposals rules R).orderly j least inside).status) in
                ⊎_elim
                (λ e. absurd (d e))
                (λ m. inr (omega (arith, in_closed j (moves_on R) (stopped_in R three) (step_of j ∷ []), ap steps_of same)))
                before

    own_stop : status_of (stop t j) ≡ 2 ⊎ (steps_before j (moves_on R ++ (stop_of j ∷ [])) ≤ steps_of (stop t j))
    unfolding Taken
    own_stop =
        ⊎_elim
        (λ e. inl (ap (λ (p : Party). p.status) (stop_decided t j least j least e) ∙ e))
        (λ l. inr (omega (arith, before_more j (moves_on R) (stop_of j), stop_steps t (seated R))))
        before

    after_step : Dec (j ≡ i) → Taken (by_step i a b R)
    unfolding Taken moves_on
    after_step (yes e) = subst (λ (k : ℕ). (status_of (step t k) ≡ 2) ⊎ (steps_before j (moves_on R ++ (step_of k ∷ [])) ≤ steps_of (step t k))) e own_step
    after_step (no d) = another (step t i) (step_of i) (step_other t i a j least d) (rw (ne_eqb i j (λ e. d (sym e))))

    after_stop : Dec (j ≡ i) → Taken (by_stop i a b R)
    unfolding Taken moves_on
    after_stop (yes e) = subst (λ (k : ℕ). (status_of (stop t k) ≡ 2) ⊎ (steps_before j (moves_on R ++ (stop_of k ∷ [])) ≤ steps_of (stop t k))) e own_stop
    after_stop (no d) = another (stop t i) (stop_of i) (stop_other t i a j least d) refl

  given_taken : {s : Session} (R : Reached sheet proposals s) → Taken R
  unfolding Taken moves_on
  given_taken here = inr (omega arith)
  given_taken (by_step i a b R) = after_step R i a b (given_taken R) (ℕ_discrete j i)
  given_taken (by_stop i a b R) = after_stop R i a b (given_taken R) (ℕ_discrete j i)

  enough_given : {s : Session} (R : Reached sheet proposals s) → step_limit n j ≤ steps_before j (moves_on R) → status_of s ≡ 2
  unfolding Taken
  enough_given R l = ⊎_elim (λ e. e) (λ m. reached_decides sheet proposals rules R j least most (omega arith)) (given_taken R)

-- ---- what moves make of the statuses of n parties

pub record Follows (n : ℕ) (s : Session) (moves : List Move) : Type 0 where
  -- a party that was given as many steps as its limit before any stop of its own has decided
  pub enough : (i : ℕ) → 1 ≤ i → i ≤ n → step_limit n i ≤ steps_before i moves → (party_of s.parties i).status ≡ 2
  -- a party with a stop of its own is not live, and one that is stopped had one
  pub over : (i : ℕ) → 1 ≤ i → i ≤ n → T (stops_in i moves) → 2 ≤ (party_of s.parties i).status
  pub stopped : (i : ℕ) → 1 ≤ i → i ≤ n → (party_of s.parties i).status ≡ 3 → T (stops_in i moves)

pub way_follows : (sheet proposals : List ℕ) → Rules6 sheet → {s : Session} (R : Reached sheet proposals s) → Follows (parties_of sheet) s (moves_on R)
way_follows sheet proposals rules R =
    record {
      enough = λ i l m. enough_given sheet proposals rules i l m R;
      over = λ i l m. in_over sheet proposals rules i l m R;
      stopped = λ i l m. stopped_in sheet proposals rules i l m R;
    }

-- of moves from the fresh session
pub moved_follows : (sheet proposals : List ℕ) → Rules6 sheet → {ms : List Move} → Ofs (parties_of sheet) ms
    → Follows (parties_of sheet) (moved_by (fresh_session sheet proposals (parties_of sheet)) ms) ms
unfolding moves_on
moved_follows sheet proposals rules {ms} os =
    let start = fresh_session sheet proposals (parties_of sheet) in
    let R : Reached sheet proposals (moved_by start ms) = moves_lead here os in
    subst (Follows (parties_of sheet) (moved_by start ms)) (moves_on_lem {s = start} {t = start} here os) (way_follows sheet proposals rules R)
