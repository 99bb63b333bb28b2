-- What a call tells is chosen by two tests, which say whether the session is well formed and has the party: by cases on them, then on the party's status.
use Prim.Native.Nat.{ℕ, zero, suc, ◌+◌, ◌-◌, ◌≤◌, ◌<◌}
use mathlib.Core.Path.{◌≡◌, refl, sym, ap, ◌∙◌, subst}
use mathlib.Core.Logic.{◌⊎◌, inl, inr, ⊎_elim, ◌↔◌}
use mathlib.Core.Bool.{Bool, true, false, not, ◌&&◌, cond}
use native.Mathlib.Omega.{arith}
use native.Mathlib.Decide.{ℕ_discrete}
use borrow.Author.Tests.{lt-ltb, eq-eqb, ne_eqb}
use lib.Dec.{T}
use lib.ListN.{length, get_or-eq_default}
use Rattle.sheet.specs.Lists.{from, all, within}
use Rattle.sheet.proofs.Folds.{holds, lt_or_le}
use Rattle.sheet.proofs.TestWords.{Tells, tells, not_words, range_words}
use Rattle.state.specs.Session.{layout, no_party, party_of}
use Rattle.state.specs.Words.{PartyRule, WellFormed}
use Rattle.state.specs.WellFormed.{well_formed}
use Rattle.state.specs.declared.kept.Party.{Party}
use Rattle.state.specs.declared.kept.Session.{Session}
use Rattle.state.proofs.Joins.{lt_words, within_words}
use Rattle.state.proofs.FormWords.{well_formed_says}
use Rattle.steps.specs.Step.{is_live, step, place_acted, stopped_party, stop}
use Rattle.steps.specs.Calls.{Told, told, unless_refused, unless_kept, count_of, live_number, live_told}
use Rattle.steps.specs.CallSays.{IsParty, Live, Over, StepSays, StoppedFrom, StopSays, LiveSays}
use Rattle.steps.proofs.Refusals.{Answer}
use Rattle.steps.proofs.Changes.{step_live, step_over, step_sheet, step_proposals}
use Rattle.steps.proofs.Turns.{step_other, stop_other, stop_own}

-- what equal answers have in common
apart : {a b : Told} → a ≡ b → a.number ≡ b.number
apart e = ap (λ (t : Told). t.number) e

value : {v x : ℕ} → told 0 v ≡ told 0 x → v ≡ x
value e = ap (λ (t : Told). t.value) e

-- ---- the two tests

module _ {A : Type 0} (v : ℕ) where
  by_nine : (w b : Bool) → T w ↔ A → Answer w b v ≡ told 9 0 ↔ (A → ⊥)
  by_nine true true e = (λ q. absurd (omega (arith, apart q)), λ n. absurd (n (e.0 tt)))
  by_nine true false e = (λ q. absurd (omega (arith, apart q)), λ n. absurd (n (e.0 tt)))
  by_nine false b e = (λ q. e.1, λ n. refl)

module _ {A B : Type 0} (v : ℕ) where
  by_ten : (w b : Bool) → T w ↔ A → T b ↔ B → Answer w b v ≡ told 10 0 ↔ A × (B → ⊥)
  by_ten true true e f = (λ q. absurd (omega (arith, apart q)), λ n. absurd (n.1 (f.0 tt)))
  by_ten true false e f = (λ q. (e.0 tt, f.1), λ n. refl)
  by_ten false b e f = (λ q. absurd (omega (arith, apart q)), λ n. absurd (e.1 n.0))

  by_value : (x : ℕ) (w b : Bool) → T w ↔ A → T b ↔ B → Answer w b v ≡ told 0 x ↔ A × B × (v ≡ x)
  by_value x true true e f = (λ q. (e.0 tt, f.0 tt, value q), λ n. ap (told 0) n.2)
  by_value x true false e f = (λ q. absurd (omega (arith, apart q)), λ n. absurd (f.1 n.1))
  by_value x false b e f = (λ q. absurd (omega (arith, apart q)), λ n. absurd (e.1 n.0))

  by_past : (w b : Bool) → T w ↔ A → T b ↔ B → (Answer w b v).number ≡ 0 → A × B
  by_past true true e f q = (e.0 tt, f.0 tt)
  by_past true false e f q = absurd (omega arith)
  by_past false b e f q = absurd (omega arith)

-- a call for party i that answers v and makes `after` of the session
module _ (s : Session) (i : ℕ) where
  abbrev formed : T (well_formed s) ↔ WellFormed s
  formed = well_formed_says s

  abbrev party : T (within 1 (layout s).parties i) ↔ IsParty s i
  party = (within_words 1 (layout s).parties i).says

  module _ (v : ℕ) where
    says_nine : unless_refused s i v ≡ told 9 0 ↔ (WellFormed s → ⊥)
    says_nine = by_nine v (well_formed s) (within 1 (layout s).parties i) formed

    says_ten : unless_refused s i v ≡ told 10 0 ↔ WellFormed s × (IsParty s i → ⊥)
    says_ten = by_ten v (well_formed s) (within 1 (layout s).parties i) formed party

    says_value : (x : ℕ) → unless_refused s i v ≡ told 0 x ↔ WellFormed s × IsParty s i × (v ≡ x)
    says_value x = by_value v x (well_formed s) (within 1 (layout s).parties i) formed party

    says_past : (unless_refused s i v).number ≡ 0 → WellFormed s × IsParty s i
    says_past = by_past v (well_formed s) (within 1 (layout s).parties i) formed party

  module _ (after : Session) where
    -- what holds of the session, and of `after` where i is a party, holds of what the call leaves
    leaves : (P : Session → Type 0) → P s → (WellFormed s → IsParty s i → P after) → P (unless_kept s i after)
    leaves P a b = by (well_formed s) (within 1 (layout s).parties i) formed party
      where
        by : (w b : Bool) → T w ↔ WellFormed s → T b ↔ IsParty s i → P (cond (w && b) after s)
        by true true e f = b (e.0 tt) (f.0 tt)
        by true false e f = a
        by false c e f = a

    -- past both tests that is `after`
    past_leaves : WellFormed s → IsParty s i → unless_kept s i after ≡ after
    past_leaves w b = rw (holds (well_formed s) (formed.1 w), holds (within 1 (layout s).parties i) (party.1 b))

    -- and after a refusal the session
    says_kept : (v : ℕ) → ((unless_refused s i v).number ≡ 0 → ⊥) → unless_kept s i after ≡ s
    says_kept v n = leaves (λ t. t ≡ s) refl (λ w b. absurd (n (apart ((says_value v v).1 (w, b, refl)))))

-- ---- a party of a well-formed session

live_below : (p : Party) → p.status < 2 ↔ Live p
live_below p = (λ h. ⊎_elim (λ l. inl (omega arith)) (λ l. inr (omega arith)) (lt_or_le p.status 1), ⊎_elim (λ e. omega arith) (λ e. omega arith))

over_above : (p : Party) → p.status ≤ 3 → 2 ≤ p.status ↔ Over p
over_above p most =
    (λ h. ⊎_elim (λ l. inl (omega arith)) (λ l. inr (omega arith)) (lt_or_le p.status 3), ⊎_elim (λ e. omega arith) (λ e. omega arith))

module _ (s : Session) (i : ℕ) (w : WellFormed s) (party : IsParty s i) where
  abbrev p : Party
  p = party_of s.parties i

  rule : PartyRule (layout s).parties s.published i p
  rule = w.parties i party.0 party.1

  -- its candidate is 1 or more, so its entries are there
  seated : i - 1 < length s.parties
  seated = ⊎_elim (λ h. h) (λ h. absurd (omega (arith, rule.candidate_least, none h))) (lt_or_le (i - 1) (length s.parties))
    where
      none : length s.parties ≤ i - 1 → p.candidate ≡ 0
      none h = ap (λ (q : Party). q.candidate) (get_or-eq_default s.parties no_party {n = i - 1} h)

  -- a live party acts at its place, which is not 8; else nothing changes
  at_place : Live p → (place_acted s i ≡ p.place) × (p.place ≡ 8 → ⊥)
  at_place l =
      let h = (live_below p).1 l in
      (rw (lt-ltb p.status 2 h), λ e. let two = rule.decided.1 e in omega arith)

  at_done : Over p → (step s i ≡ s) × (place_acted s i ≡ 8)
  at_done o = step_over s i seated ((over_above p rule.status).1 o)

  live_or_over : Live p ⊎ Over p
  live_or_over = ⊎_elim (λ h. inl ((live_below p).0 h)) (λ h. inr ((over_above p rule.status).0 h)) (lt_or_le p.status 2)

  done_over : place_acted s i ≡ 8 → Over p
  done_over e = ⊎_elim (λ l. let (a, n) = at_place l in absurd (n (sym a ∙ e))) (λ o. o) live_or_over

  place_live : (place : ℕ) → (place ≡ 8 → ⊥) → place_acted s i ≡ place → Live p × (p.place ≡ place)
  place_live place n e = ⊎_elim (λ l. (l, sym (at_place l).0 ∙ e)) (λ o. absurd (n (sym e ∙ (at_done o).1))) live_or_over

  -- what a stop makes of the party
  stopped_own : party_of (stop s i).parties i ≡ stopped_party p
  stopped_own = stop_own s i party.0 (let h = seated in let l = party.0 in omega arith)

  stopped_two : p.status ≡ 2 → (party_of (stop s i).parties i).status ≡ 2
  stopped_two e = ap (λ (q : Party). q.status) stopped_own ∙ rw (eq-eqb p.status 2 e)

  stopped_three : (p.status ≡ 2 → ⊥) → (party_of (stop s i).parties i).status ≡ 3
  stopped_three n = ap (λ (q : Party). q.status) stopped_own ∙ rw (ne_eqb p.status 2 n)

  stopped_from : StoppedFrom p (party_of (stop s i).parties i)
  stopped_from = record {
    stays = stopped_two;
    stops = stopped_three;
    place = ap (λ (q : Party). q.place) stopped_own;
    round = ap (λ (q : Party). q.round) stopped_own;
    k = ap (λ (q : Party). q.k) stopped_own;
    candidate = ap (λ (q : Party). q.candidate) stopped_own;
    steps = ap (λ (q : Party). q.steps) stopped_own;
    decision = ap (λ (q : Party). q.decision) stopped_own;
  }

-- ---- step and stop

pub step_says : (s : Session) (i : ℕ) → StepSays s i
step_says s i =
    let told_at = says_value s i (place_acted s i) in
    let past = past_leaves s i (step s i) in
    let left = leaves s i (step s i) in
    record {
      nine = says_nine s i (place_acted s i);
      ten = says_ten s i (place_acted s i);
      over = (
        λ q. let (w, b, e) = (told_at 8).0 q in (w, b, done_over s i w b e),
        λ (w, b, o). (told_at 8).1 (w, b, (at_done s i w b o).1),
      );
      acts = λ place n. (
        λ q. let (w, b, e) = (told_at place).0 q in let (l, at) = place_live s i w b place n e in (w, b, l, at),
        λ (w, b, l, at). (told_at place).1 (w, b, (at_place s i w b l).0 ∙ at),
      );
      kept = says_kept s i (step s i) (place_acted s i);
      same = λ q. let (w, b, e) = (told_at 8).0 q in past w b ∙ (at_done s i w b (done_over s i w b e)).0;
      counts = λ place n q.
          let (w, b, e) = (told_at place).0 q in
          let (l, at) = place_live s i w b place n e in
          ap (λ (t : Session). (party_of t.parties i).steps) (past w b)
          ∙ step_live s i (seated s i w b) ((live_below (party_of s.parties i)).1 l);
      others = λ j l n. left (λ t. party_of t.parties j ≡ party_of s.parties j) refl (λ w b. step_other s i b.0 j l n);
      sheet = left (λ t. t.sheet ≡ s.sheet) refl (λ w b. step_sheet s i);
      proposals = left (λ t. t.proposals ≡ s.proposals) refl (λ w b. step_proposals s i);
    }

pub stop_says : (s : Session) (i : ℕ) → StopSays s i
unfolding stop
stop_says s i =
    let status = (party_of (stop s i).parties i).status in
    let told_at = says_value s i status in
    let left = leaves s i (stop s i) in
    record {
      nine = says_nine s i status;
      ten = says_ten s i status;
      two = (
        λ q. let (w, b, e) = (told_at 2).0 q in (w, b, was_two w b e),
        λ (w, b, e). (told_at 2).1 (w, b, stopped_two s i w b e),
      );
      three = (
        λ q. let (w, b, e) = (told_at 3).0 q in (w, b, λ d. let two = stopped_two s i w b d in omega arith),
        λ (w, b, n). (told_at 3).1 (w, b, stopped_three s i w b n),
      );
      kept = says_kept s i (stop s i) status;
      after = λ q.
          let (w, b) = says_past s i status q in
          subst (λ (t : Session). StoppedFrom (party_of s.parties i) (party_of t.parties i)) (sym (past_leaves s i (stop s i) w b))
          (stopped_from s i w b);
      others = λ j l n. left (λ t. party_of t.parties j ≡ party_of s.parties j) refl (λ w b. stop_other s i b.0 j l n);
      marks = left (λ t. t.marks ≡ s.marks) refl (λ w b. refl);
      published = left (λ t. t.published ≡ s.published) refl (λ w b. refl);
      sheet = left (λ t. t.sheet ≡ s.sheet) refl (λ w b. refl);
      proposals = left (λ t. t.proposals ≡ s.proposals) refl (λ w b. refl);
    }
  where
    was_two : WellFormed s → IsParty s i → (party_of (stop s i).parties i).status ≡ 2 → (party_of s.parties i).status ≡ 2
    was_two w b e = by (ℕ_discrete (party_of s.parties i).status 2)
      where
        by : Dec ((party_of s.parties i).status ≡ 2) → (party_of s.parties i).status ≡ 2
        by (yes d) = d
        by (no n) = let three = stopped_three s i w b n in absurd (omega arith)

-- ---- live

module _ (f : ℕ → Bool) where
  -- a count over n numbers is at most n
  pub count_few : (a n : ℕ) → count_of f (from a n) ≤ n
  count_few a zero = omega arith
  count_few a (suc n) = by (f a) (count_few (suc a) n)
    where
      by : {r : ℕ} (b : Bool) → r ≤ n → cond b (suc r) r ≤ suc n
      by true h = omega arith
      by false h = omega arith

  -- none where every test fails, all where every test is passed
  count_none : (a n : ℕ) → Tells (all (λ x. not (f x)) (from a n)) (count_of f (from a n) ≡ 0)
  count_none a zero = tells true (λ t. refl, λ e. tt)
  count_none a (suc n) = by (f a) (count_none (suc a) n)
    where
      by : {c : Bool} {r : ℕ} (b : Bool) → Tells c (r ≡ 0) → Tells (not b && c) (cond b (suc r) r ≡ 0)
      by {c} {r} true h = tells false (λ t. absurd t, λ e. omega arith)
      by {c} {r} false h = h

  count_all : (a n : ℕ) → Tells (all f (from a n)) (count_of f (from a n) ≡ n)
  count_all a zero = tells true (λ t. refl, λ e. tt)
  count_all a (suc n) = by (f a) (count_few (suc a) n) (count_all (suc a) n)
    where
      by : {c : Bool} {r : ℕ} (b : Bool) → r ≤ n → Tells c (r ≡ n) → Tells (b && c) (cond b (suc r) r ≡ suc n)
      by {c} {r} true l h = tells c (λ t. ap suc (h.says.0 t), λ e. h.says.1 (omega arith))
      by {c} {r} false l h = tells false (λ t. absurd t, λ e. omega arith)

pub live_says : (s : Session) → LiveSays s
live_says s = record {
  nine = by_nine (live_number s) (well_formed s) true (well_formed_says s);
  given = λ w. (counted (live_number s)).1 (w, tt, refl);
  most = most (well_formed s);
  none = (
    λ q.
        let (w, _, e) = (counted 0).0 q in (
          w,
          λ i b.
              let p = party_of s.parties i in
              let over = none.0 ((count_none live 1 N).says.1 e) i b.0 (let m = b.1 in omega arith) in
              (over_above p (rule s i w b).status).0 (⊎_elim (λ h. absurd (over h)) (λ h. h) (lt_or_le p.status 2)),
        ),
    λ (w, o). (counted 0).1 (
      w,
      tt,
      (count_none live 1 N).says.0 (none.1 (λ i l m h.
          let b : IsParty s i = (l, omega arith) in
          let above = (over_above (party_of s.parties i) (rule s i w b).status).1 (o i b) in
          omega arith)),
    ),
  );
  all = (
    λ q.
        let (w, _, e) = (counted N).0 q in
        (w, λ i b. (live_below (party_of s.parties i)).0 (every.0 ((count_all live 1 N).says.1 e) i b.0 (let m = b.1 in omega arith))),
    λ (w, o). (counted N).1 (
      w,
      tt,
      (count_all live 1 N).says.0 (every.1 (λ i l m. (live_below (party_of s.parties i)).1 (o i (l, omega arith)))),
    ),
  );
}
  where
    N : ℕ
    N = (layout s).parties

    live : ℕ → Bool
    live i = is_live (party_of s.parties i)

    every : T (all live (from 1 N)) ↔ ((i : ℕ) → 1 ≤ i → i < 1 + N → (party_of s.parties i).status < 2)
    every = (range_words 1 N (λ i. lt_words (party_of s.parties i).status 2)).says

    none : T (all (λ i. not (live i)) (from 1 N)) ↔ ((i : ℕ) → 1 ≤ i → i < 1 + N → (party_of s.parties i).status < 2 → ⊥)
    none = (range_words 1 N (λ i. not_words (lt_words (party_of s.parties i).status 2))).says

    most : (w : Bool) → (Answer w true (live_number s)).value ≤ N
    most true = count_few live 1 N
    most false = omega arith

    counted : (x : ℕ) → live_told s ≡ told 0 x ↔ WellFormed s × T true × (live_number s ≡ x)
    counted x = by_value (live_number s) x (well_formed s) true (well_formed_says s) (λ t. t, λ t. t)
