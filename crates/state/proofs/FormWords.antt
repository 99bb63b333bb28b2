-- A session's tests and its words go part by part: each test is a field, and a test over a range asks every entry.
use Prim.Native.Nat.{ℕ, suc, ◌+◌, ◌/◌, ◌%◌, ◌≤◌, ◌<◌}
use mathlib.Core.Path.{◌≡◌, refl, ap}
use mathlib.Core.Logic.{◌⊎◌, inl, inr, ⊎_elim, ◌↔◌}
use mathlib.Core.List.{List}
use mathlib.Core.Bool.{Bool, true, false, not, cond}
use native.Mathlib.Omega.{arith}
use lib.Dec.{T, eqb, ltb}
use lib.ListN.{length, get_or}
use Rattle.answers.specs.Answers.{Answer, answer, done}
use Rattle.rules.specs.Check.{header_ok, length_ok, check_answer}
use Rattle.sheet.specs.Rows.{layout_of}
use Rattle.rules.specs.Words.{Rules6}
use Rattle.sheet.proofs.Folds.{lt_or_le}
use Rattle.sheet.proofs.TestWords.{Tells, tells, eq_words, le_words, and_words, or_words, cond_words, not_words, range_words}
use Rattle.rules.proofs.Says.{check_says, rows, writers}
use Rattle.state.specs.Session.{carried_of, layout, no_party, party_of, cell}
use Rattle.state.specs.WellFormed.{carried_ok, marks_ok, is_lower, published_ok, proposals_ok, parties_ok, well_formed}
use Rattle.state.specs.WellFormed.{round_ok, scan_ok, party_ok, unused_ok}
use Rattle.state.specs.Words.{PartyRule, WellFormed}
use Rattle.state.specs.declared.kept.Party.{Party}
use Rattle.state.specs.declared.kept.Session.{Session}
use Rattle.state.proofs.Joins.{lt_words, within_words, either_words, if_words, same_words, past_words, most_words}

-- ---- the sheet

-- number 0 is done
record Settled (a : Answer) : Type 0 where
  zero : a.number ≡ 0 → a ≡ done

refusal : (n k : ℕ) → Settled (answer (suc n) k)
refusal n k = record { zero = λ e. absurd (omega arith) }

choice : {x y : Answer} (b : Bool) → Settled x → Settled y → Settled (cond b x y)
choice true f g = f
choice false f g = g

settled : (sheet : List ℕ) → Settled (check_answer sheet)
settled sheet =
    choice (ltb (length sheet) 8) (refusal 0 0)
    (choice (not (eqb (get_or sheet 2 0) 1)) (refusal 1 0)
    (choice (not (header_ok (layout_of sheet))) (refusal 2 0)
    (choice (not (length_ok sheet)) (refusal 3 0)
    (choice (eqb (rows sheet) 0)
    (choice (eqb (writers sheet) 0) (record { zero = λ e. refl }) (refusal 5 (writers sheet)))
    (refusal 4 (rows sheet))))))

pub accepted_says : (sheet : List ℕ) → T (eqb (check_answer sheet).number 0) ↔ Rules6 sheet
accepted_says sheet =
    let number = (eq_words (check_answer sheet).number 0).says in
    let says = (check_says sheet).accepted in
    (λ t. says.0 ((settled sheet).zero (number.0 t)), λ r. number.1 (ap (λ (a : Answer). a.number) (says.1 r)))

pub carried_words : (sheet : List ℕ)
    → Tells (carried_ok sheet) (Rules6 (carried_of sheet) × ((j : ℕ) → length (carried_of sheet) ≤ j → j < 1898 → get_or sheet j 0 ≡ 0))
carried_words sheet =
    and_words (tells (eqb (check_answer (carried_of sheet)).number 0) (accepted_says (carried_of sheet)))
    (λ _. past_words sheet (length (carried_of sheet)) 1898)

-- ---- a party

-- not from lo to 6
outside : (lo x : ℕ) → ((lo ≤ x) × (x ≤ 6) → ⊥) → (x < lo) ⊎ (7 ≤ x)
outside lo x n = ⊎_elim inl (λ h. inr (⊎_elim (λ g. absurd (n (h, omega arith))) (λ g. g) (lt_or_le x 7))) (lt_or_le x lo)

pub round_words : (n i : ℕ) (p : Party) → Tells (round_ok n i p) (
    ((1 ≤ p.place) × (p.place ≤ 6) → ((2 ≤ p.round) × (p.round ≤ n)) × (i ≤ p.round))
    × (((1 ≤ p.place) × (p.place ≤ 6) → ⊥) → p.round ≡ 0)
    )
round_words n i p =
    cond_words (within_words 1 6 p.place) (and_words (within_words 2 n p.round) (λ _. le_words i p.round)) (eq_words p.round 0)

pub scan_words : (p : Party) → Tells (scan_ok p) (
    ((4 ≤ p.place) × (p.place ≤ 6) → (1 ≤ p.k) × (p.k < p.round)) × (((4 ≤ p.place) × (p.place ≤ 6) → ⊥) → p.k ≡ 0)
    )
scan_words p = cond_words (within_words 4 6 p.place) (and_words (le_words 1 p.k) (λ _. lt_words p.k p.round)) (eq_words p.k 0)

pub party_says : (n : ℕ) (published : List ℕ) (i : ℕ) (p : Party) → T (party_ok n published i p) ↔ PartyRule n published i p
party_says n published i p =
    let status = p.status in
    let place = p.place in
    let ranges =
    and_words (and_words (and_words (le_words status 3) (λ _. le_words place 8)) (λ _. within_words 1 n p.candidate))
    (λ _. le_words p.steps 1000) in
    let lower = if_words (either_words (eq_words place 1) (eq_words place 3)) (lt_words i p.round) in
    let top =
    if_words (eq_words place 6)
    (and_words (eq_words i p.round) (λ _. not_words (eq_words (get_or published (cell p.round p.k) 0) 0))) in
    let idle = or_words (eq_words status 3) (same_words (eq_words status 0) (eq_words place 0)) in
    let steps = if_words (eq_words place 0) (eq_words p.steps 0) in
    let decision = or_words (eq_words status 2) (eq_words p.decision 0) in
    let statuses = and_words (and_words (and_words (same_words (eq_words status 2) (eq_words place 8)) (λ _. idle)) (λ _. steps)) (λ _. decision) in
    let scanned = and_words (and_words ranges (λ _. round_words n i p)) (λ _. scan_words p) in
    let parts = and_words (and_words (and_words scanned (λ _. lower)) (λ _. top)) (λ _. statuses) in (
      λ t.
          let (((((r, o), s), l), w), (((d, e), z), c)) = parts.says.0 t in
          record {
            status = r.0.0.0;
            place = r.0.0.1;
            candidate_least = r.0.1.0;
            candidate_most = r.0.1.1;
            steps = r.1;
            round_least = λ a b. (o.0 (a, b)).0.0;
            round_most = λ a b. (o.0 (a, b)).0.1;
            round_own = λ a b. (o.0 (a, b)).1;
            round_none = λ h. o.1 (λ b. ⊎_elim (λ q. omega arith) (λ q. omega arith) h);
            scan_least = λ a b. (s.0 (a, b)).0;
            scan_most = λ a b. (s.0 (a, b)).1;
            scan_none = λ h. s.1 (λ b. ⊎_elim (λ q. omega arith) (λ q. omega arith) h);
            lowers = l;
            top = λ h. (w h).0;
            witness = λ h. (w h).1;
            decided = d;
            idle = e;
            no_steps = z;
            no_decision = c;
          },
      λ r.
          let none : ((1 ≤ place) × (place ≤ 6) → ⊥) → (place ≡ 0) ⊎ (7 ≤ place) = λ b. ⊎_elim (λ h. inl (omega arith)) inr (outside 1 place b) in
          parts.says.1 (
            (
              (
                (
                  (
                    (((r.status, r.place), (r.candidate_least, r.candidate_most)), r.steps),
                    (λ b. ((r.round_least b.0 b.1, r.round_most b.0 b.1), r.round_own b.0 b.1), λ b. r.round_none (none b)),
                  ),
                  (λ b. (r.scan_least b.0 b.1, r.scan_most b.0 b.1), λ b. r.scan_none (outside 4 place b)),
                ),
                r.lowers,
              ),
              λ h. (r.top h, r.witness h),
            ),
            (((r.decided, r.idle), r.no_steps), r.no_decision),
          ),
    )

-- an entry past the parties
unused_words : (p : Party) → Tells (unused_ok p) (p ≡ no_party)
unused_words p =
    let zero : (x : ℕ) → Tells (eqb x 0) (x ≡ 0) = λ x. eq_words x 0 in
    let e =
    and_words
    (and_words
    (and_words
    (and_words (and_words (and_words (zero p.status) (λ _. zero p.place)) (λ _. zero p.round)) (λ _. zero p.k))
    (λ _. zero p.candidate))
    (λ _. zero p.steps))
    (λ _. zero p.decision) in
    tells (unused_ok p) (
      λ t. let ((((((a, b), c), d), e), f), g) = e.says.0 t in made a b c d e f g,
      λ q. e.says.1 (
        (
          (
            (((ap (λ (x : Party). x.status) q, ap (λ (x : Party). x.place) q), ap (λ (x : Party). x.round) q), ap (λ (x : Party). x.k) q),
            ap (λ (x : Party). x.candidate) q,
          ),
          ap (λ (x : Party). x.steps) q,
        ),
        ap (λ (x : Party). x.decision) q,
      ),
    )
  where
    made : {a b c d e f g : ℕ} → a ≡ 0 → b ≡ 0 → c ≡ 0 → d ≡ 0 → e ≡ 0 → f ≡ 0 → g ≡ 0
        → ◌≡◌ {A = Party} (record { status = a; place = b; round = c; k = d; candidate = e; steps = f; decision = g }) no_party
    made h i j k l m n = rw (h, i, j, k, l, m, n)

-- ---- the published candidates

lower_words : (n r k : ℕ) → Tells (is_lower n r k) (((2 ≤ r) × (r ≤ n)) × (k < r))
lower_words n r k = and_words (and_words (le_words 2 r) (λ _. le_words r n)) (λ _. lt_words k r)

module _ (n : ℕ) (published : List ℕ) (most : n ≤ 16) where
  published_words : Tells (published_ok n published) (
      ((r k : ℕ) → 2 ≤ r → r ≤ n → 1 ≤ k → k < r → get_or published (cell r k) 0 ≤ n)
      × ((j : ℕ) → j < 256 → ((r k : ℕ) → 2 ≤ r → r ≤ n → 1 ≤ k → k < r → j ≡ cell r k → ⊥) → get_or published j 0 ≡ 0)
      )
  published_words =
      let e = (range_words 0 256 (λ j. most_words (lower_words n (j / 16 + 1) (j % 16 + 1)) (get_or published j 0) n)).says in
      tells (published_ok n published) (
        λ t. (
          λ r k low high one less. (e.0 t (cell r k) (omega arith) (omega arith)).0 ((omega arith, omega arith), omega arith),
          λ j under none. (e.0 t j (omega arith) under).1 (λ ((a, b), c). none (j / 16 + 1) (j % 16 + 1) a b (omega arith) c (omega arith)),
        ),
        λ h. e.1 (λ j low under. (
          λ ((a, b), c).
              let place : cell (j / 16 + 1) (j % 16 + 1) ≡ j = omega arith in
              rw place at (h.0 (j / 16 + 1) (j % 16 + 1) a b (omega arith) c),
          λ none. h.1 j under (λ r k low high one less at. none ((omega arith, omega arith), omega arith)),
        )),
      )

-- ---- the session

-- each group of clauses is passed
pub record Passed (s : Session) : Type 0 where
  pub sheet : T (carried_ok s.sheet)
  pub marks : T (marks_ok (layout s).units s.marks)
  pub published : T (published_ok (layout s).parties s.published)
  pub proposals : T (proposals_ok (layout s).parties s.proposals)
  pub parties : T (parties_ok (layout s).parties s.published s.parties)

pub passed_says : (s : Session) → T (well_formed s) ↔ Passed s
passed_says s =
    let n = (layout s).parties in
    let test : (b : Bool) → Tells b (T b) = λ b. tells b (λ t. t, λ t. t) in
    let parts =
    and_words
    (and_words
    (and_words (and_words (test (carried_ok s.sheet)) (λ _. test (marks_ok (layout s).units s.marks))) (λ _. test (published_ok n s.published)))
    (λ _. test (proposals_ok n s.proposals)))
    (λ _. test (parties_ok n s.published s.parties)) in (
      λ t.
          let ((((a, b), c), d), e) = parts.says.0 t in
          record { sheet = a; marks = b; published = c; proposals = d; parties = e },
      λ p. parts.says.1 ((((p.sheet, p.marks), p.published), p.proposals), p.parties),
    )

marks_words : (units : ℕ) (marks : List ℕ) → Tells (marks_ok units marks)
    ((u : ℕ) → 0 ≤ u → u < 1024 → (u < units → get_or marks u 0 ≤ 2) × ((u < units → ⊥) → get_or marks u 0 ≡ 0))
marks_words units marks = range_words 0 1024 (λ u. most_words (lt_words u units) (get_or marks u 0) 2)

parties_words : (n : ℕ) (published : List ℕ) (parties : List Party) → Tells (parties_ok n published parties)
    ((i : ℕ) → 1 ≤ i → i < 17 → (i ≤ n → PartyRule n published i (party_of parties i)) × ((i ≤ n → ⊥) → party_of parties i ≡ no_party))
parties_words n published parties =
    range_words 1 16 (λ i.
    let p = party_of parties i in
    cond_words (le_words i n) (tells (party_ok n published i p) (party_says n published i p)) (unused_words p))

-- the parts in words; the bounds of the header are the accepted sheet's
pub well_formed_says : (s : Session) → T (well_formed s) ↔ WellFormed s
well_formed_says s =
    let n = (layout s).parties in
    let sheet = (carried_words s.sheet).says in
    let marks = (marks_words (layout s).units s.marks).says in
    let proposals = (past_words s.proposals n 16).says in
    let parties = (parties_words n s.published s.parties).says in (
      λ t.
          let p = (passed_says s).0 t in
          let (r, past) = sheet.0 p.sheet in
          let h = r.before.before.before.header in
          let units = h.units_most in
          let most = h.parties_most in
          let m = marks.0 p.marks in
          let q = (published_words n s.published most).says.0 p.published in
          let e = parties.0 p.parties in
          record {
            sheet = r;
            marks = λ u l. (m u (omega arith) (omega arith)).0 l;
            published = q.0;
            parties = λ i l g. (e i l (omega arith)).0 g;
            sheet_past = past;
            marks_past = λ u l g. (m u (omega arith) g).1 (λ b. omega arith);
            published_past = q.1;
            proposals_past = proposals.0 p.proposals;
            parties_past = λ i l g. (e i (omega arith) (omega arith)).1 (λ b. omega arith);
          },
      λ w.
          let h = w.sheet.before.before.before.header in
          (passed_says s).1
          (record {
            sheet = sheet.1 (w.sheet, w.sheet_past);
            marks = marks.1 (λ u l g. (w.marks u, λ b. w.marks_past u (omega arith) g));
            published = (published_words n s.published h.parties_most).says.1 (w.published, w.published_past);
            proposals = proposals.1 w.proposals_past;
            parties = parties.1 (λ i l g. (w.parties i l, λ b. w.parties_past i (omega arith) (omega arith)));
          }),
    )
