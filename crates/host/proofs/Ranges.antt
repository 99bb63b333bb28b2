-- An answer is one of those that its tests choose from, and each fits: a row is one of 135, an index at most that of the byte heard as bad.
use Prim.Native.Nat.{ℕ, zero, suc, ◌-◌, ◌*◌, ◌^◌, ◌≤◌, ◌<◌}
use mathlib.Core.Path.{◌≡◌, refl, sym, subst}
use mathlib.Core.Logic.{◌≢◌, ⊎_elim}
use mathlib.Core.List.{List, [], ◌∷◌}
use mathlib.Core.Bool.{Bool, true, not, cond}
use native.Mathlib.Decide.{ℕ_discrete}
use native.Mathlib.Omega.{arith}
use borrow.Author.Tests.{not-false}
use lib.Dec.{ltb, eqb, T}
use lib.ListN.{length, get_or, take, set}
use lib.Seq.{length-take-le}
use Rattle.sheet.specs.Lists.{first_bad, within}
use Rattle.sheet.specs.Rows.{layout_of, slot, slots, sheet_length, parties_of}
use Rattle.answers.specs.Answers.{Answer, answer, done}
use Rattle.rules.specs.Check.{numbers_ok, header_ok, length_ok, check_answer}
use Rattle.sheet.specs.declared.rows.Slot.{Slot}
use Rattle.builder.specs.Build.{given, build_answer}
use Rattle.sheet.proofs.Folds.{held, lt_or_le}
use Rattle.sheet.proofs.FirstBad.{first_found}
use Rattle.sheet.proofs.Slots.{length_slots, count_most}
use Rattle.rules.proofs.RuleWords.{header_says}
use Rattle.rules.proofs.Says.{rows, writers}
use Rattle.state.specs.Session.{layout, no_party, party_of}
use Rattle.state.specs.Opening.{open_answer}
use Rattle.state.specs.WellFormed.{well_formed}
use Rattle.state.specs.declared.kept.Party.{Party}
use Rattle.state.specs.declared.kept.Session.{Session}
use Rattle.state.proofs.Joins.{within_words}
use Rattle.state.proofs.FormWords.{well_formed_says}
use Rattle.record.specs.Record.{record_length}
use Rattle.steps.specs.Step.{is_live, stopped_party, stop, place_acted}
use Rattle.steps.specs.Calls.{Told, unless_refused, step_told, stop_told, live_number, live_told}
use Rattle.steps.specs.Run.{byte_ok, run_answer}
use Rattle.steps.proofs.Refusals.{parties_few}
use Rattle.steps.proofs.CallSays.{count_few}
use Rattle.host.specs.Word.{word}
use Rattle.image.specs.Image.{session_of}
use Rattle.host.specs.Calls.{unless_unopened, proposals_for, on_session, bad_at, host_open}
use Rattle.host.specs.Says.{NoPosition, ReadBack}
use Rattle.host.proofs.Packing.{word_number, word_value, word_position}
use Rattle.host.proofs.Opened.{chosen}
use Rattle.host.proofs.Heard.{unheard, heard_bad}

-- the fields of an answer are in range, and zero where they say nothing
pub record Fits (number value position : ℕ) : Type 0 where
  pub number_most : number ≤ 12
  pub value_below : value < 2 ^ 24
  pub position_below : position < 2 ^ 32
  pub no_value : number ≢ 0 → value ≡ 0
  pub no_position : NoPosition number position

abbrev pub AnswerFits : Answer → Type 0
AnswerFits a = Fits a.number 0 a.position

abbrev pub ToldFits : Told → Type 0
ToldFits t = Fits t.number t.value t.position

pub read_back : {n v p : ℕ} → Fits n v p → ReadBack (word n v p) n v p
read_back {n} {v} {p} f =
    let few : n < 256 = omega arith in
    record {
      read_number = word_number n v p few;
      read_value = word_value n v p few f.value_below f.position_below;
      read_position = word_position n v p few f.value_below f.position_below;
    }

-- ---- answers by their tests

-- an answer that has no value
refuses : (n k : ℕ) → n ≤ 12 → k < 2 ^ 32 → NoPosition n k → Fits n 0 k
refuses n k most below none =
    record { number_most = most; value_below = omega arith; position_below = below; no_value = λ z. refl; no_position = none }

-- nor a position
plain : (n : ℕ) → n ≤ 12 → Fits n 0 0
plain n most = refuses n 0 most (omega arith) (λ a b c. refl)

-- a value that is told
tells : (v : ℕ) → v < 2 ^ 24 → Fits 0 v 0
tells v h =
    record { number_most = omega arith; value_below = h; position_below = omega arith; no_value = λ z. absurd (z refl); no_position = λ a b c. refl }

-- ---- the sheet

-- the first failing place, counted from 1, is one of the list's
first_most : {A : Type 0} (f : A → Bool) (d : A) (xs : List A) → first_bad f 1 xs ≤ length xs
first_most f d xs = by (ℕ_discrete (first_bad f 1 xs) 0)
  where
    by : Dec (first_bad f 1 xs ≡ 0) → first_bad f 1 xs ≤ length xs
    by (yes e) = omega arith
    by (no n) = let r = first_found f d 1 xs n in let at = r.1 in let low = r.2 in omega arith

row_few : (s : List ℕ) (f : Slot → Bool) → header_ok (layout_of s) ≡ true → first_bad f 1 (slots (layout_of s).parties) < 2 ^ 32
row_few s f e =
    let n = (layout_of s).parties in
    let header = (header_says (layout_of s)).0 (held (header_ok (layout_of s)) e) in
    let size = length_slots n header.parties_least in
    let few = count_most n header.parties_most in
    omega (arith, first_most f (slot 2 1) (slots n))

pub check_fits : (s : List ℕ) → AnswerFits (check_answer s)
check_fits s =
    chosen AnswerFits (ltb (length s) 8) (λ _. plain 1 (omega arith)) (λ _.
    chosen AnswerFits (not (eqb (get_or s 2 0) 1)) (λ _. plain 2 (omega arith)) (λ _.
    chosen AnswerFits (not (header_ok (layout_of s))) (λ _. plain 3 (omega arith)) (λ h.
    let few : (f : Slot → Bool) → first_bad f 1 (slots (layout_of s).parties) < 2 ^ 32 = λ f. row_few s f (not-false (header_ok (layout_of s)) h) in
    chosen AnswerFits (not (length_ok s)) (λ _. plain 4 (omega arith)) (λ _.
    chosen AnswerFits (eqb (rows s) 0) (λ _.
    chosen AnswerFits (eqb (writers s) 0) (λ _. plain 0 (omega arith))
    (λ _. refuses 6 (writers s) (omega arith) (few _) (λ a b c. absurd (b refl))))
    (λ _. refuses 5 (rows s) (omega arith) (few _) (λ a b c. absurd (a refl)))))))

pub build_fits : (kind bound n len : ℕ) → AnswerFits (build_answer kind bound n len)
build_fits kind bound n len =
    chosen AnswerFits (not (numbers_ok kind bound n)) (λ _. plain 3 (omega arith)) (λ _.
    chosen AnswerFits (not (given kind bound n)) (λ _. plain 12 (omega arith)) (λ _.
    chosen AnswerFits (ltb len (sheet_length n)) (λ _. plain 11 (omega arith)) (λ _. plain 0 (omega arith))))

-- ---- open and run

module _ (sheet proposals : List ℕ) where
  abbrev ok : Bool
  ok = eqb (check_answer sheet).number 0

  -- a refused check, then 7, then the rest
  past_check : (counted : Bool) (rest : Answer) → AnswerFits rest → AnswerFits (cond ok (cond counted rest (answer 7 0)) (check_answer sheet))
  past_check counted rest f = chosen AnswerFits ok (λ _. chosen AnswerFits counted (λ _. f) (λ _. plain 7 (omega arith))) (λ _. check_fits sheet)

  abbrev slice : Bool
  slice = eqb (length proposals) (4 * parties_of sheet)

  pub open_fits : (len : ℕ) → AnswerFits (host_open sheet proposals len)
  open_fits len = past_check slice _ (chosen AnswerFits (eqb len 3418) (λ _. plain 0 (omega arith)) (λ _. plain 11 (omega arith)))

  abbrev numbers : List ℕ
  numbers = proposals_for sheet proposals

  -- a run of a schedule whose first bad byte has an index that fits
  pub run_fits : (schedule : List ℕ) (len : ℕ) → first_bad (byte_ok (parties_of sheet)) 1 schedule ≤ 2 ^ 32
      → AnswerFits (unless_unopened sheet proposals (run_answer sheet numbers schedule len))
  run_fits schedule len most = past_check slice _ run
    where
      bad : ℕ
      bad = first_bad (byte_ok (parties_of sheet)) 1 schedule

      run : AnswerFits (run_answer sheet numbers schedule len)
      run =
          chosen AnswerFits (eqb (open_answer sheet numbers).number 0) (λ _.
          chosen AnswerFits (eqb bad 0) (λ _.
          chosen AnswerFits (ltb len (record_length (parties_of sheet))) (λ _. plain 11 (omega arith)) (λ _. plain 0 (omega arith)))
          (λ _. refuses 8 (bad - 1) (omega arith) (omega arith) (λ a b c. absurd (c refl))))
          (λ _. past_check (eqb (length numbers) (parties_of sheet)) done (plain 0 (omega arith)))

-- the first bad byte of a schedule whose byte at an index counts as bad has at most that index
pub heard_most : (last limit : ℕ) (sheet schedule : List ℕ) → suc last ≤ limit
    → first_bad (byte_ok (parties_of sheet)) 1 (bad_at last schedule) ≤ limit
heard_most last limit sheet schedule h = ⊎_elim long short (lt_or_le last (length schedule))
  where
    good : ℕ → Bool
    good = byte_ok (parties_of sheet)

    within_front : last < length schedule → first_bad good 1 (take last schedule) ≤ last
    within_front l = let size = length-take-le last schedule (omega arith) in omega (arith, first_most good 0 (take last schedule))

    long : last < length schedule → first_bad good 1 (bad_at last schedule) ≤ limit
    long l =
        subst (λ (k : ℕ). k ≤ limit) (sym (heard_bad last sheet [] schedule l))
        (chosen (λ (k : ℕ). k ≤ limit) (eqb (first_bad good 1 (take last schedule)) 0) (λ _. omega arith) (λ _. omega (arith, within_front l)))

    short : length schedule ≤ last → first_bad good 1 (bad_at last schedule) ≤ limit
    short l =
        subst (λ (s : List ℕ). first_bad good 1 s ≤ limit) (sym (unheard last schedule l)) (omega (arith, first_most good 0 schedule))

-- ---- step, stop and live

-- what a call tells of every session fits
pub on_session_lem : (bytes : List ℕ) (tell : Session → Told) → ((s : Session) → ToldFits (tell s)) → ToldFits (on_session bytes tell)
on_session_lem bytes tell f = chosen ToldFits (eqb (length bytes) 3418) (λ _. f (session_of bytes)) (λ _. plain 9 (omega arith))

-- the value fits where the session is well formed and has the party
unless_refused_lem : (s : Session) (i v : ℕ) → (T (well_formed s) → 1 ≤ i → i ≤ (layout s).parties → v < 2 ^ 24) → ToldFits (unless_refused s i v)
unless_refused_lem s i v f =
    chosen ToldFits (well_formed s) (λ w.
    chosen ToldFits (within 1 (layout s).parties i) (λ e.
    let (least, most) = (within_words 1 (layout s).parties i).says.0 (held _ e) in
    tells v (f (held (well_formed s) w) least most))
    (λ _. plain 10 (omega arith)))
    (λ _. plain 9 (omega arith))

-- a place is at most 8
pub step_fits : (s : Session) (i : ℕ) → ToldFits (step_told s i)
step_fits s i =
    unless_refused_lem s i (place_acted s i) (λ w least most.
    let rule = ((well_formed_says s).0 w).parties i least most in
    chosen (λ (k : ℕ). k < 2 ^ 24) (is_live (party_of s.parties i)) (λ _. omega (arith, rule.place)) (λ _. omega arith))

-- a status afterwards is 2 or 3, that of no party 0
pub stop_fits : (s : Session) (i : ℕ) → ToldFits (stop_told s i)
unfolding stop
stop_fits s i =
    unless_refused_lem s i (party_of (stop s i).parties i).status (λ _ _ _. at s.parties (i - 1) (stopped_party p) no_party status (omega arith))
  where
    p : Party
    p = party_of s.parties i

    status : (stopped_party p).status < 2 ^ 24
    status = chosen (λ (k : ℕ). k < 2 ^ 24) (eqb p.status 2) (λ _. omega arith) (λ _. omega arith)

    at : (ps : List Party) (k : ℕ) (q d : Party) → q.status < 2 ^ 24 → d.status < 2 ^ 24 → (get_or (set ps k q) k d).status < 2 ^ 24
    at [] k q d l h = h
    at (x ∷ ps) zero q d l h = l
    at (x ∷ ps) (suc k) q d l h = at ps k q d l h

pub live_fits : (s : Session) → ToldFits (live_told s)
live_fits s =
    chosen ToldFits (well_formed s)
    (λ w.
    let few = parties_few s (held (well_formed s) w) in
    tells (live_number s) (omega (arith, count_few (λ i. is_live (party_of s.parties i)) 1 (layout s).parties)))
    (λ _. plain 9 (omega arith))
