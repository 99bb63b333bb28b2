-- A call writes only where it is done, and then as many bytes as it was lent: a whole session, or a sheet or a record over the front of its output.
use Prim.Native.Nat.{ℕ, ◌*◌, ◌≤◌}
use mathlib.Core.Path.{◌≡◌, refl, sym, ◌∙◌}
use mathlib.Core.List.{List, ◌++◌}
use mathlib.Core.Bool.{Bool, true, false, cond}
use native.Mathlib.Omega.{arith}
use borrow.Author.Tests.{ltb-false, eqb-true, eqb-false, ne_eqb}
use lib.Dec.{T, ltb, eqb}
use lib.ListN.{length, drop, length-append, length-drop}
use lib.Seq.{drop_at}
use Rattle.sheet.specs.Bytes.{num}
use Rattle.sheet.specs.Lists.{first_bad}
use Rattle.sheet.specs.Rows.{sheet_length, parties_of}
use Rattle.answers.specs.Answers.{Answer, answer, done}
use Rattle.rules.specs.Check.{check_answer}
use Rattle.builder.specs.Build.{built_sheet, build_answer, out_after}
use Rattle.builder.proofs.Says.{done_tells}
use Rattle.builder.proofs.Theorems.{built_says}
use Rattle.state.specs.Session.{fresh_session}
use Rattle.state.specs.Opening.{open_answer}
use Rattle.state.specs.declared.kept.Session.{Session}
use Rattle.state.proofs.Filled.{sheet_most}
use Rattle.state.proofs.FormWords.{accepted_says}
use Rattle.state.proofs.Openings.{opens_when}
use Rattle.record.specs.Record.{record_length, record_bytes}
use Rattle.record.proofs.Records.{length_record}
use Rattle.steps.specs.Calls.{Told, told}
use Rattle.steps.specs.Run.{byte_ok, run_answer, ran, run_out}
use Rattle.sheet.proofs.Ranges.{length_range}
use Rattle.image.specs.Image.{session_bytes, session_of}
use Rattle.host.specs.Calls.{proposals_for, host_open, open_bytes, on_session, bytes_after}
use Rattle.host.specs.Says.{Leaves, SamePast}
use Rattle.image.proofs.Inverse.{Full, length_full, full_session}
use Rattle.host.proofs.Lengths.{full_fresh, full_obeyed}

-- ---- bytes that are written where the number is 0

module _ (number : ℕ) (new old : List ℕ) where
  -- what is the same of both is so whichever is left
  same_left : {B : Type 0} (f : List ℕ → B) → (number ≡ 0 → f new ≡ f old) → f (cond (eqb number 0) new old) ≡ f old
  same_left f same = by (eqb number 0) refl
    where
      by : (b : Bool) → eqb number 0 ≡ b → f (cond b new old) ≡ f old
      by true e = same (eqb-true number 0 e)
      by false e = refl

  leaves : (number ≡ 0 → length new ≡ length old) → Leaves number old (cond (eqb number 0) new old)
  leaves same = record { kept = λ n. rw (ne_eqb number 0 n); count = same_left length same }

-- n bytes over the front
over_count : (front old : List ℕ) (n : ℕ) → length front ≡ n → n ≤ length old → length (front ++ drop n old) ≡ length old
over_count front old n size room = omega (arith, length-append front (drop n old), length-drop n old)

-- ---- build

module _ (kind bound n : ℕ) (out : List ℕ) where
  module _ (e : (build_answer kind bound n (length out)).number ≡ 0) where
    built_size : length (built_sheet kind bound n) ≡ sheet_length n
    built_size = (built_says kind bound n (done_tells kind bound n out e).0).whole

    built_room : sheet_length n ≤ length out
    built_room = (done_tells kind bound n out e).1

  abbrev put : List ℕ
  put = built_sheet kind bound n ++ drop (sheet_length n) out

  pub build_leaves : Leaves (build_answer kind bound n (length out)).number out (out_after kind bound n out)
  build_leaves =
      leaves (build_answer kind bound n (length out)).number put out
      (λ e. over_count (built_sheet kind bound n) out (sheet_length n) (built_size e) (built_room e))

  pub build_past_lem : SamePast (sheet_length n) out (out_after kind bound n out)
  build_past_lem =
      same_left (build_answer kind bound n (length out)).number put out (drop (sheet_length n))
      (λ e. drop_at (built_sheet kind bound n) (drop (sheet_length n) out) (sheet_length n) (built_size e))

-- ---- step and stop

pub session_leaves : (bytes : List ℕ) (tell : Session → Told) (after : Session → Session) → ((s : Session) → Full s → Full (after s))
    → Leaves (on_session bytes tell).number bytes (bytes_after bytes (on_session bytes tell) after)
session_leaves bytes tell after keeps =
    leaves (on_session bytes tell).number (session_bytes (after (session_of bytes))) bytes (λ e.
    let size = eqb-true (length bytes) 3418 (by (eqb (length bytes) 3418) (tell (session_of bytes)) e) in
    length_full (after (session_of bytes)) (keeps (session_of bytes) (full_session bytes size)) ∙ sym size)
  where
    by : (b : Bool) (t : Told) → (cond b t (told 9 0)).number ≡ 0 → b ≡ true
    by true t e = refl
    by false t e = absurd (omega arith)

-- ---- open and run

-- 11 unless the slice fits
pub fits_when : (b : Bool) → (cond b done (answer 11 0)).number ≡ 0 → b ≡ true
fits_when true e = refl
fits_when false e = absurd (omega arith)

-- an opening, then 8, then 11
ran_when : (a b c : Bool) (opening : Answer) (k : ℕ) → eqb opening.number 0 ≡ a
    → (cond a (cond b (cond c (answer 11 0) done) (answer 8 k)) opening).number ≡ 0 → (opening.number ≡ 0) × (c ≡ false)
ran_when true true true opening k e z = absurd (omega arith)
ran_when true true false opening k e z = (eqb-true opening.number 0 e, refl)
ran_when true false c opening k e z = absurd (omega arith)
ran_when false b c opening k e z = absurd (eqb-false opening.number 0 e z)

module _ (sheet proposals : List ℕ) where
  abbrev n : ℕ
  n = parties_of sheet

  abbrev ok : Bool
  ok = eqb (check_answer sheet).number 0

  abbrev numbers : List ℕ
  numbers = proposals_for sheet proposals

  abbrev fresh : Session
  fresh = fresh_session sheet numbers n

  module _ (t : T ok) where
    few : n ≤ 16
    few = ((accepted_says sheet).0 t).before.before.before.header.parties_most

    full : Full fresh
    full =
        let size = length_range (λ j. num proposals (4 * j) 4) 0 n in
        full_fresh sheet numbers n (sheet_most sheet ((accepted_says sheet).0 t)) (omega (arith, few)) few

  pub open_leaves : (session : List ℕ) → Leaves (host_open sheet proposals (length session)).number session (open_bytes sheet proposals session)
  open_leaves session =
      leaves (host_open sheet proposals (length session)).number (session_bytes fresh) session (λ e.
      let (t, _, z) = opens_when ok (eqb (length proposals) (4 * n)) (check_answer sheet) (cond (eqb (length session) 3418) done (answer 11 0)) refl e in
      length_full fresh (full t) ∙ sym (eqb-true (length session) 3418 (fits_when (eqb (length session) 3418) z)))

  module _ (schedule out : List ℕ) where
    abbrev written : List ℕ
    written = record_bytes n (ran sheet numbers schedule).parties

    -- where the run is done
    module _ (e : (run_answer sheet numbers schedule (length out)).number ≡ 0) where
      past : ((open_answer sheet numbers).number ≡ 0) × (ltb (length out) (record_length n) ≡ false)
      past =
          let bad = first_bad (byte_ok n) 1 schedule in
          ran_when (eqb (open_answer sheet numbers).number 0) (eqb bad 0) (ltb (length out) (record_length n)) (open_answer sheet numbers) _ refl e

      record_room : record_length n ≤ length out
      record_room = ltb-false (length out) (record_length n) past.1

      record_size : length written ≡ record_length n
      record_size =
          let t = (opens_when ok (eqb (length numbers) n) (check_answer sheet) done refl past.0).0 in
          let size = (full_obeyed fresh schedule (full t)).parties_full in
          length_record n (ran sheet numbers schedule).parties (omega (arith, few t))

    abbrev over : List ℕ
    over = written ++ drop (record_length n) out

    -- the record over the front of the output, or the output
    same_out : {B : Type 0} (f : List ℕ → B) → ((run_answer sheet numbers schedule (length out)).number ≡ 0 → f over ≡ f out)
        → f (run_out sheet numbers schedule out) ≡ f out
    same_out f same = same_left (run_answer sheet numbers schedule (length out)).number over out f same

    -- for any answer of the host's
    module _ (number : ℕ) where
      pub run_leaves : Leaves number out (cond (eqb number 0) (run_out sheet numbers schedule out) out)
      run_leaves =
          leaves number (run_out sheet numbers schedule out) out (λ _.
          same_out length (λ e. over_count written out (record_length n) (record_size e) (record_room e)))

      pub run_past : SamePast (record_length n) out (cond (eqb number 0) (run_out sheet numbers schedule out) out)
      run_past =
          same_left number (run_out sheet numbers schedule out) out (drop (record_length n)) (λ _.
          same_out (drop (record_length n)) (λ e. drop_at written (drop (record_length n) out) (record_length n) (record_size e)))
