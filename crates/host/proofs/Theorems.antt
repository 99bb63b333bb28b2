-- Demand 3 of the host's calls is that of the moves which they stand for, read off the bytes of the session that they lead to; of its run that of the record.
use Prim.Native.Nat.{ℕ, ◌*◌, ◌%◌, ◌≤◌}
use mathlib.Core.Path.{◌≡◌, refl, sym, ap, ◌∙◌, subst, subst⁻¹, subst₂}
use mathlib.Core.Logic.{⊎_elim}
use mathlib.Core.List.{List, [], ◌++◌, map}
use mathlib.Core.Bool.{cond}
use native.Mathlib.Omega.{arith}
use borrow.Author.Tests.{eq-eqb, eqb-true}
use lib.Dec.{T, eqb}
use lib.ListN.{length, drop}
use Rattle.sheet.specs.Rows.{parties_of}
use Rattle.sheet.specs.Lists.{all}
use Rattle.sheet.proofs.Folds.{and_right, all_append, lt_or_le}
use Rattle.sheet.proofs.FirstBad.{first_none}
use Rattle.answers.specs.Answers.{Answer, answer, done}
use Rattle.rules.specs.Check.{check_answer}
use Rattle.rules.proofs.Says.{past_6}
use Rattle.builder.specs.Build.{built_sheet}
use Rattle.builder.proofs.Theorems.{built_says}
use Rattle.state.specs.Session.{fresh_session, party_of}
use Rattle.state.specs.declared.kept.Session.{Session}
use Rattle.state.proofs.Openings.{opens_when}
use Rattle.image.specs.Image.{session_bytes, party_from, party_place, of_image, Below, Sized}
use Rattle.image.proofs.Inverse.{length_session}
use Rattle.record.specs.Record.{record_length, of_record}
use Rattle.steps.specs.Moves.{Move, moved_by}
use Rattle.steps.specs.Run.{byte_ok, moves_in, run_answer, run_out}
use Rattle.steps.specs.Trace.{acts, acts_told}
use Rattle.steps.specs.Reach.{Reached, Lasting, here}
use Rattle.steps.proofs.Agreement.{lasting}
use Rattle.steps.proofs.Given.{Follows, moved_follows}
use Rattle.steps.proofs.Moves.{moves_lead, moved_append}
use Rattle.steps.proofs.Tally.{moves_acts}
use Rattle.steps.proofs.RunSays.{run_tells}
use Rattle.agreement.specs.Demand.{Opens, proposal_of, Demanded, LastingRead}
use Rattle.agreement.specs.Statements.{OfRecord, Words}
use Rattle.agreement.proofs.Demands.{rules}
use Rattle.agreement.proofs.Readings.{Says, Reads, read, read_lasting, demanded_by, lasting_by}
use Rattle.agreement.proofs.Theorems.{over_openings}
use Rattle.host.specs.Word.{answer_word}
use Rattle.host.specs.Calls.{proposals_for, host_open, open_bytes, last_index, heard, host_run, run_bytes}
use Rattle.host.specs.Demand.{proposal_in, after_all, words_of, values_in, left_by, OfHost, OverHostCalls, OfHostRun, Runs, HostRunDone, LaterRun, OverHostRuns, OverHostBuilt}
use Rattle.host.proofs.Fitting.{reached_sized}
use Rattle.host.proofs.Heard.{unheard, heard_some}
use Rattle.host.proofs.PartyCalls.{party_calls, all_of_parties, parties_append, calls_follow}
use Rattle.host.proofs.Encoded.{calls_leave, calls_number, calls_acts}
use Rattle.host.proofs.Reading.{party_at, says}
use Rattle.host.proofs.Openings.{Passed, passed, open_bytes_lem, opens, proposals_in_lem, words, built_below, built_opens}

-- ---- calls

module _ (sheet proposals session : List ℕ) (sheet_low : Below 256 sheet) (proposals_low : Below 256 proposals)
    (opened : host_open sheet proposals (length session) ≡ done) where
  abbrev n : ℕ
  n = parties_of sheet

  abbrev numbers : List ℕ
  numbers = proposals_for sheet proposals

  abbrev start : Session
  start = fresh_session sheet numbers n

  pass : Passed sheet proposals (length session)
  pass = passed sheet proposals (length session) opened

  o : Opens sheet numbers
  o = opens sheet proposals proposals_low pass.accepted pass.count

  few : n ≤ 16
  few = (rules o).before.before.before.header.parties_most

  wide : Words numbers
  wide = words sheet proposals proposals_low pass.accepted pass.count

  -- what is said of the opened bytes
  fresh : {A : Type 0} (f : List ℕ → A) → f (open_bytes sheet proposals session) ≡ f (session_bytes start)
  fresh f = ap f (open_bytes_lem sheet proposals session opened)

  -- each party's proposal
  each : (h : ℕ) → 1 ≤ h → h ≤ n → proposal_of numbers h ≡ proposal_in proposals h
  each = proposals_in_lem sheet proposals proposals_low pass.accepted pass.count

  module _ (calls : List Move) where
    abbrev s : Session
    s = moved_by start (party_calls n calls)

    R : Reached sheet numbers s
    R = moves_lead here (all_of_parties n calls)

    sized : Sized s
    sized = reached_sized sheet numbers o sheet_low wide R

    abbrev bytes : List ℕ
    bytes = left_by sheet proposals session calls

    left : bytes ≡ session_bytes s
    left = fresh (λ b. after_all b calls) ∙ calls_leave sheet numbers o sheet_low wide here calls

    shown : Reads n s (of_image bytes)
    shown i least most = subst⁻¹ (λ (b : List ℕ). Says (party_of s.parties i) (of_image b) i) left (says s sized i least (omega (arith, few)))

    -- the bytes say each party whole
    whole : (i : ℕ) → 1 ≤ i → i ≤ n → party_from (drop (party_place i) bytes) ≡ party_of s.parties i
    whole i least most = ap (λ (b : List ℕ). party_from (drop (party_place i) b)) left ∙ party_at s sized i least (omega (arith, few))

    counted : (i : ℕ) → 1 ≤ i → i ≤ n → (party_of s.parties i).steps ≡ acts_told i calls (values_in (words_of (open_bytes sheet proposals session) calls))
    counted i least most =
        moves_acts sheet numbers (rules o) o.count i least most (all_of_parties n calls)
        ∙ sym (calls_acts sheet numbers o sheet_low wide i least most here calls)
        ∙ sym (fresh (λ b. acts_told i calls (values_in (words_of b calls))))

    follows : Follows n s calls
    follows = calls_follow (moved_follows sheet numbers (rules o) (all_of_parties n calls))

  of_calls : (calls : List Move) → OfHost sheet proposals session calls
  of_calls calls =
      record {
        opens = opened;
        length = ap length (left calls) ∙ length_session (s calls) (sized calls);
        numbers = fresh (λ b. map (λ w. w % 256) (words_of b calls)) ∙ calls_number sheet numbers o sheet_low wide here calls;
        told =
            demanded_by each
            (read sheet numbers o (R calls) (of_image (bytes calls)) (shown calls) calls
            (λ i. acts_told i calls (values_in (words_of (open_bytes sheet proposals session) calls)))
            (counted calls)
            (follows calls));
        later = λ more.
            lasting_by each
            (read_lasting sheet numbers o (R calls) (longer more) (of_image (bytes calls)) (of_image (bytes (calls ++ more))) (shown calls) (shown (calls ++ more)));
        rests = λ more i least most over.
            whole (calls ++ more) i least most
            ∙ (longer more).rests i least most (subst (λ (k : ℕ). 2 ≤ k) (shown calls i least most).status over)
            ∙ sym (whole calls i least most);
      }
    where
      longer : (more : List Move) → Lasting n numbers (s calls) (s (calls ++ more))
      longer more =
          subst (Lasting n numbers (s calls))
          (sym (ap (moved_by start) (parties_append n calls more) ∙ moved_append start (party_calls n calls) (party_calls n more)))
          (lasting sheet numbers (rules o) o.count (R calls) (moves_lead here (all_of_parties n more)))

pub over_host_calls : OverHostCalls
over_host_calls = of_calls

-- ---- a run

module _ (sheet proposals schedule out : List ℕ) (r : Runs sheet proposals schedule out) where
  abbrev runners : List ℕ
  runners = proposals_for sheet proposals

  open_run : Opens sheet runners
  open_run = opens sheet proposals r.bytes r.accepted r.count

  of_record_lem : OfRecord sheet runners schedule out
  of_record_lem =
      (over_openings sheet runners open_run).run (words sheet proposals r.bytes r.accepted r.count) schedule r.good out r.room

  -- the call is done, as the run is
  answers_done : host_run sheet proposals schedule (length out) ≡ done
  answers_done =
      let a = ap (λ (x : Answer). eqb x.number 0) r.accepted in
      let b = eq-eqb (length proposals) (4 * parties_of sheet) r.count in
      let c = ap (λ (l : List ℕ). run_answer sheet runners l (length out)) (unheard last_index schedule r.indexed) ∙ of_record_lem.done in
      λ i. cond (a i) (cond (b i) (c i) (answer 7 0)) (check_answer sheet)

  -- and its bytes are the record's
  pub run_bytes_lem : run_bytes sheet proposals schedule out ≡ run_out sheet runners schedule out
  run_bytes_lem = ap (λ (a : Answer). cond (eqb a.number 0) (run_out sheet runners schedule out) out) answers_done

  of_run : OfHostRun sheet proposals schedule out
  of_run =
      record {
        word = ap answer_word answers_done;
        told =
            subst⁻¹
            (λ (bytes : List ℕ).
            Demanded (parties_of sheet) (proposal_in proposals) (moves_in schedule) (acts (fresh_session sheet runners (parties_of sheet)) (moves_in schedule))
            (of_record bytes))
            run_bytes_lem
            (demanded_by (proposals_in_lem sheet proposals r.bytes r.accepted r.count) of_record_lem.told);
      }

-- and it is done only so: it opens, and a byte at the last index would be a bad one
done_runs : (sheet proposals schedule out : List ℕ) → Below 256 proposals → host_run sheet proposals schedule (length out) ≡ done
    → Runs sheet proposals schedule out
done_runs sheet proposals schedule out low e =
    let n = parties_of sheet in
    let numbers = proposals_for sheet proposals in
    let (_, each, zero) =
    opens_when (eqb (check_answer sheet).number 0) (eqb (length proposals) (4 * n)) (check_answer sheet)
    (run_answer sheet numbers (heard schedule) (length out)) refl (ap (λ (a : Answer). a.number) e) in
    let (((r, _), good), room) = run_tells sheet numbers (heard schedule) out zero in
    let short : length schedule ≤ last_index =
    ⊎_elim (λ long. absurd (heard_some last_index sheet [] schedule long (first_none (byte_ok n) 1 (heard schedule) good))) (λ l. l)
    (lt_or_le last_index (length schedule)) in
    record {
      accepted = past_6 sheet r;
      bytes = low;
      count = eqb-true (length proposals) (4 * n) each;
      good = subst (λ (l : List ℕ). T (all (byte_ok n) l)) (unheard last_index schedule short) good;
      indexed = short;
      room = room;
    }

pub host_run_done : HostRunDone
host_run_done sheet proposals schedule out low = (done_runs sheet proposals schedule out low, answers_done sheet proposals schedule out)

later_run : (sheet proposals schedule out : List ℕ) → Runs sheet proposals schedule out → LaterRun sheet proposals schedule out
later_run sheet proposals schedule out r more other q =
    subst₂ (λ (a b : List ℕ). LastingRead (parties_of sheet) (proposal_in proposals) (of_record a) (of_record b))
    (sym (run_bytes_lem sheet proposals schedule out r))
    (sym (run_bytes_lem sheet proposals (schedule ++ more) other q))
    (lasting_by (proposals_in_lem sheet proposals r.bytes r.accepted r.count) ((of_record_lem sheet proposals schedule out r).later more second other q.room))
  where
    second : T (all (byte_ok (parties_of sheet)) more)
    second =
        and_right (all (byte_ok (parties_of sheet)) schedule) (all (byte_ok (parties_of sheet)) more)
        (subst T (all_append (byte_ok (parties_of sheet)) schedule more) q.good)

pub over_host_runs : OverHostRuns
over_host_runs sheet proposals schedule out r = (of_run sheet proposals schedule out r, later_run sheet proposals schedule out r)

-- ---- a built sheet

pub over_host_built : OverHostBuilt
over_host_built kind bound n g proposals low count =
    let b = built_says kind bound n g in
    let parties = b.read_parties in
    record {
      calls = λ session size.
          of_calls (built_sheet kind bound n) proposals session (built_below kind bound n g) low (built_opens kind bound n g proposals session count size);
      run = λ schedule out good indexed room.
          over_host_runs (built_sheet kind bound n) proposals schedule out
          (record {
            accepted = b.accepted;
            bytes = low;
            count = count ∙ ap (λ (k : ℕ). 4 * k) (sym parties);
            good = subst⁻¹ (λ (k : ℕ). T (all (byte_ok k) schedule)) parties good;
            indexed = indexed;
            room = subst⁻¹ (λ (k : ℕ). record_length k ≤ length out) parties room;
          });
    }
