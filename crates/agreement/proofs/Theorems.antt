-- Demand 3 is what is proved of reached sessions, brought to schedules, to calls, to the record and to built sheets.
use Prim.Native.Nat.{ℕ, ◌≤◌}
use mathlib.Core.List.{List, ◌++◌}
use mathlib.Core.Path.{◌≡◌, sym, ap, ◌∙◌, subst, subst₂}
use lib.Dec.{T}
use lib.ListN.{length}
use Rattle.sheet.specs.Rows.{parties_of}
use Rattle.sheet.specs.Lists.{all}
use Rattle.sheet.proofs.Folds.{and_both, all_append}
use Rattle.builder.specs.Build.{built_sheet}
use Rattle.builder.proofs.Theorems.{built_says}
use Rattle.state.specs.Session.{fresh_session, party_of}
use Rattle.state.specs.Readings.{of_parties}
use Rattle.state.specs.Opening.{opened}
use Rattle.state.specs.declared.kept.Session.{Session}
use Rattle.state.proofs.Openings.{opens}
use Rattle.record.specs.Record.{record_length, of_record}
use Rattle.steps.specs.Run.{byte_ok, moves_in, ran, run_out}
use Rattle.steps.specs.Trace.{called, acts, acts_told, values_told}
use Rattle.steps.specs.Reach.{here, Reached, Lasting, moves_on}
use Rattle.steps.proofs.Agreement.{lasting}
use Rattle.steps.proofs.Enough.{schedule_follows}
use Rattle.steps.proofs.Given.{Follows, way_follows}
use Rattle.steps.proofs.Moves.{obeyed_leads}
use Rattle.steps.proofs.Obeying.{obeyed_reached}
use Rattle.steps.proofs.RunCalls.{run_calls, run_told, run_acts}
use Rattle.steps.proofs.Schedules.{obeyed_append}
use Rattle.steps.proofs.Tally.{steps_acts, way_acts}
use Rattle.agreement.specs.Demand.{Opens}
use Rattle.agreement.specs.Statements.{OverRules, OfSchedule, OfCalls, OfRecord, Words, OverOpenings, OverBuilt}
use Rattle.agreement.proofs.Demands.{rules, demand}
use Rattle.agreement.proofs.Readings.{reads_itself, read, read_lasting}
use Rattle.agreement.proofs.Record.{answered, reads_record}

-- ---- over the rules

pub over_rules : OverRules
over_rules sheet proposals o s R =
    record {
      demand = demand sheet proposals o R;
      told =
          read sheet proposals o R (of_parties s.parties) (reads_itself (parties_of sheet) s) (moves_on R)
          (acts (fresh_session sheet proposals (parties_of sheet)) (moves_on R))
          (λ i least most. way_acts sheet proposals (rules o) o.count i least most R)
          (way_follows sheet proposals (rules o) R);
      later = λ t L. lasting sheet proposals (rules o) o.count R L;
    }

-- ---- over schedules, calls and the record

module _ (sheet proposals : List ℕ) (o : Opens sheet proposals) where
  abbrev n : ℕ
  n = parties_of sheet

  abbrev fresh : Session
  fresh = fresh_session sheet proposals n

  few : n ≤ 16
  few = (rules o).before.before.before.header.parties_most

  module _ (schedule : List ℕ) (good : T (all (byte_ok n) schedule)) where
    reached : Reached sheet proposals (ran sheet proposals schedule)
    reached = obeyed_reached sheet proposals (rules o) here schedule good

    counted : (i : ℕ) → 1 ≤ i → i ≤ n → (party_of (ran sheet proposals schedule).parties i).steps ≡ acts fresh (moves_in schedule) i
    counted i least most = steps_acts sheet proposals (rules o) o.count i least most schedule good

    follows : Follows n (ran sheet proposals schedule) (moves_in schedule)
    follows = schedule_follows sheet proposals (rules o) schedule good

    -- both parts of a longer schedule are good
    joined : (more : List ℕ) → T (all (byte_ok n) more) → T (all (byte_ok n) (schedule ++ more))
    joined more ok = subst T (sym (all_append (byte_ok n) schedule more)) (and_both (all (byte_ok n) schedule) (all (byte_ok n) more) good ok)

    longer : (more : List ℕ) → T (all (byte_ok n) more) → Lasting n proposals (ran sheet proposals schedule) (ran sheet proposals (schedule ++ more))
    longer more ok =
        subst (Lasting n proposals (ran sheet proposals schedule)) (sym (obeyed_append fresh schedule more))
        (lasting sheet proposals (rules o) o.count reached (obeyed_leads n few here more ok))

    of_schedule : OfSchedule sheet proposals schedule
    of_schedule =
        record {
          demand = demand sheet proposals o reached;
          told =
              read sheet proposals o reached (of_parties (ran sheet proposals schedule).parties) (reads_itself n (ran sheet proposals schedule))
              (moves_in schedule) (acts fresh (moves_in schedule)) counted follows;
          later = longer;
        }

    -- the session that the calls leave is the run's
    left : ran sheet proposals schedule ≡ called (opened sheet proposals) schedule
    left = run_calls sheet proposals (rules o) o.count schedule good

    abbrev after : Session
    after = called (opened sheet proposals) schedule

    of_calls : OfCalls sheet proposals schedule
    of_calls =
        let R = subst (Reached sheet proposals) left reached in
        record {
          opens = sym (opens sheet proposals o.accepted o.count);
          unrefused = run_told sheet proposals (rules o) o.count schedule good;
          demand = demand sheet proposals o R;
          told =
              read sheet proposals o R (of_parties after.parties) (reads_itself n after) (moves_in schedule)
              (λ i. acts_told i (moves_in schedule) (values_told (opened sheet proposals) schedule))
              (λ i least most.
              ap (λ (s : Session). (party_of s.parties i).steps) (sym left)
              ∙ counted i least most
              ∙ run_acts sheet proposals (rules o) o.count schedule good i)
              (subst (λ (s : Session). Follows n s (moves_in schedule)) left follows);
          later = λ more ok.
              subst₂ (Lasting n proposals) left (run_calls sheet proposals (rules o) o.count (schedule ++ more) (joined more ok)) (longer more ok);
        }

    of_record_lem : Words proposals → (out : List ℕ) → record_length n ≤ length out → OfRecord sheet proposals schedule out
    of_record_lem words out room =
        record {
          done = sym (answered sheet proposals o words schedule good out room);
          told =
              read sheet proposals o reached (of_record (run_out sheet proposals schedule out))
              (reads_record sheet proposals o words schedule good out room)
              (moves_in schedule) (acts fresh (moves_in schedule)) counted follows;
          later = λ more ok other wide.
              read_lasting sheet proposals o reached (longer more ok) (of_record (run_out sheet proposals schedule out)) (of_record (run_out sheet proposals (schedule ++ more) other))
              (reads_record sheet proposals o words schedule good out room)
              (reads_record sheet proposals o words (schedule ++ more) (joined more ok) other wide);
        }

pub over_openings : OverOpenings
over_openings sheet proposals o =
    record {
      schedule = of_schedule sheet proposals o;
      calls = of_calls sheet proposals o;
      run = λ words schedule good out room. of_record_lem sheet proposals o schedule good words out room;
    }

-- ---- over built sheets

pub over_built : OverBuilt
over_built kind bound n g proposals count =
    let b = built_says kind bound n g in
    over_openings (built_sheet kind bound n) proposals (record { accepted = b.accepted; count = count ∙ sym b.read_parties })
