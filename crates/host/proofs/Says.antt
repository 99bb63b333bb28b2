-- What the host's promises rest on for a reader: each statement of `specs/Says.antt`, gathered from the laws about its calls.
use Prim.Native.Nat.{ℕ, ◌^◌}
use mathlib.Core.List.{List}
use native.Mathlib.Omega.{arith}
use lib.ListN.{length}
use Rattle.steps.specs.Step.{step, stop}
use Rattle.steps.specs.Calls.{step_told, stepped, stop_told, stopped, live_told}
use Rattle.host.specs.Calls.{last_index, heard, host_step, host_stop, host_live, host_run}
use Rattle.host.specs.Says.{RefusalsKeep, RefusedValue, FieldsRead}
use Rattle.host.proofs.Lengths.{full_step, full_stop, full_unless}
use Rattle.host.proofs.Leaving.{build_leaves, build_past_lem, session_leaves, open_leaves, run_leaves, run_past}
use Rattle.host.proofs.Ranges.{AnswerFits, ToldFits, read_back, check_fits, build_fits, open_fits, run_fits, heard_most}
use Rattle.host.proofs.Ranges.{on_session_lem, step_fits, stop_fits, live_fits}

-- a refusal changes no lent byte and no session; what is past the written part is as it was
pub refusals_keep : RefusalsKeep
refusals_keep =
    record {
      build = build_leaves;
      build_past = build_past_lem;
      opening = open_leaves;
      step = λ session party.
          session_leaves session (λ s. step_told s party) (λ s. stepped s party) (λ s f. full_unless s party f (step s party) (full_step s party f));
      stop = λ session party.
          session_leaves session (λ s. stop_told s party) (λ s. stopped s party) (λ s f. full_unless s party f (stop s party) (full_stop s party f));
      run = λ sheet proposals schedule out. run_leaves sheet proposals schedule out (host_run sheet proposals schedule (length out)).number;
      run_past = λ sheet proposals schedule out. run_past sheet proposals schedule out (host_run sheet proposals schedule (length out)).number;
    }

-- ---- the answers

host_step_lem : (session : List ℕ) (party : ℕ) → ToldFits (host_step session party)
host_step_lem session party = on_session_lem session (λ s. step_told s party) (λ s. step_fits s party)

host_stop_lem : (session : List ℕ) (party : ℕ) → ToldFits (host_stop session party)
host_stop_lem session party = on_session_lem session (λ s. stop_told s party) (λ s. stop_fits s party)

host_live_lem : (session : List ℕ) → ToldFits (host_live session)
host_live_lem session = on_session_lem session live_told live_fits

host_run_lem : (sheet proposals schedule : List ℕ) (len : ℕ) → AnswerFits (host_run sheet proposals schedule len)
host_run_lem sheet proposals schedule len =
    run_fits sheet proposals (heard schedule) len (heard_most last_index (2 ^ 32) sheet schedule (omega arith))

-- every other number in a refused answer is 0, but for the positions of 5, 6 and 8
pub refused_value : RefusedValue
refused_value =
    record {
      check = λ sheet. (check_fits sheet).no_position;
      build = λ kind bound n len. (build_fits kind bound n len).no_position;
      opening = λ sheet proposals len. (open_fits sheet proposals len).no_position;
      step = λ session party. let f = host_step_lem session party in record { value = f.no_value; position = f.no_position };
      stop = λ session party. let f = host_stop_lem session party in record { value = f.no_value; position = f.no_position };
      live = λ session. let f = host_live_lem session in record { value = f.no_value; position = f.no_position };
      run = λ sheet proposals schedule len. (host_run_lem sheet proposals schedule len).no_position;
    }

-- each field of each answer is read back from its word
pub fields_read : FieldsRead
fields_read =
    record {
      check = λ sheet. read_back (check_fits sheet);
      build = λ kind bound n len. read_back (build_fits kind bound n len);
      opening = λ sheet proposals len. read_back (open_fits sheet proposals len);
      step = λ session party. read_back (host_step_lem session party);
      stop = λ session party. read_back (host_stop_lem session party);
      live = λ session. read_back (host_live_lem session);
      run = λ sheet proposals schedule len. read_back (host_run_lem sheet proposals schedule len);
    }
