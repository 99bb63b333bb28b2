-- In the record each party's 7 bytes stand where they are read and its numbers fit them, so the record says the parties.
use Prim.Native.Nat.{ℕ, suc, ◌-◌, ◌≤◌, ◌<◌}
use mathlib.Core.Path.{◌≡◌, refl, sym, ap, ◌∙◌, subst}
use mathlib.Core.List.{List, ◌∷◌, ◌++◌, map}
use native.Mathlib.Nat.{add-zero}
use native.Mathlib.Omega.{arith}
use lib.Dec.{T}
use lib.ListN.{length, get_or, take, drop, length-take}
use lib.Seq.{drop-cons, get_or-drop, get_or-take}
use Rattle.sheet.proofs.InTurn as in-turn
use Rattle.sheet.specs.Rows.{parties_of}
use Rattle.sheet.specs.Lists.{flat, all}
use Rattle.sheet.specs.Bytes.{num}
use Rattle.answers.specs.Answers.{done}
use Rattle.sheet.proofs.FirstBad.{first_none}
use Rattle.sheet.proofs.Numbers.{num_drop, num_bytes}
use Rattle.state.specs.Session.{no_party, party_of}
use Rattle.state.specs.declared.kept.Party.{Party}
use Rattle.state.specs.declared.kept.Session.{Session}
use Rattle.state.proofs.Openings.{opens}
use Rattle.record.specs.Record.{party_record, record_head, record_bytes, record_length, place_after, of_record}
use Rattle.steps.specs.Run.{byte_ok, run_answer, ran, run_out}
use Rattle.steps.specs.Reach.{Reached, here}
use Rattle.steps.proofs.Obeying.{obeyed_reached}
use Rattle.steps.proofs.RunAnswers.{run_done, out_written}
use Rattle.agreement.specs.Demand.{Opens}
use Rattle.agreement.specs.Statements.{Words}
use Rattle.agreement.proofs.Demands.{rules}
use Rattle.agreement.proofs.Parties.{Fits, fits, seated}
use Rattle.agreement.proofs.Readings.{Says, Reads}

-- ---- what the record's bytes say

module _ (n : ℕ) (ps : List Party) (rest : List ℕ) (i : ℕ) (least : 1 ≤ i) (most : i ≤ n) (within : i ≤ length ps) where
  abbrev party : Party
  party = party_of ps i

  abbrev bytes : List ℕ
  bytes = record_bytes n ps ++ rest

  -- past the parties before it its bytes come first
  tail : List ℕ
  tail = flat (map party_record (drop (suc (i - 1)) (take n ps))) ++ rest

  stands : drop (place_after (i - 1)) bytes ≡ party_record party ++ tail
  unfolding tail
  stands =
      let seat = i - 1 in
      let inside : seat < length (take n ps) = omega (arith, length-take n ps) in
      let next = drop-cons (take n ps) seat no_party inside ∙ ap (λ (p : Party). p ∷ drop (suc seat) (take n ps)) (get_or-take n ps seat no_party (omega arith)) in
      in-turn.stands party_record 7 (λ _. refl) (record_head n) (take n ps) seat next rest (place_after seat) refl

  says : Fits party → Says party (of_record bytes) i
  says f =
      record {
        status =
            ap (λ (j : ℕ). get_or bytes j 0) (sym (add-zero (place_after (i - 1))))
            ∙ sym (get_or-drop (place_after (i - 1)) bytes 0 0)
            ∙ ap (λ (l : List ℕ). get_or l 0 0) stands;
        steps = sym (num_drop bytes (place_after (i - 1)) 1 2) ∙ ap (λ (l : List ℕ). num l 1 2) stands ∙ num_bytes 2 party.steps f.steps;
        decision = sym (num_drop bytes (place_after (i - 1)) 3 4) ∙ ap (λ (l : List ℕ). num l 3 4) stands ∙ num_bytes 4 party.decision f.decision;
      }

-- ---- the record of a run

module _ (sheet proposals : List ℕ) (o : Opens sheet proposals) (words : Words proposals)
    (schedule : List ℕ) (good : T (all (byte_ok (parties_of sheet)) schedule))
    (out : List ℕ) (room : record_length (parties_of sheet) ≤ length out) where
  abbrev n : ℕ
  n = parties_of sheet

  abbrev s : Session
  s = ran sheet proposals schedule

  R : Reached sheet proposals s
  R = obeyed_reached sheet proposals (rules o) here schedule good

  pub answered : done ≡ run_answer sheet proposals schedule (length out)
  answered = run_done sheet proposals schedule out (opens sheet proposals o.accepted o.count) (first_none (byte_ok n) 1 schedule good) room

  -- its bytes say the parties that the run comes to
  pub reads_record : Reads n s (of_record (run_out sheet proposals schedule out))
  reads_record i least most =
      subst (λ (l : List ℕ). Says (party_of s.parties i) (of_record l) i) (out_written sheet proposals schedule out answered)
      (says n s.parties (drop (record_length n) out) i least most (seated sheet proposals (rules o) i least most R)
      (fits sheet proposals o R i least most words))
