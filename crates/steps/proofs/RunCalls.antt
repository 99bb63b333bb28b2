-- Every session on the way of a good schedule is well formed, so none of the calls that its bytes stand for is refused.
use Prim.Native.Nat.{ℕ, suc, ◌-◌, ◌≤◌, ◌<◌}
use mathlib.Core.Path.{◌≡◌, refl, sym, ap, ◌∙◌, subst}
use mathlib.Core.List.{List, [], ◌∷◌}
use mathlib.Core.Bool.{Bool, true, false, not, ◌&&◌, cond}
use native.Mathlib.Omega.{arith}
use borrow.Author.Tests.{ltb-true, ltb-false, lt-ltb, eq-eqb}
use lib.Dec.{T, ltb, eqb}
use lib.ListN.{length}
use Rattle.sheet.specs.Rows.{parties_of}
use Rattle.sheet.specs.Lists.{all}
use Rattle.rules.specs.Words.{Rules6}
use Rattle.sheet.proofs.Folds.{and_left, and_right, and_both, held}
use Rattle.rules.proofs.Says.{past_6}
use Rattle.state.specs.Session.{fresh_session, party_of}
use Rattle.state.specs.Opening.{opened}
use Rattle.state.specs.declared.kept.Session.{Session}
use Rattle.state.proofs.FormWords.{well_formed_says}
use Rattle.state.proofs.Openings.{opens, opened_fresh}
use Rattle.steps.specs.Step.{step, place_acted, stop}
use Rattle.steps.specs.Calls.{Told, step_told, stepped, stop_told, stopped}
use Rattle.steps.specs.Run.{byte_ok, move_of, moves_in, entry, obeyed, ran}
use Rattle.steps.specs.Moves.{step_of, stop_of, whose}
use Rattle.steps.specs.Trace.{call, call_told, called, called_told, values_told, is_act, acts, acts_told}
use Rattle.steps.proofs.Refusals.{parties_byte, parties_few, answered}
use Rattle.steps.specs.Ready.{Past}
use Rattle.steps.proofs.Reached.{Reached, here, reached_parties, reached_well_formed}
use Rattle.steps.proofs.Moves.{entry_moved}
use Rattle.steps.proofs.Obeying.{Good, byte_good, entry_reached}

-- the status that a stop leaves
abbrev status : Session → ℕ → ℕ
status s i = (party_of (stop s i).parties i).status

module _ (sheet proposals : List ℕ) (rules : Rules6 sheet) (count : length proposals ≡ parties_of sheet) where
  abbrev n : ℕ
  n = parties_of sheet

  -- ---- a call

  module _ {s : Session} (R : Reached sheet proposals s) where
    passes : (i : ℕ) → 1 ≤ i → i ≤ n → Past s i
    passes i least most =
        let formed = (well_formed_says s).1 (reached_well_formed sheet proposals rules count R) in
        let same = reached_parties sheet proposals rules R in
        let few = parties_few s formed in
        record { formed = formed; parties = parties_byte s formed; least = least; most = omega arith; few = omega arith }

    module _ (b : ℕ) (g : Good n b) where
      low : b < 128 → Past s b
      low l = let least = g.least in let most = g.most in passes b (omega arith) (omega arith)

      high : 128 ≤ b → Past s (b - 128)
      high l = let least = g.least in let most = g.most in let byte = g.byte in passes (b - 128) (omega arith) (omega arith)

      call_entry : call s b ≡ entry s b
      call_entry = by (ltb b 128) refl
        where
          by : (t : Bool) → ltb b 128 ≡ t → cond t (stepped s b) (stopped s (b - 128)) ≡ cond t (step s b) (stop s (b - 128))
          by true e = sym (answered s b (step s b) (place_acted s b) (low (ltb-true b 128 e))).0
          by false e = sym (answered s (b - 128) (stop s (b - 128)) (status s (b - 128)) (high (ltb-false b 128 e))).0

      call_told_lem : (call_told s b).number ≡ 0
      call_told_lem = by (ltb b 128) refl
        where
          by : (t : Bool) → ltb b 128 ≡ t → (cond t (step_told s b) (stop_told s (b - 128))).number ≡ 0
          by true e = ap (λ (a : Told). a.number) (sym (answered s b (step s b) (place_acted s b) (low (ltb-true b 128 e))).1)
          by false e = ap (λ (a : Told). a.number) (sym (answered s (b - 128) (stop s (b - 128)) (status s (b - 128)) (high (ltb-false b 128 e))).1)

      -- a step call tells the place acted on
      call_place : b < 128 → (call_told s b).value ≡ place_acted s b
      call_place l = rw (lt-ltb b 128 l) (ap (λ (a : Told). a.value) (sym (answered s b (step s b) (place_acted s b) (low l)).1))

      -- what is told of a call shows whether party i acts
      act_told : (i : ℕ) → is_act i (move_of b) (place_acted s (whose (move_of b))) ≡ is_act i (move_of b) (call_told s b).value
      act_told i = by (ltb b 128) refl
        where
          by : (t : Bool) → ltb b 128 ≡ t
              → is_act i (cond t (step_of b) (stop_of (b - 128))) (place_acted s (whose (cond t (step_of b) (stop_of (b - 128)))))
              ≡ is_act i (cond t (step_of b) (stop_of (b - 128))) (call_told s b).value
          by true e = ap (λ (x : ℕ). eqb b i && not (eqb x 8)) (sym (call_place (ltb-true b 128 e)))
          by false e = refl

  -- ---- a schedule of good bytes

  called_obeyed : {s : Session} → Reached sheet proposals s → (bs : List ℕ) → T (all (byte_ok n) bs) → called s bs ≡ obeyed s bs
  called_obeyed R [] t = refl
  called_obeyed {s} R (b ∷ bs) t =
      let good = and_left (byte_ok n b) (all (byte_ok n) bs) t in
      let later = and_right (byte_ok n b) (all (byte_ok n) bs) t in
      ap (λ (u : Session). called u bs) (call_entry R b (byte_good sheet proposals rules b good))
      ∙ called_obeyed {s = entry s b} (entry_reached sheet proposals rules R b good) bs later

  told_done : {s : Session} → Reached sheet proposals s → (bs : List ℕ) → T (all (byte_ok n) bs)
      → T (all (λ t. eqb t.number 0) (called_told s bs))
  told_done R [] t = tt
  told_done {s} R (b ∷ bs) t =
      let good = and_left (byte_ok n b) (all (byte_ok n) bs) t in
      let later = and_right (byte_ok n b) (all (byte_ok n) bs) t in
      let g = byte_good sheet proposals rules b good in
      and_both (eqb (call_told s b).number 0) (all (λ t. eqb t.number 0) (called_told (call s b) bs))
      (held (eqb (call_told s b).number 0) (eq-eqb (call_told s b).number 0 (call_told_lem R b g)))
      (subst (λ (u : Session). T (all (λ t. eqb t.number 0) (called_told u bs))) (sym (call_entry R b g))
      (told_done {s = entry s b} (entry_reached sheet proposals rules R b good) bs later))

  -- the acts are the step calls that told something other than 8
  acts_told_lem : {s : Session} → Reached sheet proposals s → (bs : List ℕ) → T (all (byte_ok n) bs) → (i : ℕ)
      → acts s (moves_in bs) i ≡ acts_told i (moves_in bs) (values_told s bs)
  acts_told_lem R [] t i = refl
  acts_told_lem {s} R (b ∷ bs) t i =
      let good = and_left (byte_ok n b) (all (byte_ok n) bs) t in
      let g = byte_good sheet proposals rules b good in
      let test = act_told R b g i in
      let later = ap (λ (u : Session). acts u (moves_in bs) i) (sym (entry_moved s b))
      ∙ acts_told_lem {s = entry s b} (entry_reached sheet proposals rules R b good) bs (and_right (byte_ok n b) (all (byte_ok n) bs) t) i
      ∙ ap (λ (u : Session). acts_told i (moves_in bs) (values_told u bs)) (sym (call_entry R b g)) in
      λ k. cond (test k) (suc (later k)) (later k)

  opens_fresh : fresh_session sheet proposals n ≡ opened sheet proposals
  opens_fresh = opened_fresh sheet proposals (sym (opens sheet proposals (past_6 sheet rules) count))

  module _ (schedule : List ℕ) (good : T (all (byte_ok n) schedule)) where
    -- the run is the opening, and the calls that the bytes stand for
    pub run_calls : ran sheet proposals schedule ≡ called (opened sheet proposals) schedule
    run_calls = sym (called_obeyed here schedule good) ∙ ap (λ (s : Session). called s schedule) opens_fresh

    -- none of them is refused
    pub run_told : T (all (λ t. eqb t.number 0) (called_told (opened sheet proposals) schedule))
    run_told = subst (λ (s : Session). T (all (λ t. eqb t.number 0) (called_told s schedule))) opens_fresh (told_done here schedule good)

    -- and the acts on its way are the step calls that told something other than 8
    pub run_acts : (i : ℕ) → acts (fresh_session sheet proposals n) (moves_in schedule) i ≡ acts_told i (moves_in schedule) (values_told (opened sheet proposals) schedule)
    run_acts i = acts_told_lem here schedule good i ∙ ap (λ (s : Session). acts_told i (moves_in schedule) (values_told s schedule)) opens_fresh
