-- A call on the bytes of a session reads that session back, so it answers and leaves what the call on it does, call after call.
use Prim.Native.Nat.{ℕ, suc, ◌/◌, ◌%◌, ◌^◌, ◌≤◌, ◌<◌}
use mathlib.Core.Path.{◌≡◌, refl, sym, ap, ◌∙◌, subst⁻¹}
use mathlib.Core.List.{List, [], ◌∷◌, map}
use mathlib.Core.Bool.{Bool, true, false, cond}
use native.Mathlib.Omega.{arith}
use borrow.Author.Tests.{eq-eqb}
use lib.Dec.{T}
use lib.ListN.{length, get_or}
use Rattle.sheet.specs.Rows.{parties_of}
use Rattle.sheet.specs.Lists.{within}
use Rattle.sheet.proofs.Folds.{holds}
use Rattle.state.specs.Session.{layout, party_of}
use Rattle.state.specs.WellFormed.{well_formed}
use Rattle.state.specs.declared.kept.Session.{Session}
use Rattle.state.proofs.FormWords.{well_formed_says}
use Rattle.steps.specs.Step.{step, place_acted, stop}
use Rattle.steps.specs.Moves.{Move, step_of, stop_of, whose, moved, moved_by}
use Rattle.steps.specs.Trace.{is_act, acts, acts_told}
use Rattle.steps.specs.Calls.{Told, told, unless_refused, unless_kept}
use Rattle.steps.specs.Reach.{Reached}
use Rattle.steps.proofs.Refusals.{told_10, past, answered}
use Rattle.steps.proofs.Reached.{reached_parties, reached_well_formed}
use Rattle.agreement.specs.Demand.{Opens}
use Rattle.agreement.proofs.Demands.{rules}
use Rattle.host.specs.Word.{told_word}
use Rattle.image.specs.Image.{session_bytes, session_of, Below, Sized}
use Rattle.host.specs.Calls.{on_session, bytes_after}
use Rattle.host.specs.Demand.{after, call_word, after_all, words_of, values_in, refusal_of}
use Rattle.image.proofs.Inverse.{length_session, decode_encode}
use Rattle.host.proofs.Packing.{word_number, word_value}
use Rattle.host.proofs.Ranges.{ToldFits, step_fits, stop_fits}
use Rattle.host.proofs.Fitting.{reached_sized}
use Rattle.host.proofs.PartyCalls.{is_of_party, party_calls, next, next_reached, moved_next, another}

-- ---- a call on the bytes of a session

module _ (s : Session) (z : Sized s) (tell : Session → Told) (go : Session → Session) where
  abbrev bytes : List ℕ
  bytes = session_bytes s

  on_session_lem : on_session bytes tell ≡ tell s
  on_session_lem =
      ap (λ (b : Bool). cond b (tell (session_of bytes)) (told 9 0)) (eq-eqb (length bytes) 3418 (length_session s z)) ∙ ap tell (decode_encode s z)

  -- what it leaves, its refusal number and its value
  abbrev Leaves : Session → ℕ → ℕ → Type 0
  Leaves t number value =
      (bytes_after bytes (on_session bytes tell) go ≡ session_bytes t)
      × (told_word (on_session bytes tell) % 256 ≡ number)
      × (told_word (on_session bytes tell) / 256 % 2 ^ 24 ≡ value)

  -- the word of what is told
  word_is : (number value : ℕ) → told number value ≡ tell s → told_word (on_session bytes tell) ≡ told_word (told number value)
  word_is number value e = ap told_word (on_session_lem ∙ sym e)

  leaves_next : (value : ℕ) → value < 2 ^ 24 → told 0 value ≡ tell s → Leaves (go s) 0 value
  leaves_next value low e = (
    ap (λ (t : Told). bytes_after bytes t go) (on_session_lem ∙ sym e) ∙ ap (λ (t : Session). session_bytes (go t)) (decode_encode s z),
    ap (λ (w : ℕ). w % 256) (word_is 0 value e) ∙ word_number 0 value 0 (omega arith),
    ap (λ (w : ℕ). w / 256 % 2 ^ 24) (word_is 0 value e) ∙ word_value 0 value 0 (omega arith) low (omega arith),
  )

  leaves_same : told 10 0 ≡ tell s → Leaves s 10 0
  leaves_same e = (
    ap (λ (t : Told). bytes_after bytes t go) (on_session_lem ∙ sym e),
    ap (λ (w : ℕ). w % 256) (word_is 10 0 e) ∙ word_number 10 0 0 (omega arith),
    ap (λ (w : ℕ). w / 256 % 2 ^ 24) (word_is 10 0 e) ∙ word_value 10 0 0 (omega arith) (omega arith) (omega arith),
  )

-- ---- calls on the bytes of a reached session

module _ (sheet proposals : List ℕ) (o : Opens sheet proposals) (low : Below 256 sheet) (words : (j : ℕ) → get_or proposals j 0 < 2 ^ 32) where
  abbrev n : ℕ
  n = parties_of sheet

  module _ {s : Session} (R : Reached sheet proposals s) where
    formed : T (well_formed s)
    formed = (well_formed_says s).1 (reached_well_formed sheet proposals (rules o) o.count R)

    sized : Sized s
    sized = reached_sized sheet proposals o low words R

    -- a call that makes `act` of the session and answers `value`
    module _ (act : Session → ℕ → Session) (value : Session → ℕ → ℕ) (i : ℕ) (fits : ToldFits (unless_refused s i (value s i))) where
      test : within 1 n i ≡ within 1 (layout s).parties i
      test = ap (λ (m : ℕ). within 1 m i) (sym (reached_parties sheet proposals (rules o) R))

      abbrev tell : Session → Told
      tell t = unless_refused t i (value t i)

      abbrev go : Session → Session
      go t = unless_kept t i (act t i)

      leaves : Leaves s sized tell go (cond (within 1 n i) (act s i) s) (cond (within 1 n i) 0 10) (cond (within 1 n i) (value s i) 0)
      leaves = by (within 1 n i) refl
        where
          well : well_formed s ≡ true
          well = holds (well_formed s) formed

          by : (w : Bool) → within 1 n i ≡ w → Leaves s sized tell go (cond w (act s i) s) (cond w 0 10) (cond w (value s i) 0)
          by true e =
              let passes = past s i well (sym test ∙ e) in
              let done = answered s i (act s i) (value s i) passes in
              let low = subst⁻¹ (λ (t : Told). t.value < 2 ^ 24) done.1 fits.value_below in
              let left = leaves_next s sized tell go (value s i) low done.1 in
              (left.0 ∙ ap session_bytes (sym done.0), left.1, left.2)
          by false e = leaves_same s sized tell go (told_10 (well_formed s) (within 1 (layout s).parties i) (value s i) well (sym test ∙ e))

    -- what a call tells of a party that is asked for
    abbrev value : Move → ℕ
    value (step_of i) = place_acted s i
    value (stop_of i) = (party_of (stop s i).parties i).status

    call_leaves : (c : Move)
        → (after (session_bytes s) c ≡ session_bytes (next n s c))
        × (call_word (session_bytes s) c % 256 ≡ refusal_of n c)
        × (call_word (session_bytes s) c / 256 % 2 ^ 24 ≡ cond (is_of_party n c) (value c) 0)
    call_leaves (step_of i) = leaves step place_acted i (step_fits s i)
    call_leaves (stop_of i) = leaves stop (λ t j. (party_of (stop t j).parties j).status) i (stop_fits s i)

  pub calls_leave : {s : Session} → Reached sheet proposals s → (cs : List Move)
      → after_all (session_bytes s) cs ≡ session_bytes (moved_by s (party_calls n cs))
  calls_leave R [] = refl
  calls_leave {s} R (c ∷ cs) =
      ap (λ (b : List ℕ). after_all b cs) (call_leaves R c).0
      ∙ calls_leave {s = next n s c} (next_reached sheet proposals R c) cs
      ∙ ap session_bytes (moved_next n s c cs)

  pub calls_number : {s : Session} → Reached sheet proposals s → (cs : List Move)
      → map (λ w. w % 256) (words_of (session_bytes s) cs) ≡ map (refusal_of n) cs
  calls_number R [] = refl
  calls_number {s} R (c ∷ cs) =
      let here = call_leaves R c in
      let later = ap (λ (b : List ℕ). map (λ w. w % 256) (words_of b cs)) here.0 ∙ calls_number {s = next n s c} (next_reached sheet proposals R c) cs in
      λ i. here.1 i ∷ later i

  -- ---- the acts of party i, by what the words say

  module _ (i : ℕ) (least : 1 ≤ i) (most : i ≤ n) where
    -- whether a call is an act of it
    act_said : {s : Session} (R : Reached sheet proposals s) (c : Move)
        → is_act i c (call_word (session_bytes s) c / 256 % 2 ^ 24) ≡ cond (is_of_party n c) (is_act i c (place_acted s (whose c))) false
    act_said {s} R (step_of j) = ap (is_act i (step_of j)) (call_leaves R (step_of j)).2 ∙ by (within 1 n j) refl
      where
        by : (w : Bool) → within 1 n j ≡ w → is_act i (step_of j) (cond w (place_acted s j) 0) ≡ cond w (is_act i (step_of j) (place_acted s j)) false
        by true e = refl
        by false e = rw (another n i least most j e)
    act_said {s} R (stop_of j) = by (within 1 n j)
      where
        by : (w : Bool) → false ≡ cond w false false
        by true = refl
        by false = refl

    abbrev said : Session → List Move → ℕ
    said s cs = acts_told i cs (values_in (words_of (session_bytes s) cs))

    pub calls_acts : {s : Session} → Reached sheet proposals s → (cs : List Move) → said s cs ≡ acts s (party_calls n cs) i
    calls_acts R [] = refl
    calls_acts {s} R (c ∷ cs) =
        let later = ap (λ (b : List ℕ). acts_told i cs (values_in (words_of b cs))) (call_leaves R c).0 ∙ calls_acts {s = next n s c} (next_reached sheet proposals R c) cs in
        (λ k. cond (act_said R c k) (suc (later k)) (later k)) ∙ by (is_of_party n c)
      where
        by : (w : Bool)
            → (let r = acts (cond w (moved s c) s) (party_calls n cs) i in cond (cond w (is_act i c (place_acted s (whose c))) false) (suc r) r)
            ≡ acts s (cond w (c ∷ party_calls n cs) (party_calls n cs)) i
        by true = refl
        by false = refl
