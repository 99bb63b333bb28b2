-- The next call is the first of those that are left.
use Rattle.std.proofs.Common.{◌≡◌, ℕ, ◌+◌, ◌<◌, List, ◌∷◌, length, drop, get_or, ap, sym, ◌∙◌}
use native.Mathlib.Numerals.{add-one}
use lib.Seq.{drop-cons}
use Rattle.state.specs.declared.kept.Session.{Session}
use Rattle.steps.specs.Trace.{call, called}
use Rattle.agree.proofs.call_all.Goals as goal

on : (s t : Session) (schedule : List ℕ) (i : ℕ) → i < length schedule → t ≡ call s (get_or schedule i 0) → called t (drop (i + 1) schedule) ≡ called s (drop i schedule)
on s t schedule i h e =
    ap (λ (u : Session). called u (drop (i + 1) schedule)) e
    ∙ sym (ap (called s) (drop-cons schedule i 0 h ∙ ap (λ (j : ℕ). get_or schedule i 0 ∷ drop j schedule) (sym (add-one i))))

pub loop-b-preserved : goal.loop-b-preserved
loop-b-preserved c = on _ _ _ _ c.loop-b-test.true c.call_by-t.ensures ∙ c.loop-b.invariant
