-- The run call is refused as the session's opening is; else it is the run with the proposals that the slice says.
use Prim.Native.Nat.{ℕ}
use mathlib.Core.Path.{◌≡◌, refl, sym, ap, ◌∙◌}
use mathlib.Core.Logic.{◌≢◌, ◌⊎◌, inl, inr}
use mathlib.Core.List.{List}
use mathlib.Core.Bool.{Bool, true, false, cond}
use borrow.Author.Tests.{ne_eqb}
use lib.Dec.{eqb}
use lib.ListN.{length}
use Rattle.sheet.specs.Rows.{parties_of}
use Rattle.sheet.specs.Lists.{first_bad}
use Rattle.answers.specs.Answers.{Answer}
use Rattle.state.specs.Opening.{open_answer}
use Rattle.steps.specs.Run.{byte_ok, run_answer, run_out}
use Rattle.image.specs.Image.{proposals_in}
use Rattle.host.specs.Calls.{unless_unopened, proposals_for}
use Rattle.host.proofs.Opened.{Opens, Refuses, lent}

module _ (sheet bytes schedule : List ℕ) where
  abbrev xs : List ℕ
  xs = proposals_in bytes

  abbrev numbers : List ℕ
  numbers = proposals_for sheet bytes

  -- the host's answer to a schedule as it is heard
  abbrev host : ℕ → Answer
  host len = unless_unopened sheet bytes (run_answer sheet numbers schedule len)

  refused_as : (a b : Answer) → a ≡ b → eqb b.number 0 ≡ false → eqb a.number 0 ≡ false
  refused_as a b e f = ap (λ (c : Answer). eqb c.number 0) e ∙ f

  -- an opening that is refused is the run's answer
  unopened : (len : ℕ) → eqb (open_answer sheet xs).number 0 ≡ false → run_answer sheet xs schedule len ≡ open_answer sheet xs
  unopened len e = rw e

  pub run_is : (len : ℕ) → run_answer sheet xs schedule len ≡ host len
  run_is len = by (lent sheet bytes)
    where
      by : Opens sheet bytes ⊎ Refuses sheet bytes → run_answer sheet xs schedule len ≡ host len
      by (inl z) = ap (λ (ys : List ℕ). run_answer sheet ys schedule len) z.1 ∙ sym (z.2 (run_answer sheet numbers schedule len))
      by (inr z) = unopened len z.0 ∙ sym (z.1 (run_answer sheet numbers schedule len))

  -- ---- the output

  module _ (out : List ℕ) where
    out_at : Answer → List ℕ
    out_at a = cond (eqb a.number 0) (run_out sheet numbers schedule out) out

    twice : (b : Bool) (written : List ℕ) → cond b written out ≡ cond b (cond b written out) out
    twice true written = refl
    twice false written = refl

    kept : (b : Bool) (written : List ℕ) → b ≡ false → cond b written out ≡ out
    kept b written e = rw e

    pub out_is : run_out sheet xs schedule out ≡ cond (eqb (host (length out)).number 0) (run_out sheet numbers schedule out) out
    unfolding out_at
    out_is = by (lent sheet bytes)
      where
        by : Opens sheet bytes ⊎ Refuses sheet bytes → run_out sheet xs schedule out ≡ out_at (host (length out))
        by (inl z) =
            ap (λ (ys : List ℕ). run_out sheet ys schedule out) z.1
            ∙ twice (eqb (run_answer sheet numbers schedule (length out)).number 0) _
            ∙ ap out_at (sym (z.2 (run_answer sheet numbers schedule (length out))))
        by (inr z) =
            kept (eqb (run_answer sheet xs schedule (length out)).number 0) _ (refused_as _ _ (unopened (length out) z.0) z.0)
            ∙ sym (kept (eqb (host (length out)).number 0) (run_out sheet numbers schedule out) (refused_as _ _ (z.1 (run_answer sheet numbers schedule (length out))) z.0))

    -- ---- a schedule with a bad byte: the room for a record is not asked for, and nothing is written

    module _ (bad : first_bad (byte_ok (parties_of sheet)) 1 schedule ≢ 0) where
      some : eqb (first_bad (byte_ok (parties_of sheet)) 1 schedule) 0 ≡ false
      some = ne_eqb (first_bad (byte_ok (parties_of sheet)) 1 schedule) 0 bad

      pub bad_any : (len : ℕ) → run_answer sheet xs schedule len ≡ host (length out)
      bad_any len = same ∙ run_is (length out)
        where
          same : run_answer sheet xs schedule len ≡ run_answer sheet xs schedule (length out)
          same = rw some

      pub bad_kept : (written : List ℕ) → out ≡ cond (eqb (host (length out)).number 0) written out
      bad_kept written = sym (kept (eqb (host (length out)).number 0) written (refused_as _ _ (sym (run_is (length out))) (by (eqb (open_answer sheet xs).number 0) refl)))
        where
          by : (b : Bool) → eqb (open_answer sheet xs).number 0 ≡ b → eqb (run_answer sheet xs schedule (length out)).number 0 ≡ false
          by true e = rw (e, some)
          by false e = refused_as _ _ (unopened (length out) e) e
