-- A write is seen at the writer's own unit and at the pair units that it shares, and nowhere else.
use Prim.Native.Nat.{ℕ, ◌≤◌, ◌<◌}
use mathlib.Core.Path.{◌≡◌, refl, ◌∙◌, subst}
use mathlib.Core.List.{List}
use native.Mathlib.Omega.{arith}
use lib.ListN.{length}
use Rattle.sheet.specs.Rows.{slot, writes}
use Rattle.sheet.specs.Words.{IsSlot}
use Rattle.rules.specs.Words.{Rules6}
use Rattle.state.specs.Session.{carried, layout}
use Rattle.state.specs.declared.kept.Party.{Party}
use Rattle.state.specs.declared.kept.Session.{Session}
use Rattle.steps.specs.Step.{stamped}
use Rattle.steps.proofs.Views.{Here, LowerWrote, TopWrote}
use Rattle.steps.proofs.Units.{own_written, pair_written, own_kept, pair_kept, pair_topped}
use Rattle.steps.proofs.Seen.{row?, lower?, where_yes, where_same, view}

-- party i writes mark m in round r
abbrev pub writing : Session → ℕ → ℕ → ℕ → List Party → Session
writing s r i m parties =
    record {
      sheet = s.sheet;
      proposals = s.proposals;
      marks = stamped (writes ((layout s).row (slot r i))) m 0 s.marks;
      published = s.published;
      parties = parties;
    }

module _ (s : Session) (rules : Rules6 (carried s)) (marked : length s.marks ≡ 1024) (r i : ℕ) (w : IsSlot (layout s).parties (slot r i))
    (parties : List Party) where
  abbrev n : ℕ
  n = (layout s).parties

  own_here_lem : (m : ℕ) → (view (writing s r i m parties)).own r i ≡ m
  own_here_lem m = where_yes (row? n r i) _ w ∙ own_written (carried s) rules s.marks marked m r i w

  own_other_lem : (m x k : ℕ) → (Here x k r i → ⊥) → (view (writing s r i m parties)).own x k ≡ (view s).own x k
  own_other_lem m x k h = where_same (row? n x k) _ _ (λ v. own_kept (carried s) rules s.marks marked m r i w x k v h)

  pair_other_lem : (m x k : ℕ) → (Here x k r i → ⊥) → (Here x i r r → ⊥) → (view (writing s r i m parties)).pair x k ≡ (view s).pair x k
  pair_other_lem m x k h g = where_same (lower? n x k) _ _ (λ v. pair_kept (carried s) rules s.marks marked m r i w x k v.0 v.1 h g)

  pub lower_wrote : i < r → LowerWrote (view s) (view (writing s r i 1 parties)) r i
  lower_wrote l =
      record {
        own_here = own_here_lem 1;
        own_other = own_other_lem 1;
        pair_here = where_yes (lower? n r i) _ (w, l) ∙ pair_written (carried s) rules s.marks marked 1 r i w l;
        pair_other = λ x k h. pair_other_lem 1 x k h (λ z. omega arith);
        published = λ x k. refl;
      }

  pub top_wrote : i ≡ r → TopWrote (view s) (view (writing s r i 2 parties)) r
  top_wrote e =
      record {
        own_here = subst (λ (x : ℕ). (view (writing s r i 2 parties)).own r x ≡ 2) e (own_here_lem 2);
        own_other = λ x k h. own_other_lem 2 x k (λ z. h (z.0, z.1 ∙ e));
        pair_here = λ k a b. where_yes (lower? n r k) _ (row k a b, b) ∙ pair_topped (carried s) rules s.marks marked 2 r i w e k (row k a b) b;
        pair_other = λ x k h. pair_other_lem 2 x k (λ z. h z.0) (λ z. h z.0);
        published = λ x k. refl;
      }
    where
      row : (k : ℕ) → 1 ≤ k → k < r → IsSlot n (slot r k)
      row k a b = record { first = w.first; last = w.last; lowest = a; top = omega arith }
