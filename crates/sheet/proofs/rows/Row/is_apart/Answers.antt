-- To be apart does not depend on the order of the two sets, nor on where both are moved to: so the earlier one may start at 0.
use Rattle.std.proofs.Common.{arith, rules, ◌≡◌, ◌+◌, ◌-◌, ◌^◌, ◌<◌, ℕ, subst, ◌∙◌}
use lib.Dec.{T}
use Rattle.sheet.specs.Sets.{bit, apart}
use Rattle.sheet.proofs.Folds.{same_test}
use Rattle.sheet.proofs.WriteSets.{At, apart_at}
use Rattle.sheet.proofs.rows.Row.is_apart.Goals as goal

swap : (s m t n : ℕ) → m < 2 ^ 64 → n < 2 ^ 64 → T (apart s m t n) → T (apart t n s m)
swap s m t n h k a = (apart_at t n s m k).1 (λ u p q. (apart_at s m t n h).0 a u q p)

-- a unit, moved by s, or back
up : (s t d m u : ℕ) → t ≡ s + d → At d m u → At t m (s + u)
up s t d m u e (l, b) = let place : u - d ≡ s + u - t = omega arith in (omega arith, subst (λ (x : ℕ). T (bit m x)) place b)

down : (s t d m u : ℕ) → t ≡ s + d → At t m u → At d m (u - s)
down s t d m u e (l, b) = let place : u - t ≡ u - s - d = omega arith in (omega arith, subst (λ (x : ℕ). T (bit m x)) place b)

moved : (s m t n d : ℕ) → m < 2 ^ 64 → t ≡ s + d → apart 0 m d n ≡ apart s m t n
moved s m t n d h e =
    same_test _ _
    (λ a. (apart_at s m t n h).1 (λ u p q. (apart_at 0 m d n h).0 a (u - s) (down s s 0 m u (omega arith) p) (down s t d n u e q)))
    (λ a. (apart_at 0 m d n h).1 (λ u p q. (apart_at s m t n h).0 a (s + u) (up s s 0 m u (omega arith) p) (up s t d n u e q)))

pub returns-then-self-other : goal.returns-then-self-other
returns-then-self-other c =
    let a = c.args in
    let fits : a.self.mask < 2 ^ 64 = search rules in
    let fits2 : a.other.mask < 2 ^ 64 = search rules in
    let d = a.other.start - a.self.start in
    c.clear_of_later.ensures ∙ moved a.self.start a.self.mask a.other.start a.other.mask d fits (omega arith)

pub returns : goal.returns
returns c =
    let a = c.args in
    let fits : a.self.mask < 2 ^ 64 = search rules in
    let fits2 : a.other.mask < 2 ^ 64 = search rules in
    let d = a.self.start - a.other.start in
    c.clear_of_later-2.ensures
    ∙ moved a.other.start a.other.mask a.self.start a.self.mask d fits2 (omega arith)
    ∙ same_test _ _
    (swap a.other.start a.other.mask a.self.start a.self.mask fits2 fits)
    (swap a.self.start a.self.mask a.other.start a.other.mask fits fits2)
