-- The marks tell who came first: in each round the lowers or the top have won, never both, so one party's number is carried out of it.
use Prim.Native.Nat.{ℕ, ◌-◌, ◌≤◌, ◌<◌}
use mathlib.Core.Path.{◌≡◌, subst}
use mathlib.Core.Logic.{◌≢◌}
use native.Mathlib.Omega.{arith}
use Rattle.steps.proofs.Views.{Standing, at_announce, at_publish, at_write, at_top, at_own, at_pair, at_fetch, at_decide, at_done, View}

-- party k has written in round r
abbrev pub Marked : View → ℕ → ℕ → Type 0
Marked s r k = 0 < s.own r k

-- lower k came before the top of round r: it has written, and the top has not, or over it
pub data Before (s : View) (r k : ℕ) : Type 0 where
  alone : Marked s r k → s.own r r ≡ 0 → Before s r k
  over : Marked s r k → s.pair r k ≡ 2 → Before s r k

-- where the top has written: k did not come before it
abbrev pub NotBefore : View → ℕ → ℕ → Type 0
NotBefore s r k = Marked s r k → s.pair r k ≢ 2

pub record LowersWon (s : View) (r : ℕ) : Type 0 where
  pub k : ℕ
  pub least : 1 ≤ k
  pub most : k < r
  pub before : Before s r k

pub record TopWon (s : View) (r : ℕ) : Type 0 where
  pub marked : Marked s r r
  pub none : (k : ℕ) → 1 ≤ k → k < r → NotBefore s r k

pub not_both : {s : View} {r : ℕ} → TopWon s r → LowersWon s r → ⊥
not_both {s} {r} t l = by l.before
  where
    by : Before s r l.k → ⊥
    by (alone m e) = omega (arith, t.marked)
    by (over m e) = t.none l.k l.least l.most m e

-- ---- the holder

-- the party has announced
abbrev pub Announced : Standing → Type 0
Announced (at_announce c) = ⊥
Announced (at_publish r c) = Unit
Announced (at_write r c) = Unit
Announced (at_top r c) = Unit
Announced (at_own r k c) = Unit
Announced (at_pair r k c) = Unit
Announced (at_fetch r k c) = Unit
Announced (at_decide c) = Unit
Announced (at_done c) = Unit

-- h is the party whose number is carried out of round r; round 1 is party 1's own
pub data Holder (s : View) : ℕ → ℕ → Type 0 where
  first : {r h : ℕ} → Announced (s.stands 1) → r ≡ 1 → h ≡ 1 → Holder s r h
  by_top : {r h : ℕ} → 2 ≤ r → TopWon s r → h ≡ r → Holder s r h
  by_lowers : {r h : ℕ} → 2 ≤ r → LowersWon s r → Holder s (r - 1) h → Holder s r h

pub holder_at : {s : View} {r r' h : ℕ} → r ≡ r' → Holder s r h → Holder s r' h
holder_at {s} {h = h} e x = subst (λ (n : ℕ). Holder s n h) e x

-- one holder at most
pub holder_one : {s : View} {r h h' : ℕ} → Holder s r h → Holder s r h' → h ≡ h'
holder_one (first a e f) (first a' e' f') = omega arith
holder_one (first a e f) (by_top g t f') = omega arith
holder_one (first a e f) (by_lowers g l x) = absurd (omega arith)
holder_one (by_top g t f) (first a e f') = omega arith
holder_one (by_top g t f) (by_top g' t' f') = omega arith
holder_one (by_top g t f) (by_lowers g' l x) = absurd (not_both t l)
holder_one (by_lowers g l x) (first a e f') = absurd (omega arith)
holder_one (by_lowers g l x) (by_top g' t f') = absurd (not_both t l)
holder_one (by_lowers g l x) (by_lowers g' l' x') = holder_one x x'

pub holder_least_lem : {s : View} {r h : ℕ} → Holder s r h → 1 ≤ h
holder_least_lem (first a e f) = omega arith
holder_least_lem (by_top g t f) = omega arith
holder_least_lem (by_lowers g l x) = holder_least_lem x

-- ---- what stays

-- what every act keeps of what has been settled
pub record Stable (s t : View) : Type 0 where
  pub marked : (r k : ℕ) → Marked s r k → Marked t r k
  pub before : (r k : ℕ) → 1 ≤ k → k < r → Before s r k → Before t r k
  pub not_before : (r k : ℕ) → 1 ≤ k → k < r → Marked s r r → NotBefore s r k → NotBefore t r k
  pub published : (r k : ℕ) → 0 < s.published r k → 0 < t.published r k
  pub announced : Announced (s.stands 1) → Announced (t.stands 1)

module _ {s t : View} (S : Stable s t) where
  top_stays : {r : ℕ} → TopWon s r → TopWon t r
  top_stays {r} w = record { marked = S.marked r r w.marked; none = λ k p l. S.not_before r k p l w.marked (w.none k p l) }

  pub lowers_stay : {r : ℕ} → LowersWon s r → LowersWon t r
  lowers_stay {r} w = record { k = w.k; least = w.least; most = w.most; before = S.before r w.k w.least w.most w.before }

  pub holder_stays : {r h : ℕ} → Holder s r h → Holder t r h
  holder_stays (first a e f) = first (S.announced a) e f
  holder_stays (by_top g w f) = by_top g (top_stays w) f
  holder_stays (by_lowers g w x) = by_lowers g (lowers_stay w) (holder_stays x)
