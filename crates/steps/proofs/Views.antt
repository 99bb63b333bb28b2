-- What the rules see of a session is little: the own and the pair unit of each row, the published candidates, and where each party stands.
use Prim.Native.Nat.{ℕ, ◌+◌, ◌≤◌, ◌<◌}
use mathlib.Core.Path.{◌≡◌}
use mathlib.Core.Logic.{◌≢◌}

-- where a party stands: its place, with the round r, the scan number k and the candidate c that the place has
pub data Standing : Type 0 where
  at_announce : (c : ℕ) → Standing
  at_publish : (r c : ℕ) → Standing
  at_write : (r c : ℕ) → Standing
  at_top : (r c : ℕ) → Standing
  at_own : (r k c : ℕ) → Standing
  at_pair : (r k c : ℕ) → Standing
  at_fetch : (r k c : ℕ) → Standing
  at_decide : (c : ℕ) → Standing
  at_done : (c : ℕ) → Standing

-- the marks of the own and of the pair unit of party k's row of round r, the candidate that k published there, and the parties
pub record View : Type 0 where
  pub own : ℕ → ℕ → ℕ
  pub pair : ℕ → ℕ → ℕ
  pub published : ℕ → ℕ → ℕ
  pub stands : ℕ → Standing
  pub steps : ℕ → ℕ

-- ---- what an act does to the memory

-- row r, k is row r', k'
abbrev pub Here : ℕ → ℕ → ℕ → ℕ → Type 0
Here r k r' k' = (r ≡ r') × (k ≡ k')

-- nothing
pub record Same (s t : View) : Type 0 where
  pub own : (r k : ℕ) → t.own r k ≡ s.own r k
  pub pair : (r k : ℕ) → t.pair r k ≡ s.pair r k
  pub published : (r k : ℕ) → t.published r k ≡ s.published r k

-- i publishes c in round r
pub record Published (s t : View) (r i c : ℕ) : Type 0 where
  pub own : (x k : ℕ) → t.own x k ≡ s.own x k
  pub pair : (x k : ℕ) → t.pair x k ≡ s.pair x k
  pub here : t.published r i ≡ c
  pub other : (x k : ℕ) → (Here x k r i → ⊥) → t.published x k ≡ s.published x k

-- lower i writes its set of round r
pub record LowerWrote (s t : View) (r i : ℕ) : Type 0 where
  pub own_here : t.own r i ≡ 1
  pub own_other : (x k : ℕ) → (Here x k r i → ⊥) → t.own x k ≡ s.own x k
  pub pair_here : t.pair r i ≡ 1
  pub pair_other : (x k : ℕ) → (Here x k r i → ⊥) → t.pair x k ≡ s.pair x k
  pub published : (x k : ℕ) → t.published x k ≡ s.published x k

-- the top of round r writes its set
pub record TopWrote (s t : View) (r : ℕ) : Type 0 where
  pub own_here : t.own r r ≡ 2
  pub own_other : (x k : ℕ) → (Here x k r r → ⊥) → t.own x k ≡ s.own x k
  pub pair_here : (k : ℕ) → 1 ≤ k → k < r → t.pair r k ≡ 2
  pub pair_other : (x k : ℕ) → x ≢ r → t.pair x k ≡ s.pair x k
  pub published : (x k : ℕ) → t.published x k ≡ s.published x k

-- ---- where an act leads

-- a round r won with candidate c leads to the next round, or after round n to the decision
pub data Won (n r c : ℕ) : Standing → Type 0 where
  on : r < n → Won n r c (at_publish (r + 1) c)
  last : r ≡ n → Won n r c (at_decide c)

-- next k, or after k = r − 1 the top wins
pub data NextK (n r k c : ℕ) : Standing → Type 0 where
  more : k + 1 < r → NextK n r k c (at_own r (k + 1) c)
  none : {q : Standing} → k + 1 ≡ r → Won n r r q → NextK n r k c q

-- the lowers win, k is the witness
pub data LowersWin (n i r k c : ℕ) : Standing → Type 0 where
  lower : {q : Standing} → i < r → Won n r c q → LowersWin n i r k c q
  top : i ≡ r → LowersWin n i r k c (at_fetch r k c)

-- one act of party i of n, from where it stands to where it goes
pub data Act (n : ℕ) (s t : View) (i : ℕ) : Standing → Standing → Type 0 where
  announces_alone : {c : ℕ} → n ≡ 1 → Same s t → Act n s t i (at_announce c) (at_decide c)
  announces_first : {c : ℕ} → 2 ≤ n → i ≡ 1 → Same s t → Act n s t i (at_announce c) (at_publish 2 c)
  announces_top : {c : ℕ} → 2 ≤ i → Same s t → Act n s t i (at_announce c) (at_write i c)
  publishes : {r c : ℕ} → Published s t r i c → Act n s t i (at_publish r c) (at_write r c)
  lower_writes : {r c : ℕ} → i < r → LowerWrote s t r i → Act n s t i (at_write r c) (at_top r c)
  top_writes : {r c : ℕ} → i ≡ r → TopWrote s t r → Act n s t i (at_write r c) (at_own r 1 c)
  top_empty : {r c : ℕ} {q : Standing} → s.own r r ≡ 0 → Won n r c q → Same s t → Act n s t i (at_top r c) q
  top_marked : {r c : ℕ} → 0 < s.own r r → Same s t → Act n s t i (at_top r c) (at_own r 1 c)
  own_empty : {r k c : ℕ} {q : Standing} → s.own r k ≡ 0 → NextK n r k c q → Same s t → Act n s t i (at_own r k c) q
  own_marked : {r k c : ℕ} → 0 < s.own r k → Same s t → Act n s t i (at_own r k c) (at_pair r k c)
  pair_higher : {r k c : ℕ} {q : Standing} → s.pair r k ≡ 2 → LowersWin n i r k c q → Same s t → Act n s t i (at_pair r k c) q
  pair_else : {r k c : ℕ} {q : Standing} → s.pair r k ≢ 2 → NextK n r k c q → Same s t → Act n s t i (at_pair r k c) q
  fetches : {r k c : ℕ} {q : Standing} → Won n r (s.published r k) q → Same s t → Act n s t i (at_fetch r k c) q
  decides : {c : ℕ} → Same s t → Act n s t i (at_decide c) (at_done c)

-- party i acts, and nothing changes of the others
pub record Move (n : ℕ) (s t : View) (i : ℕ) : Type 0 where
  pub act : Act n s t i (s.stands i) (t.stands i)
  pub counted : t.steps i ≡ s.steps i + 1
  pub others : (j : ℕ) → 1 ≤ j → j ≢ i → t.stands j ≡ s.stands j
  pub others_steps : (j : ℕ) → 1 ≤ j → j ≢ i → t.steps j ≡ s.steps j

-- nothing that is seen changes: a stop, or a step of a party that is not live
pub record Still (s t : View) : Type 0 where
  pub same : Same s t
  pub stands : (j : ℕ) → 1 ≤ j → t.stands j ≡ s.stands j
  pub steps : (j : ℕ) → 1 ≤ j → t.steps j ≡ s.steps j

-- as it is at opening
pub record Opened (n : ℕ) (s : View) : Type 0 where
  pub own : (r k : ℕ) → s.own r k ≡ 0
  pub published : (r k : ℕ) → s.published r k ≡ 0
  pub stands : (j : ℕ) → 1 ≤ j → j ≤ n → s.stands j ≡ at_announce j
  pub steps : (j : ℕ) → 1 ≤ j → j ≤ n → s.steps j ≡ 0
