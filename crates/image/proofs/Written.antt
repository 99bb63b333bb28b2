-- The parts of a session are put behind what stands written, one after the other, and the last one fills the slice.
use Prim.Native.Nat.{ℕ, ◌+◌, ◌-◌, ◌≤◌}
use mathlib.Core.Path.{◌≡◌, sym, ap, subst, ◌∙◌}
use mathlib.Core.List.{List, ◌++◌, append_assoc, append-nil}
use native.Mathlib.Omega.{arith}
use lib.ListN.{length, take, drop, replicate, length-append, length-drop, length-replicate, take-append-drop}
use lib.Seq.{take_at, drop_at, drop-drop, drop-length, length-take-le}
use borrow.Rule.Slice.PartMut.{put_mid}
pub use Rattle.sheet.proofs.Parts.{Written, lent, then_lent}

module _ {A : Type 0} where
  -- nothing is written yet, and the front stays
  pub kept : (o : List A) (a : ℕ) → a ≤ length o → Written o (take a o) a o
  kept o a l = record { size = length-take-le a o l; is = sym (take-append-drop a o) }

  -- up to the same place, said otherwise
  pub up_to : {o₀ front o : List A} {a e : ℕ} → a ≡ e → Written o₀ front a o → Written o₀ front e o
  up_to {o₀} {front} {o} = subst (λ (i : ℕ). Written o₀ front i o)

  module _ {o₀ front o : List A} {a : ℕ} (w : Written o₀ front a o) where
    past : drop a o ≡ drop a o₀
    past = ap (drop a) w.is ∙ drop_at front (drop a o₀) a w.size

    -- so many behind it are lent, and come back as more
    pub then_over : (more new : List A) (k : ℕ) → length more ≡ k → new ≡ more → Written o₀ (front ++ more) (a + k) (put_mid a k o new)
    then_over more new k l e =
        let start = ap (take a) w.is ∙ take_at front (drop a o₀) a w.size in
        record {
          size = omega (arith, length-append front more, w.size);
          is =
              (λ i. start i ++ (e i ++ drop k (past i)))
              ∙ ap (λ (z : List A). front ++ (more ++ z)) (drop-drop k a o₀)
              ∙ sym (append_assoc front more (drop (a + k) o₀));
        }

    -- or all as one element
    pub then_filled : (x : A) (new : List A) (k : ℕ) → a + k ≤ length o₀ → new ≡ replicate (length (take k (drop a o))) x
        → Written o₀ (front ++ replicate k x) (a + k) (put_mid a k o new)
    then_filled x new k within e =
        let many = ap (λ (z : List A). length (take k z)) past ∙ length-take-le k (drop a o₀) (omega (arith, length-drop a o₀)) in
        then_over (replicate k x) new k (length-replicate k x) (e ∙ ap (λ (n : ℕ). replicate n x) many)

    -- the part behind it is lent and comes back with more, and the slice is full
    pub then_full : (more new : List A) (k : ℕ) → length o₀ ≡ a + k → new ≡ more ++ drop k (take (length o - a) (drop a o))
        → put_mid a (length o - a) o new ≡ front ++ more
    then_full more new k h e =
        lent w more new k e
        ∙ ap (λ (z : List A). front ++ more ++ z) (ap (λ (i : ℕ). drop i o₀) (sym h) ∙ drop-length o₀)
        ∙ append-nil (front ++ more)
