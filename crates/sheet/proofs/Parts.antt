-- A slice is written from its start on: its part to the end is lent and comes back, what stands before it stays, and past what was written all is as it was.
use Prim.Native.Nat.{ℕ, ◌+◌, ◌-◌, ◌≤◌}
use mathlib.Core.Path.{◌≡◌, sym, ap, ◌∙◌}
use mathlib.Core.List.{List, ◌++◌, append-nil, append_assoc}
use native.Mathlib.Omega.{arith}
use lib.ListN.{length, take, drop, length-append}
use lib.Seq.{take_at, drop_at, drop-length, drop-drop}
use borrow.Rule.Slice.PartMut.{put_mid, Post-is}
use borrow.Author.Rules.{part_to_end}

module _ {A : Type 0} where
  -- of o, that was o₀: front stands written, up to a
  pub record Written (o₀ front : List A) (a : ℕ) (o : List A) : Type 0 where
    pub size : length front ≡ a
    pub is : o ≡ front ++ drop a o₀

  -- what is lent from the end of front on
  lent_tail : (front rest : List A) (a : ℕ) → length front ≡ a → take (length (front ++ rest) - a) (drop a (front ++ rest)) ≡ rest
  lent_tail front rest a l = part_to_end (front ++ rest) a ∙ drop_at front rest a l

  -- what comes back
  put_tail : (front rest ys : List A) (a : ℕ) → length front ≡ a → put_mid a (length (front ++ rest) - a) (front ++ rest) ys ≡ front ++ ys
  put_tail front rest ys a l =
      let all = front ++ rest in
      let within : a ≤ length all = omega (arith, length-append front rest) in
      ap (λ (z : List A). take a all ++ (ys ++ z)) (Post-is a (length all) all within ∙ drop-length all)
      ∙ ap (λ (z : List A). take a all ++ z) (append-nil ys)
      ∙ ap (λ (z : List A). z ++ ys) (take_at front rest a l)

  module _ {o₀ front o : List A} {a : ℕ} (w : Written o₀ front a o) (more new : List A) (k : ℕ)
      (e : new ≡ more ++ drop k (take (length o - a) (drop a o))) where
    -- the part behind what stands written is lent, and comes back with more at its start
    pub lent : put_mid a (length o - a) o new ≡ front ++ more ++ drop (a + k) o₀
    lent =
        let part = ap (λ (z : List A). take (length z - a) (drop a z)) w.is ∙ lent_tail front (drop a o₀) a w.size in
        ap (λ (z : List A). put_mid a (length z - a) z new) w.is
        ∙ put_tail front (drop a o₀) new a w.size
        ∙ ap (λ (z : List A). front ++ z) (e ∙ ap (λ (z : List A). more ++ drop k z) part ∙ ap (λ (z : List A). more ++ z) (drop-drop k a o₀))
        ∙ sym (append_assoc front more (drop (a + k) o₀))

    pub then_lent : length more ≡ k → Written o₀ (front ++ more) (a + k) (put_mid a (length o - a) o new)
    then_lent l = record { size = omega (arith, length-append front more, w.size); is = lent }

  -- a writer that goes on finds the front in what it is lent
  pub found : {o₀ front o : List A} {a : ℕ} → Written o₀ front a o → Written o front a o
  found {o₀} {front} {o} {a} w =
      record { size = w.size; is = w.is ∙ ap (λ (z : List A). front ++ z) (sym (drop_at front (drop a o₀) a w.size) ∙ ap (drop a) (sym w.is)) }

  -- and what it leaves past its own place is what was there before either
  pub since : {o₀ head o₁ front o : List A} {a b : ℕ} → a ≤ b → Written o₀ head a o₁ → Written o₁ front b o → Written o₀ front b o
  since {o₀} {head} {o₁} {front} {o} {a} {b} le first w =
      let e : a + (b - a) ≡ b = omega arith in
      let past : drop b o₁ ≡ drop b o₀ =
      ap (λ (i : ℕ). drop i o₁) (sym e)
      ∙ sym (drop-drop (b - a) a o₁)
      ∙ ap (drop (b - a)) (ap (drop a) first.is ∙ drop_at head (drop a o₀) a first.size)
      ∙ drop-drop (b - a) a o₀
      ∙ ap (λ (i : ℕ). drop i o₀) e in
      record { size = w.size; is = w.is ∙ ap (λ (z : List A). front ++ z) past }
