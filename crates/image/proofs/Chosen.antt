-- Of two values that a test chooses from, the first is chosen where it holds and the second where it fails.
use mathlib.Core.Path.{◌≡◌, ap, sym, ◌∙◌}
use mathlib.Core.Bool.{Bool, true, false, cond}

module _ {A : Type 0} {v : A} (b : Bool) (x y : A) where
  pub where_held : b ≡ true → v ≡ x → v ≡ cond b x y
  where_held t e = e ∙ sym (ap (λ (c : Bool). cond c x y) t)

  pub where_failed : b ≡ false → v ≡ y → v ≡ cond b x y
  where_failed t e = e ∙ sym (ap (λ (c : Bool). cond c x y) t)
