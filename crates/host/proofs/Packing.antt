-- Packing loses nothing: number, value and position are digits of the word, to the bases 2 ^ 8 and 2 ^ 24.
use Prim.Native.Nat.{ℕ, ◌+◌, ◌*◌, ◌/◌, ◌%◌, ◌^◌, ◌<◌}
use mathlib.Core.Path.{◌≡◌, ap, ◌∙◌}
use native.Mathlib.Nat.{mod-eq_of_lt}
use native.Mathlib.Omega.{arith}
use Rattle.host.specs.Word.{word}

module _ (number value position : ℕ) (n : number < 256) where
  pub word_number : word number value position % 256 ≡ number
  word_number = omega arith

  module _ (v : value < 2 ^ 24) (p : position < 2 ^ 32) where
    plain : word number value position ≡ number + value * 256 + position * 2 ^ 32
    plain = ap (λ (k : ℕ). number + value * 256 + k * 2 ^ 32) (mod-eq_of_lt p)

    pub word_value : word number value position / 256 % 2 ^ 24 ≡ value
    word_value = ap (λ (w : ℕ). w / 256 % 2 ^ 24) plain ∙ omega arith

    pub word_position : word number value position / 2 ^ 32 ≡ position
    word_position = ap (λ (w : ℕ). w / 2 ^ 32) plain ∙ omega arith
