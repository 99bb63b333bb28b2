-- The carried sheet is the front of the copy that its field says, so an accepted one has the copy's header.
use Prim.Native.Nat.{ℕ, ◌≤◌, min}
use mathlib.Core.Path.{◌≡◌, sym, ap, ◌∙◌}
use mathlib.Core.List.{List}
use native.Mathlib.Nat.{min-le_right}
use native.Mathlib.Omega.{arith, min_cases}
use lib.ListN.{length, take, length-take}
use lib.Seq.{take_all, take-length, get_or-take}
use Rattle.sheet.specs.Bytes.{num}
use Rattle.sheet.specs.Rows.{layout_of, parties_of}
use Rattle.rules.specs.Words.{Rules6}
use Rattle.sheet.proofs.Numbers.{num_two}
use Rattle.state.specs.Session.{carried_of}

-- the front that the copy has
carried_front : (s : List ℕ) → take (min (num s 0 2) (length s)) s ≡ carried_of s
carried_front s =
    min_cases (num s 0 2) (length s) (take (min (num s 0 2) (length s)) s ≡ carried_of s) (λ h e. rw e)
    (λ h e. rw (e, take-length s, take_all (num s 0 2) s))

-- the same front, as the code counts it in a copy of 1,898 bytes
module _ (s : List ℕ) (size len : ℕ) (long : length s ≡ size) (is : len ≡ min (num s 0 2) size) where
  pub front_fits : len ≤ length s
  front_fits = omega (arith, long, is, min-le_right (num s 0 2) size)

  pub front_carried : take len s ≡ carried_of s
  front_carried = ap (λ (n : ℕ). take n s) (is ∙ ap (min (num s 0 2)) (sym long)) ∙ carried_front s

  pub length_carried : length (carried_of s) ≡ len
  length_carried = length-take (num s 0 2) s ∙ ap (min (num s 0 2)) long ∙ sym is

module _ (s : List ℕ) (r : Rules6 (carried_of s)) where
  whole : 8 ≤ length (carried_of s)
  whole = r.before.before.before.before.before.whole

  field : 8 ≤ num s 0 2
  field = let l = length-take (num s 0 2) s in let w = whole in omega arith

  pub carried_parties : (layout_of (carried_of s)).parties ≡ parties_of s
  carried_parties = let f = field in get_or-take (num s 0 2) s 5 0 (omega arith)

  pub carried_units : (layout_of (carried_of s)).units ≡ num s 6 2
  carried_units =
      let f = field in
      let w = whole in
      let l = length-take (num s 0 2) s in
      sym (num_two (carried_of s) 6 (omega arith))
      ∙ rw (get_or-take (num s 0 2) s 6 0 (omega arith), get_or-take (num s 0 2) s 7 0 (omega arith)) (num_two s 6 (omega arith))

  pub copy_whole : 8 ≤ length s
  copy_whole = let l = length-take (num s 0 2) s in let w = whole in omega arith

  pub most_parties_lem : parties_of s ≤ 16
  most_parties_lem = let e = carried_parties in let h = r.before.before.before.header.parties_most in omega arith
