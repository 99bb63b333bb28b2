-- Five stores are one run from the start on, and the bytes of the two numbers are put behind it; the last of a number is divided by 1.
use mathlib.Core.List.{[], ◌∷◌}
use native.Mathlib.Nat.{div-one}
use native.Mathlib.Omega.{arith}
use lib.Seq.{sets-eq, drop-drop}
use Rattle.image.proofs.parties.PartyEntry.put.Goals as goal

pub returns : goal.returns
returns c =
    let p = c.args.self in
    let l = c.args.o.now in
    let five = sets-eq (p.status ∷ p.place ∷ p.round ∷ p.k ∷ p.candidate ∷ []) l 0 (omega arith) in
    rw (c.copy_from_slice.ensures.after, c.copy_from_slice-2.ensures.after, c.to_be_bytes.ensures, c.to_be_bytes-2.ensures, five, drop-drop 2 5 l, drop-drop 4 7 l) (simp div-one)
