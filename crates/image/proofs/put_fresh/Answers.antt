-- The parts are written one behind the other, until the slice is full; the zeros behind the sheet fill its part, and others stand for what is empty.
use Prim.Native.Nat.{ℕ, ◌+◌, ◌-◌}
use mathlib.Core.Path.{◌≡◌, refl, sym, ap, ◌∙◌}
use mathlib.Core.List.{List, ◌++◌, append_assoc}
use native.Mathlib.Omega.{arith}
use borrow.Author.Rules.{rules}
use lib.ListN.{length, replicate, replicate-append-replicate}
use Rattle.state.specs.Session.{filled}
use Rattle.image.specs.Image.{proposals_bytes, parties_bytes}
use Rattle.image.proofs.Written.{Written, up_to, then_filled, then_lent, then_full}
use Rattle.image.proofs.Inverse.{length_proposals}
use Rattle.image.proofs.put_fresh.Goals as goal

-- zeros for two parts, one behind the other
two_zeros : (front back : List ℕ) (n m : ℕ) → front ++ replicate (n + m) 0 ++ back ≡ front ++ replicate n 0 ++ replicate m 0 ++ back
two_zeros front back n m =
    ap (λ (z : List ℕ). z ++ back)
    (ap (λ (z : List ℕ). front ++ z) (sym (replicate-append-replicate {A = ℕ} n m 0)) ∙ sym (append_assoc front (replicate n 0) (replicate m 0)))

pub returns : goal.returns
returns c =
    let sheet = c.args.sheet.now in
    let b = c.args.bytes.now in
    let n = length sheet in
    let (few, size) = c.requires in
    let all : length c.args.proposals ≡ 16 = search rules in
    let copied : Written b sheet n c.put_sheet.new.o = record { size = refl; is = c.put_sheet.ensures } in
    let whole : n + (1898 - n) ≡ 1898 = omega arith in
    let sheeted = up_to whole (then_filled copied 0 c.fill.new.self (1898 - n) (omega arith) (c.fill.ensures.after (λ _ e. e))) in
    let proposed = then_lent sheeted (proposals_bytes c.args.proposals) c.put_all.new.o 64 c.put_all.ensures (length_proposals c.args.proposals all) in
    let emptied = then_filled proposed 0 c.fill-2.new.self 1280 (omega arith) (c.fill-2.ensures.after (λ _ e. e)) in
    let parties = parties_bytes c.args.parties in
    then_full emptied parties c.put_all-2.new.o 176 size c.put_all-2.ensures
    ∙ two_zeros (filled 1898 sheet ++ proposals_bytes c.args.proposals) parties 1024 256
