-- The front stays, and marks, published candidates and parties are written one behind the other, until the slice is full.
use Rattle.std.proofs.Common.{◌≡◌, length, arith, rules}
use Rattle.image.specs.Image.{parties_bytes}
use Rattle.image.proofs.Written.{kept, then_over, then_full}
use Rattle.image.proofs.put_acted.Goals as goal

pub returns : goal.returns
returns c =
    let s = c.args.s.now in
    let b = c.args.bytes.now in
    let many : length s.marks ≡ 1024 = search rules in
    let some : length s.published ≡ 256 = search rules in
    let marked = then_over (kept b 1962 (omega arith)) s.marks c.copy_from_slice.new.self 1024 many c.copy_from_slice.ensures.after in
    let shown = then_over marked s.published c.copy_from_slice-2.new.self 256 some c.copy_from_slice-2.ensures.after in
    then_full shown (parties_bytes s.parties) c.put_all.new.o 176 c.requires c.put_all.ensures
