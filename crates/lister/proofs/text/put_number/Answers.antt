-- The byte is one store behind the digits.
use Rattle.std.proofs.Common.{[], ◌∷◌, ◌<◌, length, arith}
use Rattle.lister.proofs.Placing.{room_then, put_then, put_byte}
use Rattle.lister.proofs.text.put_number.Goals as goal

pub returns : goal.returns
returns c =
    let call = c.put_decimal-next in
    let room = room_then (c.args.end ∷ []) c.requires call.ensures in
    let inside : call.result < length call.new.out = omega arith in
    put_then c.requires call.ensures (put_byte call.new.out call.result c.args.end inside)
