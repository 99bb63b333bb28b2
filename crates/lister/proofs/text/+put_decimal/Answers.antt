-- A digit is one store; more are those of the tenth, which the call of itself puts, and the last digit behind them.
use Rattle.std.proofs.Common.{◌+◌, ◌%◌, ◌<◌, length, arith}
use Rattle.lister.proofs.Placing.{put_then, put_byte}
use Rattle.lister.proofs.Decimals.{decimal_low, decimal_high, length_low, length_high}
use Rattle.lister.proofs.text.+put_decimal.Goals as goal

pub bounds-out-at : goal.bounds-out-at
bounds-out-at t c = omega (arith, length_low c.args.n c.if-n-lt10.true)

pub returns-then-n-lt10 : goal.returns-then-n-lt10
returns-then-n-lt10 t c =
    let inside : c.args.at < length c.args.out.now = omega (arith, length_low c.args.n c.if-n-lt10.true) in
    rw (decimal_low c.args.n c.if-n-lt10.true) (put_byte c.args.out.now c.args.at (48 + c.args.n) inside)

pub put_decimal-next-requires : goal.put_decimal-next-requires
put_decimal-next-requires t c = omega (arith, length_high c.args.n c.if-n-lt10.false)

pub bounds-out-next : goal.bounds-out-next
bounds-out-next t c = omega (arith, length_high c.args.n c.if-n-lt10.false, c.put_decimal-next.ensures.place)

pub returns : goal.returns
returns t c =
    let parts = decimal_high c.args.n c.if-n-lt10.false in
    let tenth = c.put_decimal-next in
    let inside : tenth.result < length tenth.new.out = omega (arith, length_high c.args.n c.if-n-lt10.false, tenth.ensures.place) in
    rw parts (put_then (rw parts at c.requires) tenth.ensures (put_byte tenth.new.out tenth.result (48 + c.args.n % 10) inside))
