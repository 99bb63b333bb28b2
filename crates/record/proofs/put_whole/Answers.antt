-- The loop's invariant: the head and the first p parties stand written, and past them all is as it was; a turn writes one party more.
use mathlib.Core.Path.{refl}
use native.Mathlib.Omega.{arith}
use lib.ListN.{take}
use lib.Seq.{drop-cons}
use Rattle.sheet.proofs.InTurn.{turn}
use Rattle.state.specs.Session.{no_party}
use Rattle.record.specs.Record.{party_record, record_head}
use Rattle.record.proofs.put_whole.Goals as goal

pub loop-p-preserved : goal.loop-p-preserved
loop-p-preserved c =
    let l = c.loop-p in
    let parties = take c.from.result c.args.parties in
    turn party_record 7 (λ _. refl) (record_head c.args.n) parties l.p (drop-cons parties l.p no_party (omega arith)) (omega arith) c.put_party.ensures l.invariant
