-- The loop's invariant: the head and the first p parties stand written, and past them all is as it was; a turn writes one party more.
use Prim.Native.Nat.{◌+◌, ◌*◌}
use Rattle.sheet.proofs.Parts.{Written}
use Rattle.sheet.proofs.InTurn.{up_to}
use Rattle.record.specs.Record.{party_record, record_head}
use Rattle.record.proofs.put_whole.Given as goal

abbrev pub invariant-loop-p : goal.invariant-loop-p
invariant-loop-p l = Written l.initial.out (up_to party_record (record_head l.n) l.party-items l.p) (4 + 7 * l.p) l.out
