-- The loop's invariant: the header and k rows stand written, p is the next row's, and past them all is as it was; a turn writes one row more.
use Rattle.std.proofs.Common.{◌≡◌, ◌++◌, ◌+◌, ◌*◌, refl, ap, ◌∙◌, arith, ℕ, drop}
use Rattle.sheet.specs.Kind.{kind_number}
use Rattle.sheet.specs.Rows.{slots, row_count}
use Rattle.sheet.proofs.Parts.{Written, since}
use Rattle.sheet.proofs.InTurn.{turn, turned}
use Rattle.sheet.proofs.Slots.{after_next, at_next, at_slot, length_slots, slots_step}
use Rattle.builder.specs.Build.{built_sheet}
use Rattle.builder.proofs.building.Numbers.put_sheet.Invariants.{header, bytes_at}
use Rattle.builder.proofs.building.Numbers.put_sheet.Goals as goal

pub loop-k-preserved : goal.loop-k-preserved
loop-k-preserved c =
    let l = c.loop-k in
    let s = c.args.self in
    let row = at_slot s.parties l.k l.p l.invariant.0 (omega arith) in
    let least = c.requires.0.numbers.parties_least in (
      rw (c.next-p.ensures ∙ after_next l.p (let last = row.last in omega arith)) (at_next l.k l.p l.invariant.0),
      turn (bytes_at s) 14 (λ _. refl) (header s) (slots s.parties) l.k
          (slots_step s.parties l.k l.p least l.invariant.0 (omega arith)) (omega arith) (rw c.row.ensures at c.put_row.ensures) l.invariant.1,
    )

pub returns : goal.returns
returns c =
    let l = c.loop-k in
    let s = c.args.self in
    let out = c.args.out.now in
    let size = length_slots s.parties c.requires.0.numbers.parties_least in
    let end : l.k ≡ row_count s.parties = omega arith in
    let headed : Written out (header s) 8 c.put_header.new.o = record { size = refl; is = c.put_header.ensures } in
    turned (bytes_at s) 14 (λ _. refl) (header s) (slots s.parties) l.k (omega arith)
    (since (omega arith) headed l.invariant.1)
    ∙ ap (λ (j : ℕ). built_sheet (kind_number s.kind) s.bound s.parties ++ drop (8 + 14 * j) out) end
