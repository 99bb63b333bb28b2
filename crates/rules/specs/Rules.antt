-- The row rule and the writer rule, computed.
use Rattle.std.specs.Prelude.{ℕ, Bool, not, ◌&&◌, ◌||◌, cond, eqb}
use Rattle.sheet.specs.Lists.{all}
use Rattle.sheet.specs.Sets.{legal, below, apart}
use Rattle.sheet.specs.Rows.{Layout, slots, writes, is_top, same_slot}
use Rattle.sheet.specs.declared.rows.Row.{Row}
use Rattle.sheet.specs.declared.rows.Slot.{Slot}

-- refusal 5: the set is legal for the kind, and below the unit count; the own unit is in it; for a lower the pair unit is in it too; for a top the pair field is zero
abbrev pub row_fits : ℕ → ℕ → ℕ → Bool → Row → Bool
row_fits kind bound units top w =
    legal kind bound w.start w.mask && below units w.start w.mask && writes w w.own
    && cond top (eqb w.pair 0) (writes w w.pair)

abbrev pub row_rule : Layout → Slot → Bool
row_rule l p = row_fits l.kind l.bound l.units (is_top p) (l.row p)

-- refusal 6, first part: the own unit is in no other row's set
abbrev pub own_alone : Layout → Slot → Bool
own_alone l p = all (λ q. same_slot p q || not (writes (l.row q) (l.row p).own)) (slots l.parties)

-- second part: no unit of the set is in a row of another round
abbrev pub set_apart : Layout → Slot → Bool
set_apart l p =
    all (λ q. eqb p.round q.round || apart (l.row p).start (l.row p).mask (l.row q).start (l.row q).mask) (slots l.parties)

-- third part, for a lower: the pair unit is in the top's set of its round, and in no third row's set
abbrev pub pair_shared : Layout → Slot → Bool
pair_shared l p =
    all
    (λ q. same_slot p q || cond (eqb p.round q.round && is_top q) (writes (l.row q) (l.row p).pair) (not (writes (l.row q) (l.row p).pair)))
    (slots l.parties)

abbrev pub writer_rule : Layout → Slot → Bool
writer_rule l p = own_alone l p && set_apart l p && (is_top p || pair_shared l p)
