-- The row that is read is the layout's, whose units lie in the memory.
use mathlib.Core.Path.{◌≡◌, ◌∙◌, subst}
use lib.Dec.{T}
use Rattle.sheet.specs.Rows.{layout_of, slot, writes}
use Rattle.sheet.specs.declared.rows.Row.{Row}
use Rattle.steps.proofs.RowOf.{row_read, own_in_memory, pair_in_memory, set_in_memory}
use Rattle.session.proofs.act.Actor.row.Goals as goal

pub returns : goal.returns
returns c =
    let r = c.requires in
    let row : c.row_of.result ≡ (layout_of c.args.sheet.now).row (slot c.args.self.party.round c.args.party) = c.row_of.ensures ∙ row_read _ _ r.rules r.row in
    record {
      row = row;
      own_inside = rw row (own_in_memory _ _ r.rules r.row);
      pair_inside = λ lower. rw row (pair_in_memory _ _ r.rules r.row lower);
      set_inside = λ u t. set_in_memory _ _ r.rules r.row u (subst (λ (w : Row). T (writes w u)) row t);
    }
