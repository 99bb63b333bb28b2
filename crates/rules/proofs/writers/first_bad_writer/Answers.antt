-- The rows that are read are the slots with their rows, and the quick test and the writer rule fail first at the same one, where all rows keep the row rule.
use Rattle.std.proofs.Common.{◌≡◌, ◌∙◌, List, map, true, eqb, ap, subst}
use Rattle.std.specs.List.{fold}
use lib.Dec.{T}
use Rattle.sheet.specs.Rows.{layout_of, slots, parties_of}
use Rattle.sheet.specs.Left.{rows_left}
use Rattle.sheet.specs.declared.rows.Row.{Row}
use Rattle.sheet.specs.declared.rows.Slot.{Slot}
use Rattle.rules.specs.Quick.{edge, edge_after, ascending, quick_rule, quick_row, first_not, number_or_none}
use Rattle.rules.specs.declared.writers.Edge.{Edge}
use Rattle.sheet.proofs.FirstBad.{first_slots_same}
use Rattle.rules.proofs.Quick.{quick_same}
use Rattle.rules.proofs.ReadRows.{with_row, sheet_rows, first_made, edges_made, quick_made}
use Rattle.rules.proofs.writers.first_bad_writer.Goals as goal

pub returns : goal.returns
returns c =
    let s = c.args.s.now in
    let rows = c.of_sheet-rows.result in
    let a = c.ascends.result in
    let left : rows_left rows ≡ map (with_row s) (slots (parties_of s)) = c.of_sheet-rows.ensures.rows ∙ sheet_rows s c.requires.before in
    let quick = λ (x : Slot × Row). quick_row rows a x.0 x.1 in
    let passed : a ≡ ascending (layout_of s) =
    c.ascends.ensures
    ∙ ap (λ (xs : List (Slot × Row)). (fold (λ e x. edge_after e (eqb x.0.party 1) x.1) (edge true 0 0) xs).ok) left
    ∙ ap (λ (e : Edge). e.ok) (edges_made s (slots (parties_of s)) (edge true 0 0)) in
    c.first_clash.ensures
    ∙ ap (first_not quick) left
    ∙ first_made quick (with_row s) (slots (parties_of s))
    ∙ ap number_or_none
    (first_slots_same (λ p. quick (with_row s p)) (quick_rule (layout_of s) a) 1 (parties_of s)
    (λ p is. quick_made s c.requires.before p is rows a (ap (λ b. b.now) c.of_sheet-rows.ensures.sheet) left)
    ∙ quick_same s c.requires a (λ t. subst T passed t))
