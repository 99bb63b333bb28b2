-- The rows that are read are the slots with their rows, so the first that does not fit is the first slot that breaks the rule.
use Rattle.std.proofs.Common.{◌≡◌, ◌+◌, ◌∙◌, not, get_or, map, ap, option_map, rules}
use Rattle.std.specs.List.{position}
use Rattle.std.proofs.lemmas.Iterator.Consumers.{YieldsList-from_first}
use Rattle.std.proofs.lemmas.Iterator.Search.{position_from_yields_List}
use borrow.Author.Tests.{tests}
use Rattle.sheet.specs.Bytes.{num}
use Rattle.sheet.specs.Rows.{slots, parties_of, is_top}
use Rattle.sheet.specs.Left.{rows_left}
use Rattle.sheet.specs.declared.rows.Row.{Row}
use Rattle.sheet.specs.declared.rows.Slot.{Slot}
use Rattle.rules.specs.Rules.{row_fits}
use Rattle.rules.proofs.ReadRows.{with_row, sheet_rows, first_made}
use Rattle.rules.proofs.shape.first_bad_row.Goals as goal

pub returns : goal.returns
returns c =
    let s = c.args.s.now in
    let fits = λ (x : Slot × Row). row_fits (get_or s 3 0) (get_or s 4 0) (num s 6 2) (is_top x.0) x.1 in
    let found : c.position.result ≡ position (λ x. not (fits x)) (map (with_row s) (slots (parties_of s))) =
    position_from_yields_List (λ x. not (fits x)) c.position.new.self _ c.position.result c.position.ensures.ran
    (YieldsList-from_first (λ x. x) rows_left _ (c.of_sheet.ensures.rows ∙ sheet_rows s c.requires))
    (λ x b q k. search (rules, tests)) in
    let counted : c.map.result ≡ option_map (λ k. k + 1) c.position.result = search rules in
    counted ∙ ap (option_map (λ k. k + 1)) found ∙ first_made fits (with_row s) (slots (parties_of s))
