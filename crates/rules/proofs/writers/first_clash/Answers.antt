-- The first row that the test refuses is found by its place, and counted from 1.
use Rattle.std.proofs.Common.{◌≡◌, ◌+◌, ◌∙◌, not, ap, option_map, refl, rules}
use Rattle.std.specs.List.{position}
use Rattle.std.proofs.lemmas.Iterator.Consumers.{YieldsList-from_first}
use Rattle.std.proofs.lemmas.Iterator.Search.{position_from_yields_List}
use borrow.Author.Tests.{tests}
use Rattle.sheet.specs.Left.{rows_left}
use Rattle.rules.specs.Quick.{quick_row}
use Rattle.rules.proofs.writers.first_clash.Goals as goal

pub returns : goal.returns
returns c =
    let a = c.args in
    let found : c.position.result ≡ position (λ x. not (quick_row a.rows a.ascending x.0 x.1)) (rows_left a.rows) =
    position_from_yields_List (λ x. not (quick_row a.rows a.ascending x.0 x.1)) c.position.new.self _ c.position.result c.position.ensures.ran
    (YieldsList-from_first (λ x. x) rows_left _ refl)
    (λ x b q k. search (rules, tests)) in
    let mapped : c.map.result ≡ option_map (λ k. k + 1) c.position.result = search rules in
    mapped ∙ ap (option_map (λ k. k + 1)) found
