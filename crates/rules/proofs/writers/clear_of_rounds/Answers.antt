-- What `all` answers over the rows that are left is the test of them all.
use Rattle.std.proofs.Common.{◌||◌, eqb, refl, rules}
use Rattle.std.proofs.lemmas.Iterator.Consumers.{YieldsList-from_first}
use Rattle.std.proofs.lemmas.Iterator.Search.{all_from_yields_List}
use borrow.Author.Tests.{tests}
use Rattle.sheet.specs.Sets.{apart}
use Rattle.sheet.specs.Left.{rows_left}
use Rattle.rules.proofs.writers.clear_of_rounds.Goals as goal

pub returns : goal.returns
returns c =
    let a = c.args in
    all_from_yields_List (λ x. eqb a.round x.0.round || apart a.row.start a.row.mask x.1.start x.1.mask) c.all.new.self _ _ c.all.ensures.ran
    (YieldsList-from_first (λ x. x) rows_left _ refl)
    (λ x b q k. search (rules, tests))
