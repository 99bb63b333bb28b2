-- What `all` answers over the rows that are left is the test of them all.
use Rattle.std.proofs.Common.{refl, rules}
use Rattle.std.proofs.lemmas.Iterator.Consumers.{YieldsList-from_first}
use Rattle.std.proofs.lemmas.Iterator.Search.{all_from_yields_List}
use borrow.Author.Tests.{tests}
use Rattle.sheet.specs.Left.{rows_left}
use Rattle.rules.specs.Quick.{beside}
use Rattle.rules.proofs.writers.alone_in_round.Goals as goal

pub returns : goal.returns
returns c =
    let a = c.args in
    all_from_yields_List (λ x. beside a.slot.round a.slot.party a.row x.0.party x.1) c.all.new.self _ _ c.all.ensures.ran
    (YieldsList-from_first (λ x. x) rows_left _ refl)
    (λ x b q k. search (rules, tests))
