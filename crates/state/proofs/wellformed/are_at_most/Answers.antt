-- The fold asks every byte.
use Rattle.std.proofs.Common.{◌∙◌, ◌&&◌, true, leb, rules, tests}
use Rattle.std.proofs.lemmas.Iterator.{YieldsList-from_slice}
use Rattle.std.proofs.lemmas.Iterator.Consumers.{fold_from_yields_List}
use Rattle.state.proofs.Listed.{folded}
use Rattle.state.proofs.wellformed.are_at_most.Goals as goal

pub returns : goal.returns
returns c =
    let bytes = c.args.bytes.now in
    let most = c.args.most in
    fold_from_yields_List _ (λ ok x. ok && leb x most) true c.fold.result c.fold.ensures.ran (YieldsList-from_slice bytes c.iter.ensures.rest) (λ a x b q k. search (rules, tests))
    ∙ folded (λ x. leb x most) true bytes
