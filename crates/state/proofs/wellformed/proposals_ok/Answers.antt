-- The proposals past the parties are the entries that the chain tests.
use Rattle.std.proofs.Common.{refl, ◌∙◌, eqb, rules, tests}
use Rattle.std.proofs.lemmas.Iterator.{YieldsList-from_slice}
use Rattle.std.proofs.lemmas.Iterator.Search.{all_from_yields_List}
use Rattle.state.proofs.Listed.{zeros_listed}
use Rattle.state.proofs.wellformed.proposals_ok.Goals as goal

pub returns : goal.returns
returns c =
    all_from_yields_List (λ x. eqb x 0) _ _ c.all.result c.all.ensures.ran (YieldsList-from_slice _ c.iter.ensures.rest) (λ x b q k. search (rules, tests))
    ∙ zeros_listed (λ x. eqb x 0) (λ x. refl) c.args.proposals.now c.args.n 16 (search rules) c.requires
