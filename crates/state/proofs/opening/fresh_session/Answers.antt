-- Each part is what the call that makes it promises, or filled with zeros; 16 parties are as many as there are at most.
use Rattle.std.proofs.Common.{◌∙◌}
use lib.ListN.{replicate}
use Rattle.state.proofs.Filled.{fresh_taken}
use Rattle.state.proofs.opening.fresh_session.Goals as goal

pub returns : goal.returns
returns c =
    let parties = c.fresh_parties.ensures ∙ fresh_taken c.args.n c.requires.2 in
    λ i.
    record {
      sheet = c.filled.ensures i;
      proposals = c.filled-2.ensures i;
      marks = replicate 1024 0;
      published = replicate 256 0;
      parties = parties i;
    }
