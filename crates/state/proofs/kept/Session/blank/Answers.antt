-- Each part is filled with zeros, and a party with zeros is a fresh party 0.
use lib.ListN.{replicate}
use Rattle.state.proofs.kept.Session.blank.Goals as goal

pub returns : goal.returns
returns c = λ i.
    record {
      sheet = replicate 1898 0;
      proposals = replicate 16 0;
      marks = replicate 1024 0;
      published = replicate 256 0;
      parties = replicate 16 (c.fresh.ensures i);
    }
