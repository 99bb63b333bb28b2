-- The items are copied over the front, and the rest is as it was filled.
use Rattle.std.proofs.lemmas.List.{drop-replicate}
use Rattle.state.proofs.opening.filled.Goals as goal

pub returns : goal.returns
returns g c = rw (c.copy_from_slice.ensures.after, drop-replicate)
