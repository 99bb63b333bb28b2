-- Past the rules before, which hold, the writer rule decides.
use Rattle.std.proofs.Common.{sym}
use Rattle.rules.proofs.Says.{fit_says}
use Rattle.rules.proofs.check.Goals as goal

pub first_bad_writer-requires : goal.first_bad_writer-requires
first_bad_writer-requires c = fit_says _ (sym c.in_ok-fits.ensures)
