-- Where the answer is done the sheet keeps every rule, so its counts and lengths fit a session.
use mathlib.Core.Path.{◌≡◌, sym}
use native.Mathlib.Omega.{arith}
use lib.ListN.{length}
use Rattle.sheet.specs.Rows.{parties_of}
use Rattle.rules.specs.Words.{Rules6}
use Rattle.state.proofs.Filled.{sheet_most}
use Rattle.state.proofs.Openings.{opens_says}
use Rattle.state.proofs.opening.open_value.Goals as goal

pub fresh_session-requires : goal.fresh_session-requires
fresh_session-requires c =
    let sheet = c.args.sheet.now in
    let proposals = c.args.proposals.now in
    let says : Rules6 sheet × (length proposals ≡ parties_of sheet) = opens_says sheet proposals (sym c.in_ok-opens.ensures) in
    let most = says.0.before.before.before.header.parties_most in
    (sheet_most _ says.0, omega (arith, says.1), most)
