-- The first test that fails tells its number, and past both the value is 0.
use Rattle.sheet.specs.Lists.{within}
use Rattle.state.specs.Session.{layout}
use Rattle.state.specs.WellFormed.{well_formed}
use Rattle.state.proofs.Tested.{passed, stopped}
use Rattle.steps.proofs.Refusals.{is_formed, byte_party, told_10, told_0, past}
use Rattle.session.proofs.stepping.asked.Goals as goal

pub returns-then-not-is_party-clause-refused : goal.returns-then-not-is_party-clause-refused
returns-then-not-is_party-clause-refused c =
    let s = c.args.s.now in
    let party = c.args.party in
    let formed = is_formed s party c.is_well_formed.ensures c.if-not-is_well_formed.false in
    let tested = byte_party s party c.is_well_formed.ensures c.if-not-is_well_formed.false c.is_party.ensures in
    told_10 (well_formed s) (within 1 (layout s).parties party) 0 formed (stopped tested c.if-not-is_party.true)

pub returns : goal.returns
returns c =
    let s = c.args.s.now in
    let party = c.args.party in
    let formed = is_formed s party c.is_well_formed.ensures c.if-not-is_well_formed.false in
    let tested = passed (byte_party s party c.is_well_formed.ensures c.if-not-is_well_formed.false c.is_party.ensures) c.if-not-is_party.false in
    record { refused = told_0 (well_formed s) (within 1 (layout s).parties party) 0 formed tested; past = past s party formed tested }
