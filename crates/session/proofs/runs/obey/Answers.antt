-- The loop's invariant: parties, marks and published candidates are those of the session that the first bytes lead to.
use Rattle.std.proofs.Common.{◌∙◌, arith}
use Rattle.state.proofs.Filled.{filled_taken, fresh_taken}
use Rattle.session.proofs.ObeyLoop.{going_first, going_ready, going_act, going_stop, going_over}
use Rattle.session.proofs.runs.obey.Goals as goal
use Rattle.session.proofs.runs.obey.Goals.{then-p-lt-DECIDED, in-0-to-127, in_default, else-p-lt-DECIDED}

pub loop-b-init : goal.loop-b-init
loop-b-init c =
    let r = c.requires in
    let few = r.0.before.before.before.header.parties_most in
    let size = r.1 in
    let count = r.2 in
    going_first _ _ r.0 r.1 r.2 r.3 (c.proposals_copy-kept.ensures ∙ filled_taken 16 c.args.proposals.now (omega arith))
    (c.fresh_parties-parties.ensures ∙ fresh_taken c.args.n (omega arith))

pub act-requires : goal.act-requires
act-requires c = going_ready c.loop-b.invariant c.loop-b-test.true (omega arith)

pub loop-b-preserved : goal.loop-b-preserved
loop-b-preserved c =
    let l = c.loop-b in
    let more = c.loop-b-test.true in
    elim c.if-p-lt-DECIDED.branch [
      | then-p-lt-DECIDED w ↦
          elim w.if-b-lt128.branch [
            | in-0-to-127 v ↦
                going_act l.invariant more _ _ _ (omega arith) (omega arith) _ w.parties-is
                (v.parties-is ∙ v.act.ensures.0) (w.marks-is ∙ v.marks-is ∙ v.act.ensures.1.0) (w.published-is ∙ v.published-is ∙ v.act.ensures.1.1)
            | in_default v ↦
                going_stop l.invariant more _ _ _ (omega arith) _ w.parties-is (v.parties-is ∙ v.stop_party.ensures) (w.marks-is ∙ v.marks-is) (w.published-is ∙ v.published-is)
          ]
      | else-p-lt-DECIDED w ↦ going_over l.invariant more _ _ _ (omega arith) w.parties-is w.marks-is w.published-is
    ]
