use Rattle.std.proofs.Common.{arith}
use Rattle.compile.proofs.Turns.{turn_more, turn_short}
use Rattle.compile.proofs.draft.Draft.arcs.Goals as goal

pub loop-n-preserved : goal.loop-n-preserved
loop-n-preserved g c =
    let k = g.K.Kind in
    turn_more k.amount (k.meaning c.args.kind.now) c.args.step.now c.args.row c.args.low c.args.self.now c.requires c.loop-n.self c.loop-n.n c.loop-n.invariant
    c.loop-n.auto.n (omega arith) c.len-high.result c.len-high.ensures c.arc.new.self _ c.in_ok-arc.ensures.kept c.in_ok-arc.ensures.leads

pub returns-in_err-arc-clause-leads : goal.returns-in_err-arc-clause-leads
returns-in_err-arc-clause-leads g c =
    let k = g.K.Kind in
    rw c.from_residual.ensures
    (turn_short k.amount (k.meaning c.args.kind.now) c.args.step.now c.args.row c.args.low c.args.self.now c.requires c.loop-n.self c.loop-n.n c.loop-n.invariant
    c.loop-n.auto.n (omega arith) c.len-high.result c.len-high.ensures c.arc.new.self c.in_err-arc.ensures.leads)
