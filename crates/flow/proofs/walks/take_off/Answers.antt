use Rattle.std.proofs.Common.{ℕ, ◌-◌, get_or, set, sym, ◌∙◌, arith, length-set}
use Rattle.flow.proofs.Turns.{tail_carrier, take_start, take_end, take_fits, take_step, take_up}
use Rattle.flow.proofs.walks.take_off.Goals as goal

pub loop-node-init : goal.loop-node-init
loop-node-init c = take_start c.requires.ready.flowing c.args.times c.carrying_arc-arc.result c.requires.ready.least_is c.carrying_arc-arc.ensures

pub overflow_sub-flow : goal.overflow_sub-flow
overflow_sub-flow c = take_fits c.requires.ready.flowing c.args.times c.loop-node.flow c.loop-node.arc c.loop-node.invariant c.in-Some.node (sym c.in-Some.is ∙ c.target_of.ensures)

pub loop-node-preserved : goal.loop-node-preserved
loop-node-preserved c =
    take_step c.requires.ready.flowing c.args.times c.loop-node.flow c.loop-node.arc c.loop-node.invariant c.in-Some.node (sym c.in-Some.is ∙ c.target_of.ensures)
    c.carrying_arc-arc-in-Some.result c.carrying_arc-arc-in-Some.ensures

pub returns : goal.returns
returns c = take_end c.requires.ready.flowing c.args.times c.loop-node.flow c.loop-node.arc c.loop-node.invariant (sym c.in_default.is ∙ c.target_of.ensures)

pub carrying_arc-arc-requires-in-Some-clause-there : goal.carrying_arc-arc-requires-in-Some-clause-there
carrying_arc-arc-requires-in-Some-clause-there c =
    let up = take_up c.requires.ready.flowing c.args.times c.loop-node.flow c.loop-node.arc c.loop-node.invariant c.in-Some.node (sym c.in-Some.is ∙ c.target_of.ensures) in
    omega (arith, up.1, c.requires.fits.cells, c.loop-node.invariant.long, length-set {A = ℕ})

pub loop-node-smaller : goal.loop-node-smaller
loop-node-smaller c =
    let up = take_up c.requires.ready.flowing c.args.times c.loop-node.flow c.loop-node.arc c.loop-node.invariant c.in-Some.node (sym c.in-Some.is ∙ c.target_of.ensures) in
    let left = set c.loop-node.flow c.loop-node.arc (get_or c.loop-node.flow c.loop-node.arc 0 - c.args.times) in
    omega (arith, up.0, up.1, tail_carrier left c.in-Some.node c.carrying_arc-arc-in-Some.result c.carrying_arc-arc-in-Some.ensures)
