use Rattle.std.proofs.Common.{sym, ◌∙◌, arith}
use Rattle.graph.specs.Graph.{walk}
use Rattle.flow.specs.Walks.{arcs_along}
use Rattle.flow.proofs.Shape.{forward}
use Rattle.flow.proofs.Routing.{fitting, add_start, add_end, add_fits, add_step, add_up}
use Rattle.flow.proofs.walks.add_route.Goals as goal

pub loop-node-init : goal.loop-node-init
loop-node-init c =
    let g = c.args.rows.now in
    let p = c.requires.placeable in
    let h = fitting c.args.flow.now c.args.times (walk g c.args.counts.now 0) c.requires.room in
    add_start g c.args.flow.now c.args.counts.now (arcs_along (walk g c.args.counts.now 0)) c.args.times (forward p.some_item p.layers) c.spelling_arc-arc.result h.is h.room c.spelling_arc-arc.ensures

pub loop-node-preserved : goal.loop-node-preserved
loop-node-preserved c =
    let g = c.args.rows.now in
    let p = c.requires.placeable in
    add_step g c.args.flow.now c.args.counts.now (arcs_along (walk g c.args.counts.now 0)) c.args.times (forward p.some_item p.layers) c.loop-node.flow c.loop-node.arc c.loop-node.invariant
    c.in-Some.node (sym c.in-Some.is ∙ c.target_of.ensures) c.spelling_arc-arc-in-Some.result c.spelling_arc-arc-in-Some.ensures

pub overflow_add-flow : goal.overflow_add-flow
overflow_add-flow c =
    let g = c.args.rows.now in
    let p = c.requires.placeable in
    let fits = add_fits g c.args.flow.now c.args.counts.now (arcs_along (walk g c.args.counts.now 0)) c.args.times (forward p.some_item p.layers) c.loop-node.flow c.loop-node.arc c.loop-node.invariant
    c.in-Some.node (sym c.in-Some.is ∙ c.target_of.ensures) in
    record { fits = omega (arith, fits) }

pub returns : goal.returns
returns c =
    let g = c.args.rows.now in
    let p = c.requires.placeable in
    add_end g c.args.flow.now c.args.counts.now (arcs_along (walk g c.args.counts.now 0)) c.args.times (forward p.some_item p.layers) c.loop-node.flow c.loop-node.arc c.loop-node.invariant
    (sym c.in_default.is ∙ c.target_of.ensures)

pub spelling_arc-arc-requires-in-Some-clause-there : goal.spelling_arc-arc-requires-in-Some-clause-there
spelling_arc-arc-requires-in-Some-clause-there c =
    let g = c.args.rows.now in
    let p = c.requires.placeable in
    (add_up g c.args.flow.now c.args.counts.now (arcs_along (walk g c.args.counts.now 0)) c.args.times (forward p.some_item p.layers) c.loop-node.flow c.loop-node.arc c.loop-node.invariant
    c.in-Some.node (sym c.in-Some.is ∙ c.target_of.ensures)).1
