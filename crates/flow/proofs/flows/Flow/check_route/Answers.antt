use Rattle.std.proofs.Common.{◌≡◌, Err, sym, ap, ◌∙◌, arith}
use Rattle.std.specs.Option.{ok_or}
use Rattle.std.proofs.lemmas.Result.{err_from_is_err_and}
use Rattle.refusal.specs.declared.Refusal.TheVariants.{NoPattern}
use Rattle.flow.proofs.Shape.{forward}
use Rattle.flow.proofs.Routing.{check_start, check_none, check_over, check_fits, check_end, route_up}
use Rattle.flow.proofs.flows.Flow.check_route.Goals as goal

pub loop-node-init : goal.loop-node-init
loop-node-init c = check_start c.args.self.now.rows.now c.args.self.now.arcs.now c.args.counts.now c.args.times (forward c.requires.some_item c.requires.layers)

pub returns-in_err-node : goal.returns-in_err-node
returns-in_err-node c =
    let p = err_from_is_err_and c.from_residual.result c.from_residual.ensures.1 in
    let e = c.in_err-node.ensures in
    let is : c.in_err-node.field-0.0 ≡ NoPattern = let q = e.value ∙ ap (λ o. ok_or o NoPattern) e.ok_part in cc in
    p.1 ∙ ap (λ r. Err r) (p.2 ∙ is)
    ∙ check_none c.args.self.now.rows.now c.args.self.now.arcs.now c.args.counts.now c.args.times (forward c.requires.some_item c.requires.layers) c.loop-node.node c.spelling_arc-arc.result c.loop-node.answer c.loop-node.invariant
    (omega arith) c.spelling_arc-arc.ensures (sym e.ok_part ∙ c.target_of.ensures)

pub loop-node-smaller-then-self-arc : goal.loop-node-smaller-then-self-arc
loop-node-smaller-then-self-arc c =
    omega (
      arith,
      route_up c.args.self.now.rows.now c.args.counts.now (forward c.requires.some_item c.requires.layers) c.loop-node.node c.spelling_arc-arc.result (omega arith) c.spelling_arc-arc.ensures
          c.in_ok-node.node (sym c.target_of.ensures ∙ c.in_ok-node.ensures.ok_part),
    )

pub loop-node-smaller : goal.loop-node-smaller
loop-node-smaller c =
    omega (
      arith,
      route_up c.args.self.now.rows.now c.args.counts.now (forward c.requires.some_item c.requires.layers) c.loop-node.node c.spelling_arc-arc.result (omega arith) c.spelling_arc-arc.ensures
          c.in_ok-node.node (sym c.target_of.ensures ∙ c.in_ok-node.ensures.ok_part),
    )

pub loop-node-preserved-then-self-arc : goal.loop-node-preserved-then-self-arc
loop-node-preserved-then-self-arc c =
    check_over c.args.self.now.rows.now c.args.self.now.arcs.now c.args.counts.now c.args.times (forward c.requires.some_item c.requires.layers) c.loop-node.node c.spelling_arc-arc.result c.loop-node.answer c.loop-node.invariant
    (omega arith) c.spelling_arc-arc.ensures c.in_ok-node.node (sym c.in_ok-node.ensures.ok_part ∙ c.target_of.ensures) c.requires.few c.if-self-arc.true

pub loop-node-preserved : goal.loop-node-preserved
loop-node-preserved c =
    check_fits c.args.self.now.rows.now c.args.self.now.arcs.now c.args.counts.now c.args.times (forward c.requires.some_item c.requires.layers) c.loop-node.node c.spelling_arc-arc.result c.loop-node.answer c.loop-node.invariant
    (omega arith) c.spelling_arc-arc.ensures c.in_ok-node.node (sym c.in_ok-node.ensures.ok_part ∙ c.target_of.ensures) c.requires.few c.if-self-arc.false

pub returns : goal.returns
returns c =
    check_end c.args.self.now.rows.now c.args.self.now.arcs.now c.args.counts.now c.args.times (forward c.requires.some_item c.requires.layers) c.loop-node.node c.loop-node.answer c.loop-node.invariant
    (omega (arith, c.loop-node.invariant.low))
