use Rattle.std.proofs.Common.{◌-◌, [], length, sym, ◌∙◌, arith}
use Rattle.flow.specs.Scans.{holding}
use Rattle.flow.proofs.Accept.{off}
use Rattle.flow.proofs.Inflow.{none_in, in_whole}
use Rattle.flow.proofs.Loops.{lowest_here, lowest_on}
use Rattle.flow.proofs.Scanning.{off_not, off_so}
use Rattle.flow.proofs.flows.Flow.first_unbalanced.Goals as goal

pub pass_on-requires-clause-before : goal.pass_on-requires-clause-before
pass_on-requires-clause-before c = none_in c.args.self.now.rows.now c.args.self.now.arcs.now

pub returns-then-inflows-node : goal.returns-then-inflows-node
returns-then-inflows-node c =
    let g = c.args.self.now.rows.now in
    let f = c.args.self.now.arcs.now in
    let n = c.loop-node.node in
    let whole = in_whole g f c.requires.upward n (omega (arith, c.requires.two)) c.loop-node.inflows (omega (arith, c.requires.two, c.args.self.now.fits.nodes)) c.loop-node.invariant.1 in
    sym (lowest_here (off (holding g f [])) n (length g - 1) (omega (arith, c.requires.two)) c.loop-node.invariant.0
    (off_so (holding g f []) n (omega arith) (λ e. c.if-inflows-node.true (whole ∙ e ∙ sym c.outflow.ensures))))

pub loop-node-preserved : goal.loop-node-preserved
loop-node-preserved c =
    let g = c.args.self.now.rows.now in
    let f = c.args.self.now.arcs.now in
    let n = c.loop-node.node in
    let whole = in_whole g f c.requires.upward n (omega (arith, c.requires.two)) c.loop-node.inflows (omega (arith, c.requires.two, c.args.self.now.fits.nodes)) c.loop-node.invariant.1 in (
      lowest_on (off (holding g f [])) n c.loop-node.invariant.0 (off_not (holding g f []) n (sym whole ∙ c.if-inflows-node.false ∙ c.outflow.ensures)),
      c.pass_on-in-loop-node.ensures,
    )
