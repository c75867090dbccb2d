use Rattle.std.proofs.Common.{sym, arith}
use Rattle.graph.specs.Graph.{head}
use Rattle.flow.specs.Arcs.{is}
use Rattle.flow.proofs.Inflow.{in_some, in_limited}
use Rattle.flow.proofs.flows.Flow.add_inflow.Goals as goal

pub overflow_add-inflows : goal.overflow_add-inflows
overflow_add-inflows c =
    let g = c.args.self.now.rows.now in
    let k = c.in-Some.target in
    let low = (c.requires.upward c.args.arc k (sym c.in-Some.ensures)).1 in
    record {
      fits = omega (arith, c.requires.before.told k (omega (arith, c.args.self.now.fits.nodes, low)), in_limited g c.args.self.now.arcs.now c.args.self.now.fits.limited (λ a. is (head g a) k) c.args.arc, c.args.self.now.fits.cells, c.args.self.now.fits.nodes, c.args.self.now.fits.limited c.args.arc);
    }

pub returns-in-Some : goal.returns-in-Some
returns-in-Some c =
    let low = (c.requires.upward c.args.arc c.in-Some.target (sym c.in-Some.ensures)).1 in
    rw c.from.ensures (in_some c.args.self.now.rows.now c.args.self.now.arcs.now c.args.arc c.in-Some.target c.args.inflows.now c.requires.before c.in-Some.ensures (omega (arith, low, c.args.self.now.fits.nodes)))
