use Rattle.std.proofs.Common.{◌≡◌, ◌*◌, ◌≤◌}
use Rattle.flow.specs.Arcs.{takes_item, numbers}
use Rattle.flow.specs.Flow.{carried}
use Rattle.flow.specs.Job.{limit}
use Rattle.flow.proofs.flows.Flow.copies_of.Given as goal

abbrev pub invariant-loop-node : goal.invariant-loop-node
invariant-loop-node l = (l.sum ≡ carried l.self.arcs.now (numbers (takes_item l.self.rows.now l.item) (2 * l.node))) × (l.sum ≤ limit * l.node)
