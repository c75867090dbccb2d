use Rattle.std.proofs.Common.{◌-◌, ◌/◌, length}
use Rattle.graph.specs.Graph.{walk}
use Rattle.flow.specs.Walks.{arcs_along}
use Rattle.flow.proofs.Routing.{Adding}
use Rattle.flow.proofs.walks.add_route.Given as goal

abbrev pub invariant-loop-node : goal.invariant-loop-node
invariant-loop-node l = Adding l.rows l.initial.flow l.flow l.counts (arcs_along (walk l.rows l.counts 0)) l.times l.arc

abbrev pub decreases-loop-node : goal.decreases-loop-node
decreases-loop-node l = length l.rows - l.arc / 2
