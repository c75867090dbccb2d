use Rattle.std.proofs.Common.{◌-◌, length}
use Rattle.flow.proofs.Routing.{Checking}
use Rattle.flow.proofs.flows.Flow.check_route.Given as goal

abbrev pub invariant-loop-node : goal.invariant-loop-node
invariant-loop-node l = Checking l.self.rows.now l.self.arcs.now l.counts l.times l.node l.answer

abbrev pub decreases-loop-node : goal.decreases-loop-node
decreases-loop-node l = length l.self.rows.now - l.node
