use Rattle.std.proofs.Common.{◌≡◌, ◌*◌, [], None}
use Rattle.flow.specs.Job.{lowest}
use Rattle.flow.specs.Scans.{Inflows, holding}
use Rattle.flow.proofs.Accept.{off}
use Rattle.flow.proofs.flows.Flow.first_unbalanced.Given as goal

abbrev pub invariant-loop-node : goal.invariant-loop-node
invariant-loop-node l = (lowest (off (holding l.self.rows.now l.self.arcs.now [])) l.node ≡ None) × Inflows l.self.rows.now l.self.arcs.now (2 * l.node) l.inflows
