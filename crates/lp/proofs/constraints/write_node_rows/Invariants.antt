use Rattle.std.proofs.Common.{true, map}
use Rattle.std.specs.List.{flat_map}
use Rattle.flow.specs.Arcs.{numbers}
use Rattle.flow.specs.Model.{node_row}
use Rattle.flow.specs.Text.{constraint}
use Rattle.lp.proofs.constraints.write_node_rows.Given as goal

abbrev pub invariant-loop-node : goal.invariant-loop-node
invariant-loop-node g l = g.S.Sink.took l.initial.sink (flat_map constraint (map (node_row l.graph.rows.now) (numbers (λ n. true) l.node))) l.sink
