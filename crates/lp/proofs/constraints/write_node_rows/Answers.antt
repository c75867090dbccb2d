use Rattle.std.proofs.Common.{◌≡◌, ◌-◌, true, map, length, ap, arith}
use Rattle.std.specs.List.{flat_map}
use Rattle.flow.specs.Arcs.{numbers}
use Rattle.flow.specs.Model.{node_row}
use Rattle.flow.specs.Text.{constraint}
use Rattle.lp.proofs.Entries.{joins_to, same_bytes}
use Rattle.lp.proofs.Rows.{node_rows_next}
use Rattle.lp.proofs.constraints.write_node_rows.Goals as goal

pub loop-node-preserved : goal.loop-node-preserved
loop-node-preserved g c = joins_to g.met.S.Sink.in_turn (node_rows_next c.args.graph.rows.now c.loop-node.node) c.loop-node.invariant c.write_node_row.ensures

pub returns : goal.returns
returns g c =
    let all : c.loop-node.node ≡ length c.args.graph.rows.now - 1 = omega arith in
    same_bytes g.S.Sink.took (ap (λ n. flat_map constraint (map (node_row c.args.graph.rows.now) (numbers (λ n. true) n))) all) c.loop-node.invariant
