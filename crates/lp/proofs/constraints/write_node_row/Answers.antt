use Rattle.flow.specs.Arcs.{arcs_out}
use Rattle.flow.specs.Model.{plus, supply}
use Rattle.lp.proofs.Entries.{joins, joins_to, same_bytes}
use Rattle.lp.proofs.Rows.{terms_parts, balance_end}
use Rattle.lp.proofs.constraints.write_node_row.Goals as goal

pub returns : goal.returns
returns g c =
    let turn = g.met.S.Sink.in_turn in
    let rows = c.args.graph.rows.now in
    let n = c.args.node in
    let terms = joins_to turn (terms_parts (plus (arcs_out rows n)) (supply rows n) c.write_outgoing-k.result c.write_outgoing-k.ensures.count)
    c.write_outgoing-k.ensures.took c.write_supply.ensures in
    joins turn c.write_label.ensures (joins turn terms (same_bytes g.S.Sink.took balance_end c.put.ensures))
