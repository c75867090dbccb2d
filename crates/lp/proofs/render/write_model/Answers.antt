use Rattle.std.proofs.Common.{sym}
use Rattle.std.proofs.lemmas.Grind.{flat_map-append}
use Rattle.flow.specs.Model.{node_rows, item_rows}
use Rattle.flow.specs.Text.{constraint, text}
use Rattle.lp.proofs.Entries.{joins, joins_to}
use Rattle.lp.proofs.render.write_model.Goals as goal

pub returns : goal.returns
unfolding text
returns g c =
    let turn = g.met.S.Sink.in_turn in
    let rows = c.args.graph.rows.now in
    let all = joins_to turn (sym (flat_map-append constraint (node_rows rows) (item_rows rows 1 c.args.demands.now))) c.write_node_rows.ensures c.write_item_rows.ensures in
    joins turn c.put.ensures (joins turn all (joins turn c.put-2.ensures (joins turn c.write_variables.ensures c.put-3.ensures)))
