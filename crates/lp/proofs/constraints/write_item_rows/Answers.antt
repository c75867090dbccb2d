use Rattle.std.proofs.Common.{ap, arith}
use Rattle.std.specs.List.{flat_map}
use Rattle.std.proofs.lemmas.List.{take_all}
use Rattle.flow.specs.Model.{item_rows}
use Rattle.flow.specs.Text.{constraint}
use Rattle.lp.proofs.Entries.{joins_to, same_bytes}
use Rattle.lp.proofs.Rows.{item_rows_next}
use Rattle.lp.proofs.constraints.write_item_rows.Goals as goal

pub loop-i-preserved : goal.loop-i-preserved
loop-i-preserved g c = (
  joins_to g.met.S.Sink.in_turn (item_rows_next c.args.graph.rows.now c.args.demands.now c.loop-i.i (omega arith)) c.loop-i.invariant.0 c.write_item_row-start.ensures.took,
  c.write_item_row-start.ensures.end,
)

pub returns : goal.returns
returns g c =
    same_bytes g.S.Sink.took (ap (λ xs. flat_map constraint (item_rows c.args.graph.rows.now 1 xs)) (take_all c.loop-i.i c.args.demands.now (omega arith))) c.loop-i.invariant.0
