use Rattle.std.proofs.Common.{◌+◌, take}
use Rattle.std.specs.List.{flat_map}
use Rattle.flow.specs.Model.{item_rows}
use Rattle.flow.specs.Text.{constraint}
use Rattle.lp.specs.Writing.{Begins}
use Rattle.lp.proofs.constraints.write_item_rows.Given as goal

abbrev pub invariant-loop-i : goal.invariant-loop-i
invariant-loop-i g l =
    g.S.Sink.took l.initial.sink (flat_map constraint (item_rows l.graph.rows.now 1 (take l.i l.demands))) l.sink
    × Begins l.graph.rows.now l.start (l.i + 1)
