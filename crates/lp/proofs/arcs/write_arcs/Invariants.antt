use Rattle.std.proofs.Common.{◌≡◌, ◌+◌, ◌≤◌, length}
use Rattle.flow.specs.Text.{entries}
use Rattle.lp.specs.Writing.{arc_entry}
use Rattle.lp.proofs.arcs.write_arcs.Given as goal

abbrev pub invariant-loop-arc : goal.invariant-loop-arc
invariant-loop-arc g l =
    let turns = goal.iterator-loop-arc g in
    record {
      can : turns.can_next l.arc-iterator;
      ends : turns.is_finite l.arc-iterator;
      counted : l.count ≡ l.k + length l.yielded;
      few : l.count + turns.remaining l.arc-iterator ≤ 131072;
      took : g.S.Sink.took l.initial.sink (entries (arc_entry l.lead) l.k l.yielded) l.sink;
    }
