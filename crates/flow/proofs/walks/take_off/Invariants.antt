use Rattle.std.proofs.Common.{◌-◌, ◌/◌, length}
use Rattle.flow.proofs.Turns.{Taking}
use Rattle.flow.proofs.walks.take_off.Given as goal

abbrev pub invariant-loop-node : goal.invariant-loop-node
invariant-loop-node l = Taking l.rows l.initial.flow l.flow l.times l.arc

abbrev pub decreases-loop-node : goal.decreases-loop-node
decreases-loop-node l = length l.rows - l.arc / 2
