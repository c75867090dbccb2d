use Rattle.std.proofs.Common.{◌-◌, ◌/◌, length}
use Rattle.flow.proofs.Turns.{Spelling}
use Rattle.flow.proofs.flows.Flow.spell_next.Given as goal

abbrev pub invariant-loop-node : goal.invariant-loop-node
invariant-loop-node l = Spelling (length l.initial.counts) l.self.rows.now l.self.arcs.now l.counts l.times l.arc

abbrev pub decreases-loop-node : goal.decreases-loop-node
decreases-loop-node l = length l.self.rows.now - l.arc / 2
