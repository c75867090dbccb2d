use Rattle.std.proofs.Common.{suc}
use Rattle.flow.specs.Flow.{copies_of}
use Rattle.job.proofs.Records.{LeftsTo}
use Rattle.job.proofs.calls.accepting.tally.Given as goal

abbrev pub invariant-loop-place : goal.invariant-loop-place
invariant-loop-place l = LeftsTo l.initial.items l.items l.place (λ i. copies_of l.flow.rows.now l.flow.arcs.now (suc i))
