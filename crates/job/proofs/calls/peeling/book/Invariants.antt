use Rattle.std.proofs.Common.{◌-◌, ◌*◌, get_or}
use Rattle.flow.specs.Scans.{no_item}
use Rattle.job.proofs.Records.{LeftsTo}
use Rattle.job.proofs.calls.peeling.book.Given as goal

abbrev pub invariant-loop-place : goal.invariant-loop-place
invariant-loop-place l = LeftsTo l.initial.items l.items l.place (λ i. (get_or l.initial.items i no_item).left - l.times * get_or l.counts i 0)
