use Rattle.std.proofs.Common.{arith}
use Rattle.job.proofs.Records.{lefts_end}
use Rattle.job.proofs.calls.peeling.book.Goals as goal

pub returns : goal.returns
returns c = lefts_end _ _ c.loop-place.place _ c.loop-place.invariant (omega arith)
