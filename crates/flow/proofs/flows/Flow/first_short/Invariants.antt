use Rattle.std.proofs.Common.{◌≡◌, ◌+◌, None}
use Rattle.flow.specs.Job.{lowest}
use Rattle.flow.specs.Scans.{demands_of, holding}
use Rattle.flow.proofs.Accept.{short}
use Rattle.flow.proofs.flows.Flow.first_short.Given as goal

abbrev pub invariant-loop-place : goal.invariant-loop-place
invariant-loop-place l = lowest (short (holding l.self.rows.now l.self.arcs.now (demands_of l.items))) (l.place + 1) ≡ None
