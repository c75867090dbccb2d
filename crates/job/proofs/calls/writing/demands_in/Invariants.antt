use Rattle.std.proofs.Common.{◌≡◌, take}
use Rattle.flow.specs.Scans.{demands_of}
use Rattle.job.proofs.calls.writing.demands_in.Given as goal

abbrev pub invariant-loop-item : goal.invariant-loop-item
invariant-loop-item l = l.demands.items ≡ demands_of (take l.item-index l.items)
