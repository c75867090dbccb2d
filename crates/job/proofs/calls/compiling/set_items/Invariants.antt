use Rattle.std.proofs.Common.{◌≡◌, take, All}
use Rattle.packing.specs.Given.{orders_of}
use Rattle.packing.specs.Problem.{demands}
use Rattle.flow.specs.declared.ItemRecord.{ItemRecord}
use Rattle.flow.specs.Scans.{demands_of}
use Rattle.job.proofs.calls.compiling.set_items.Given as goal

abbrev pub invariant-loop-item : goal.invariant-loop-item
invariant-loop-item l = (demands_of l.records.items ≡ take l.item-index (demands (orders_of l.items))) × All (λ (r : ItemRecord). r.left ≡ 0) l.records.items
