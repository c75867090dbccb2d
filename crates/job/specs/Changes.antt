-- The records of the items with other demands or copies left.
use Rattle.std.specs.Prelude.{◌≡◌, ℕ, ◌<◌, List, length, slice_index_or}
use Rattle.flow.specs.declared.ItemRecord.{ItemRecord}
use Rattle.flow.specs.Scans.{no_item, demands_of}

-- the same demands, and so many copies left of the item at each place
pub record LeftsSet (before after : List ItemRecord) (left : ℕ → ℕ) : Type 0 where
  pub long : length after ≡ length before
  pub demands : demands_of after ≡ demands_of before
  pub told : (i : ℕ) → i < length before → (slice_index_or after i no_item).left ≡ left i
