-- What scans of a graph and its flow need and tell.
use Rattle.std.specs.Prelude.{◌≡◌, ℕ, ◌*◌, ◌<◌, ◌≤◌, List, map, length, Some, slice_index}
use Rattle.graph.specs.declared.Row.{Row}
use Rattle.flow.specs.declared.ItemRecord.{ItemRecord}
use Rattle.graph.specs.Graph.{head, tail}
use Rattle.flow.specs.Arcs.{is, numbers}
use Rattle.flow.specs.Flow.{on, carried}
use Rattle.flow.specs.Job.{limit, Content}

-- a record past the last item
abbrev pub no_item : ItemRecord
no_item = record { demand = 0; left = 0 }

-- the demands in the records
abbrev pub demands_of : List ItemRecord → List ℕ
demands_of items = map (λ (i : ItemRecord). i.demand) items

-- a graph with this flow and these demands
abbrev pub holding : List Row → List ℕ → List ℕ → Content
holding g f demands = record { graph = g; flow = f; demands = demands }

-- two cells for each of at most 65,535 nodes, each within the limit
pub record Fits (g : List Row) (f : List ℕ) : Type 0 where
  pub cells : length f ≡ 2 * length g
  pub nodes : length g ≤ 65535
  pub limited : (a : ℕ) → on f a ≤ limit

-- every arc leads to a node of a higher number
abbrev pub Upward : List Row → Type 0
Upward g = (a k : ℕ) → head g a ≡ Some k → (tail a < k) × (k < length g)

-- the flow that the arcs below n bring into each node
pub record Inflows (g : List Row) (f : List ℕ) (n : ℕ) (inflows : List ℕ) : Type 0 where
  pub long : length inflows ≡ 65535
  pub told : (v : ℕ) → v < 65535 → slice_index inflows v ≡ carried f (numbers (λ a. is (head g a) v) n)
