-- The arcs into each node as linked lists: the first arc into a node, and after each arc the next into the same node.
-- The number past the last arc ends a list.
use Rattle.std.specs.Prelude.{◌≡◌, ◌≢◌, ℕ, suc, ◌*◌, ◌<◌, ◌≤◌, List, length, Some, slice_index}
use Rattle.graph.specs.declared.Row.{Row}
use Rattle.graph.specs.Graph.{head}

-- b is the next arc into node v from arc a on, or the number past the last arc where there is none
pub record NextInto (g : List Row) (v a b : ℕ) : Type 0 where
  pub from : a ≤ b
  pub within : b ≤ 2 * length g
  pub skipped : (c : ℕ) → a ≤ c → c < b → head g c ≢ Some v
  pub into : b < 2 * length g → head g b ≡ Some v

-- the first arc into each node, and the next after each arc
pub record Linked (g : List Row) (first next : List ℕ) : Type 0 where
  pub nodes : length first ≡ length g
  pub arcs : length next ≡ 2 * length g
  pub first_into : (v : ℕ) → v < length g → NextInto g v 0 (slice_index first v)
  pub next_into : (a v : ℕ) → head g a ≡ Some v → NextInto g v (suc a) (slice_index next a)
