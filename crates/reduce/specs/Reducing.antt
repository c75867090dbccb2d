-- What the steps of a reduction in place leave.
use Rattle.std.specs.Prelude.{◌≡◌, ℕ, zero, suc, ◌+◌, ◌≤◌, List, length, map, drop, nat_eq, slice_index_or, slice_set}
use Rattle.graph.specs.declared.Row.{Row}
use Rattle.packing.specs.Distinct.{distinct, index}
use Rattle.graph.specs.Graph.{at, Layered}
use Rattle.graph.specs.Reduced.{joins, led}

-- a graph for some number of items
abbrev pub Shaped : List Row → Type 0
Shaped g = (m : ℕ) × Layered m g

-- a graph with a label for each node
pub record Labelled (g : List Row) (labels : List ℕ) : Type 0 where
  pub shaped : Shaped g
  pub few : length g ≤ 65535
  pub one_each : length labels ≡ length g

-- the entry at t; past the end, t itself
abbrev pub to : List ℕ → ℕ → ℕ
to xs t = slice_index_or xs t t

-- the class of node n, by the labels of the later nodes, which are their classes
abbrev pub node_class : List ℕ → List Row → ℕ → ℕ
node_class labels g n = joins (to labels) (led (to labels) (at g n)) (drop (n + 1) g) (drop (n + 1) labels) n

-- each value by its place among the distinct values, in the order of first appearance
abbrev pub ranks : List ℕ → List ℕ
ranks xs = map (λ x. index nat_eq x (distinct nat_eq xs)) xs

-- the rows, once those of the first n nodes were written at the nodes' new numbers, with their arcs led to new numbers
abbrev pub written : ℕ → List ℕ → List Row → List Row
written zero numbers g = g
written (suc n) numbers g = slice_set (written n numbers g) (to numbers n) (led (to numbers) (at (written n numbers g) n))
