-- What the graphs are for: the theorems about patterns and about compiled and reduced graphs.
use Rattle.std.specs.Prelude.{◌≡◌, ℕ, suc, ◌<◌, true, List, length, Some, ◌≢◌}
use Rattle.graph.specs.declared.Row.{Row}
use Rattle.limits.specs.Meaning.{Meaning}
use Rattle.packing.specs.Packing.{Item, pattern, Packable}
use Rattle.packing.specs.Problem.{items}
use Rattle.graph.specs.Graph.{at, Path, Layered, walk, spelled}
use Rattle.graph.specs.Compiled.{compiled, loads}
use Rattle.graph.specs.Reduced.{led, reduced}

-- a path is fixed by its counts, by which `walk` finds it, and its counts by its arcs
abbrev pub PathsDetermined : Type 0
PathsDetermined = (g : List Row) (n : ℕ) (arcs counts : List ℕ)
    → (Path g n arcs counts → (walk g counts n ≡ Some arcs) × (spelled arcs ≡ counts) × ((others : List ℕ) → Path g n others counts → others ≡ arcs))
    × (walk g counts n ≡ Some arcs → Path g n arcs counts)

-- every path from node 0 spells a pattern, and each pattern is spelled by just one path
abbrev pub SpellsJust : List Row → Meaning → List Item → Type 0
SpellsJust g k items = (counts : List ℕ)
    → ((arcs : List ℕ) → Path g 0 arcs counts → pattern k items counts ≡ true)
    × (pattern k items counts ≡ true → (arcs : List ℕ) × Path g 0 arcs counts × ((others : List ℕ) → Path g 0 others counts → others ≡ arcs))

-- of a problem's graph, and of every graph that has been reduced
pub record SpellsPatterns : Type 0 where
  pub of_compiled : (k : Meaning) (items : List Item) → Packable k items → SpellsJust (compiled k items) k items
  pub of_reduced : (m : ℕ) (g : List Row) (k : Meaning) (items : List Item) → Layered m g → SpellsJust g k items → SpellsJust (reduced g) k items

-- a compiled graph has its shape, and one amount a node but the target
abbrev pub CompilesLayered : Type 0
CompilesLayered = (k : Meaning) (items : List Item) → Layered (length items) (compiled k items) × (length (compiled k items) ≡ suc (length (loads k items)))

-- Graph h is graph g with its nodes joined, and `new` has the new number of each node. Nodes are joined if and only if they have
-- one station and their arcs lead to joined nodes; the classes are numbered in the order of their lowest nodes.
pub record Joins (g h : List Row) (new : ℕ → ℕ) : Type 0 where
  pub in_range : (n : ℕ) → n < length g → new n < length h
  pub onto : (n : ℕ) → n < length h → (u : ℕ) × (u < length g) × (new u ≡ n)
  pub rows : (n : ℕ) → n < length g → at h (new n) ≡ led new (at g n)
  pub joined : (n t : ℕ) → n < length g → t < length g → led new (at g n) ≡ led new (at g t) → new n ≡ new t
  pub in_order : (n t : ℕ) → n < t → t < length g → ((u : ℕ) → u < t → new u ≢ new t) → new n < new t

-- reduction keeps the shape and the language of every graph
abbrev pub Reduces : Type 0
Reduces = (m : ℕ) (g : List Row) → Layered m g
    → Layered m (reduced g)
    × ((new : ℕ → ℕ) × Joins g (reduced g) new)
    × ((counts arcs : List ℕ) → Path g 0 arcs counts → (others : List ℕ) × Path (reduced g) 0 others counts)
    × ((counts arcs : List ℕ) → Path (reduced g) 0 arcs counts → (others : List ℕ) × Path g 0 others counts)

-- the rule of joining fixes the joined graph, and its numbering
abbrev pub JoinsFix : Type 0
JoinsFix = (m : ℕ) (g h h' : List Row) (new new' : ℕ → ℕ) → Layered m g → Joins g h new → Joins g h' new' → h ≡ h'
