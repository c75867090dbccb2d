-- The whole graph.
use Rattle.std.specs.Prelude.{◌≡◌, ℕ, suc, ◌≤◌, List, [], ◌∷◌, ◌++◌, map, length, Some, None, Option}
use Rattle.limits.specs.Meaning.{Meaning}
use Rattle.lists.specs.declared.list.List.{List as Grown}
use Rattle.lists.specs.Entries.{entries}
use Rattle.graph.specs.declared.Row.{Row}
use Rattle.packing.specs.declared.Item.{Item as Given}
use Rattle.packing.specs.Packing.{Item}
use Rattle.packing.specs.Problem.{items}
use Rattle.packing.specs.Given.{orders_of}
use Rattle.graph.specs.Graph.{row}
use Rattle.graph.specs.Compiled.{compiled, loads}
use Rattle.compile.specs.Growth.{capacity, ShortOf}

-- items as they are given, by their weights and how many of each are packed
abbrev pub items_of : Meaning → List Given → List Item
items_of k given = items k (orders_of given)

-- The graph of the items stands in the rows but for the target, and so do the amounts of its nodes in the loads.
pub record Untargeted {L : Type 0} (f : L → List ℕ) (k : Meaning) (items : List Item) (s : Grown Row) (m : Grown L) : Type 0 where
  pub rows : entries s ++ row (suc (length items)) 0 None None ∷ [] ≡ compiled k items
  pub amounts : map f (entries m) ≡ loads k items

-- Which is answered: none only if the graph has more nodes than the rows or the loads given.
abbrev pub Built : {L : Type 0} → (L → List ℕ) → Meaning → List Item → Grown Row → Grown Row → Grown L → Grown L → Option (Unit {0}) → Type 0
Built f k items r s l m None = ShortOf r l (length (compiled k items))
Built f k items r s l m (Some _) = Untargeted f k items s m

-- s is r with the target of station (i, 0) added, for whose number n the memory for loads has room
pub record TargetAdded {L : Type 0} (i : ℕ) (r s : Grown Row) (l : Grown L) (n : ℕ) : Type 0 where
  pub count : n ≡ suc (length (entries r))
  pub rows : entries s ≡ entries r ++ row i 0 None None ∷ []
  pub room : n ≤ capacity l
