-- What the functions that write an arc at a time have to write, and where they find it.
use Rattle.std.specs.Prelude.{◌≡◌, ℕ, ◌<◌, ◌≤◌, if◌then◌else◌, List, ◌++◌, length, codes, ◌==◌}
use Rattle.graph.specs.declared.Row.{Row}
use Rattle.graph.specs.Graph.{at}
use Rattle.flow.specs.Model.{Variable.X}
use Rattle.flow.specs.Text.{variable}
use Rattle.lp.specs.declared.arcs.Lead.{Lead}
use Rattle.lp.specs.declared.arcs.Lead.TheVariants.{Listed, Added, TakenOff}

-- what leads to a variable that follows k others
abbrev pub lead : Lead → ℕ → List ℕ
lead Listed k = codes " "
lead Added k = (if k == 0 then codes " " else codes " + ")
lead TakenOff k = codes " - "

-- an arc's variable, with what leads to it, after k other entries
abbrev pub arc_entry : Lead → ℕ → ℕ → List ℕ
arc_entry l k a = lead l k ++ variable (X a)

-- the nodes stand in the order of their items
abbrev pub InOrder : List Row → Type 0
InOrder g = (v w : ℕ) → v ≤ w → w < length g → (at g v).item ≤ (at g w).item

-- the nodes of item i begin at node n: those before are of lower items, and no other is
pub record Begins (g : List Row) (n i : ℕ) : Type 0 where
  pub inside : n ≤ length g
  pub before : (v : ℕ) → v < n → (at g v).item < i
  pub after : (v : ℕ) → n ≤ v → v < length g → i ≤ (at g v).item

-- the nodes of item i are those from `start` on and below `end`
pub record NodesOf (g : List Row) (i start end : ℕ) : Type 0 where
  pub inside : end ≤ length g
  pub order : start ≤ end
  pub of_item : (v : ℕ) → start ≤ v → v < end → (at g v).item ≡ i
  pub before : (v : ℕ) → v < start → (at g v).item < i
  pub after : (v : ℕ) → end ≤ v → v < length g → i < (at g v).item
