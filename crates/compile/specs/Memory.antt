-- A compilation, by what it leaves in the memory given.
use Rattle.std.specs.Prelude.{◌≡◌, ℕ, ◌-◌, ◌≤◌, List, ◌++◌, map, length, take, drop, Some, None, Option}
use Rattle.limits.specs.Meaning.{Meaning}
use Rattle.lists.specs.declared.list.List.{List as Grown}
use Rattle.lists.specs.Entries.{entries, spare}
use Rattle.graph.specs.declared.Row.{Row}
use Rattle.packing.specs.Packing.{Item}
use Rattle.graph.specs.Compiled.{compiled, loads}
use Rattle.compile.specs.Growth.{capacity}

-- r and s are the rows before and after, xs and ys what the memory for loads held before and holds after.
pub record CompilesTo {L : Type 0} (f : L → List ℕ) (k : Meaning) (items : List Item) (r s : Grown Row) (xs ys : List L) (n : ℕ) : Type 0 where
  pub rows : entries s ≡ compiled k items
  pub count : n ≡ length (compiled k items)
  pub amounts : map f (take (n - 1) ys) ≡ loads k items
  pub room : n ≤ length xs
  -- what lies past the nodes keeps its content
  pub rows_past : spare s ≡ drop n (entries r ++ spare r)
  pub loads_past : drop (n - 1) ys ≡ drop (n - 1) xs

-- none if and only if the graph has more nodes than the rows or the loads given
abbrev pub Compiles : {L : Type 0} → (L → List ℕ) → Meaning → List Item → Grown Row → Grown Row → List L → List L → Option ℕ → Type 0
Compiles f k items r s xs ys None = length (compiled k items) ≤ capacity r → length (compiled k items) ≤ length xs → ⊥
Compiles f k items r s xs ys (Some n) = CompilesTo f k items r s xs ys n
