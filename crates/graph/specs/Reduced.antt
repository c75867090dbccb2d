-- The graph with its equivalent nodes joined.
--
-- From the last node back, a node joins the class of a later node of its station if their arcs lead to the same classes,
-- and otherwise begins a class of its own. A class goes by the number of its first member, the highest node. The classes
-- are numbered in the order of their lowest nodes.
use Rattle.std.specs.Prelude.{ℕ, suc, ◌-◌, Bool, true, false, cond, ◌&&◌, List, [], ◌∷◌, map, Some, None, Option, ◌==◌, nat_eq, slice_index_or}
use Rattle.std.specs.Option.{option_map}
use Rattle.graph.specs.declared.Row.{Row}
use Rattle.packing.specs.Distinct.{distinct, index}
use Rattle.graph.specs.Graph.{row, at}

-- the row with its arcs led elsewhere
abbrev pub led : (ℕ → ℕ) → Row → Row
led f r = row r.item r.copies (option_map f r.take) (option_map f r.pass)

-- two arcs lead to one node, or both are absent
abbrev pub same_end : Option ℕ → Option ℕ → Bool
same_end None None = true
same_end None (Some n) = false
same_end (Some m) None = false
same_end (Some m) (Some n) = m == n

-- two rows are equal
abbrev pub same_row : Row → Row → Bool
same_row r q = r.item == q.item && r.copies == q.copies && same_end r.take q.take && same_end r.pass q.pass

-- the class of node t, by the classes of the nodes from n on
abbrev pub class : ℕ → List ℕ → ℕ → ℕ
class n cs t = slice_index_or cs (t - n) t

-- the class of the first of these rows that equals r once its arcs lead to classes; without one, d
abbrev pub joins : (ℕ → ℕ) → Row → List Row → List ℕ → ℕ → ℕ
joins f r [] cs d = d
joins f r (q ∷ qs) [] d = d
joins f r (q ∷ qs) (c ∷ cs) d = cond (same_row r (led f q)) c (joins f r qs cs d)

-- the class of node n with row r, before those of the later rows
abbrev pub classed : ℕ → Row → List Row → List ℕ → List ℕ
classed n r rs cs = joins (class (suc n) cs) (led (class (suc n) cs) r) rs cs n ∷ cs

-- the class of each of the rows, which begin at node n
abbrev pub classes : ℕ → List Row → List ℕ
classes n [] = []
classes n (r ∷ rs) = classed n r rs (classes (suc n) rs)

-- the new number of node t
abbrev pub renumbered : List ℕ → ℕ → ℕ
renumbered cs t = index nat_eq (class 0 cs t) (distinct nat_eq cs)

-- one row for each class, with its arcs led to the new numbers
abbrev pub rejoined : List Row → List ℕ → List Row
rejoined g cs = map (λ c. led (renumbered cs) (at g c)) (distinct nat_eq cs)

-- the graph with its equivalent nodes joined
abbrev pub reduced : List Row → List Row
reduced g = rejoined g (classes 0 g)
