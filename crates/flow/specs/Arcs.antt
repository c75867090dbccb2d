-- The arcs of a graph by rising number: those into a node, out of a node, and the take arcs of an item.
use Rattle.std.specs.Prelude.{ℕ, zero, suc, ◌*◌, Bool, false, cond, ◌&&◌, List, [], ◌∷◌, ◌++◌, length, is_some, Some, None, Option, ◌==◌}
use Rattle.graph.specs.declared.Row.{Row}
use Rattle.graph.specs.Graph.{at, pass_arc, take_arc, tail, takes, head}

-- the numbers below n that pass a test, rising
abbrev pub numbers : (ℕ → Bool) → ℕ → List ℕ
numbers p zero = []
numbers p (suc n) = numbers p n ++ cond (p n) (n ∷ []) []

-- an arc leads to node v
abbrev pub is : Option ℕ → ℕ → Bool
is None v = false
is (Some k) v = k == v

-- all arcs
abbrev pub all_arcs : List Row → List ℕ
all_arcs g = numbers (λ a. is_some (head g a)) (2 * length g)

-- the arcs into node v
abbrev pub arcs_into : List Row → ℕ → List ℕ
arcs_into g v = numbers (λ a. is (head g a) v) (2 * length g)

-- the arcs out of node v: its pass arc, then its take arc
abbrev pub arcs_out : List Row → ℕ → List ℕ
arcs_out g v = cond (is_some (at g v).pass) (pass_arc v ∷ []) [] ++ cond (is_some (at g v).take) (take_arc v ∷ []) []

-- the take arcs of item i
abbrev pub takes_item : List Row → ℕ → ℕ → Bool
takes_item g i a = takes a && (is_some (head g a) && (at g (tail a)).item == i)

-- the take arcs of item i, by rising number
abbrev pub item_arcs : List Row → ℕ → List ℕ
item_arcs g i = numbers (takes_item g i) (2 * length g)
