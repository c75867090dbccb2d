-- The integer model as a value: minimise z subject to one row for each node but the target and one for each item.
use Rattle.std.specs.Prelude.{◌≡◌, ℕ, zero, suc, ◌+◌, ◌-◌, ◌≤◌, true, List, [], ◌∷◌, ◌++◌, map, length}
use Rattle.std.specs.List.{AllByRecursion}
use Rattle.graph.specs.declared.Row.{Row}
use Rattle.flow.specs.Arcs.{all_arcs, arcs_into, arcs_out, item_arcs, numbers}
use Rattle.flow.specs.Flow.{on}

-- z, the number of bins, and x of an arc, its flow
pub data Variable : Type 0 where
  Z : Variable
  X : ℕ → Variable

-- a variable that is added or taken off
pub data Term : Type 0 where
  Plus : Variable → Term
  Minus : Variable → Term

-- how the terms of a row relate to its right side
pub data Relation : Type 0 where
  Equal : Relation
  AtLeast : Relation

-- what a row is about: the balance of a node, the demand of an item
pub data Label : Type 0 where
  Node : ℕ → Label
  Item : ℕ → Label

-- a row: what it is about, its terms, their relation to the right side
pub record Constraint : Type 0 where
  pub label : Label
  pub terms : List Term
  pub relation : Relation
  pub right : ℕ

-- the rows, and the variables that they speak of
pub record Model : Type 0 where
  pub rows : List Constraint
  pub variables : List Variable

-- these arcs, added
abbrev pub plus : List ℕ → List Term
plus arcs = map (λ a. Plus (X a)) arcs

-- these arcs, taken off
abbrev pub minus : List ℕ → List Term
minus arcs = map (λ a. Minus (X a)) arcs

-- what comes into node n: at the source z, elsewhere its incoming arcs by rising number
abbrev pub supply : List Row → ℕ → List Term
supply g zero = Minus Z ∷ []
supply g (suc n) = minus (arcs_into g (suc n))

-- what leaves node n is what comes into it
abbrev pub node_row : List Row → ℕ → Constraint
node_row g n = record { label = Node n; terms = plus (arcs_out g n) ++ supply g n; relation = Equal; right = 0 }

-- a row for each node but the target
abbrev pub node_rows : List Row → List Constraint
node_rows g = map (node_row g) (numbers (λ n. true) (length g - 1))

-- the take arcs of item i carry at least its demand
abbrev pub item_row : List Row → ℕ → ℕ → Constraint
item_row g i b = record { label = Item i; terms = plus (item_arcs g i); relation = AtLeast; right = b }

-- the rows of the items from i on
abbrev pub item_rows : List Row → ℕ → List ℕ → List Constraint
item_rows g i [] = []
item_rows g i (b ∷ demands) = item_row g i b ∷ item_rows g (suc i) demands

-- the model of a graph with the demands of its items
abbrev pub model : List Row → List ℕ → Model
model g demands = record { rows = node_rows g ++ item_rows g 1 demands; variables = Z ∷ map X (all_arcs g) }

-- at z and a flow
abbrev pub value_at : ℕ → List ℕ → Variable → ℕ
value_at z f Z = z
value_at z f (X a) = on f a

-- the sum of the terms that are added
abbrev pub added : ℕ → List ℕ → List Term → ℕ
added z f [] = 0
added z f (Plus x ∷ terms) = value_at z f x + added z f terms
added z f (Minus x ∷ terms) = added z f terms

-- the sum of the terms that are taken off
abbrev pub taken_off : ℕ → List ℕ → List Term → ℕ
taken_off z f [] = 0
taken_off z f (Plus x ∷ terms) = taken_off z f terms
taken_off z f (Minus x ∷ terms) = value_at z f x + taken_off z f terms

-- two numbers in this relation
abbrev pub Related : Relation → ℕ → ℕ → Type 0
Related Equal a b = a ≡ b
Related AtLeast a b = b ≤ a

-- a row holds at z and a flow
abbrev pub Met : ℕ → List ℕ → Constraint → Type 0
Met z f c = Related c.relation (added z f c.terms) (taken_off z f c.terms + c.right)

-- every row of the model holds
abbrev pub Meets : ℕ → List ℕ → Model → Type 0
Meets z f m = AllByRecursion (Met z f) m.rows
