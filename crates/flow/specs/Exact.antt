-- The model is exact: it has a solution of value z if and only if there is a packing in z bins.
use Rattle.std.specs.Prelude.{◌≡◌, ℕ, ◌↔◌, List, None}
use Rattle.limits.specs.Meaning.{Meaning, Rules}
use Rattle.graph.specs.declared.Row.{Row}
use Rattle.packing.specs.Problem.{Order, Problem, demands, items, flaw, Bin, Packing}
use Rattle.graph.specs.Compiled.{compiled}
use Rattle.graph.specs.Reduced.{reduced}
use Rattle.flow.specs.Flow.{OnArcs}
use Rattle.flow.specs.Model.{model, Meets}

-- a flow on the arcs of a graph that meets every row of its model at z
abbrev pub Solution : Problem → List Row → ℕ → Type 0
Solution p g z = (f : List ℕ) × OnArcs g f × Meets z f (model g (demands p.orders))

-- the model of this graph has a solution of value z just where the problem has a packing in z bins
abbrev pub Exact : Problem → List Row → Type 0
Exact p g = (z : ℕ) → Solution p g z ↔ ((bins : List Bin) × Packing p bins z)

-- of every problem that compiles, for its graph and for the reduced graph
abbrev pub ModelsExactly : Type 0
ModelsExactly =
    (k : Meaning) (orders : List Order) → Rules k → flaw k orders ≡ None →
    Exact (record { kind = k; orders = orders }) (compiled k (items k orders)) × Exact (record { kind = k; orders = orders }) (reduced (compiled k (items k orders)))
