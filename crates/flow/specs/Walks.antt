-- What walks from the source to the target need, tell and write.
use Rattle.std.specs.Prelude.{◌≡◌, ℕ, ◌-◌, ◌<◌, ◌≤◌, Bool, cond, ◌||◌, List, [], length, Some, None, Ok, Err, Option, Result, nat_lt, slice_set}
use Rattle.refusal.specs.declared.Refusal.{Refusal}
use Rattle.refusal.specs.declared.Refusal.TheVariants.{NoPattern, ArcOverLimit}
use Rattle.packing.specs.Problem.{entry}
use Rattle.graph.specs.declared.Row.{Row}
use Rattle.graph.specs.Graph.{at, pass_arc, take_arc, tail, takes, Layered}
use Rattle.flow.specs.Flow.{on, value, Balanced, OnArcs, least, trail}
use Rattle.flow.specs.Job.{limit, overflows}

-- the arc by which the trail leaves node n
abbrev pub carrier : List ℕ → ℕ → ℕ
carrier f n = cond (nat_lt 0 (on f (take_arc n))) (take_arc n) (pass_arc n)

-- a balanced flow with value left, on a graph of m items
pub record Flowing (m : ℕ) (g : List Row) (f : List ℕ) : Type 0 where
  pub some_item : 1 ≤ m
  pub layers : Layered m g
  pub arcs : OnArcs g f
  pub balanced : Balanced g f
  pub some : 0 < value f

-- the times of the next bin can be taken off
pub record Ready (g : List Row) (f : List ℕ) (times : ℕ) : Type 0 where
  pub items : ℕ
  pub flowing : Flowing items g f
  pub least_is : times ≡ least f (trail (length g) g f 0)

-- the count of an item is told where its pass arc is taken
abbrev pub noted : List Row → ℕ → List ℕ → List ℕ
noted g a counts = cond (takes a) counts (slice_set counts ((at g (tail a)).item - 1) (at g (tail a)).copies)

-- the take arc while the counts ask for more copies, and then the pass arc
abbrev pub choice : List Row → List ℕ → ℕ → ℕ
choice g counts n = cond (nat_lt (at g n).copies (entry counts (at g n).item)) (take_arc n) (pass_arc n)

-- may `times` more go along a path? `over` tells of the arcs before it
abbrev pub verdict : List ℕ → ℕ → Bool → Option (List ℕ) → Result (Unit {0}) Refusal
verdict f times over None = Err NoPattern
verdict f times over (Some arcs) = cond (over || overflows f times arcs) (Err ArcOverLimit) (Ok tt)

-- a count for each item of the graph, and times within the limit
pub record Placeable (g : List Row) (counts : List ℕ) (times : ℕ) : Type 0 where
  pub some_item : 1 ≤ length counts
  pub layers : Layered (length counts) g
  pub few : times ≤ limit

-- the arcs of a path, none where there is no path
abbrev pub arcs_along : Option (List ℕ) → List ℕ
arcs_along None = []
arcs_along (Some arcs) = arcs
