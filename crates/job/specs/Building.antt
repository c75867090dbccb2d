-- What compile, reduce and the model text owe: their answer, and what the memory given holds afterwards.
use Rattle.std.specs.Prelude.{◌≡◌, ℕ, ◌-◌, ◌*◌, false, List, ◌++◌, map, length, take, drop, Result, MatchResult, ◌≢◌}
use Rattle.limits.specs.Meaning.{Meaning}
use Rattle.refusal.specs.declared.Refusal.{Refusal}
use Rattle.refusal.specs.declared.Refusal.TheVariants.{TooManyNodes}
use Rattle.packing.specs.Problem.{Order, items}
use Rattle.lists.specs.Entries.{entries, spare, SameMemory}
use Rattle.graph.specs.declared.Row.{Row}
use Rattle.graph.specs.Compiled.{loads}
use Rattle.flow.specs.Job.{Call.Compile, Call.Reduce, Fact.Text, Reply, Reply.Nodes, Reply.Told, step}
use Rattle.flow.specs.Law.{done}
use Rattle.job.specs.declared.job.Job.{Job}
use Rattle.job.specs.View.{size, view, answered}

-- the reply that tells a number of nodes
abbrev pub nodes : ℕ → Reply
nodes n = Nodes n

-- the text at the start of the bytes
abbrev pub text_in : List ℕ → ℕ → Reply
text_in bytes n = Told (Text (take n bytes))

-- all that the memory for the rows holds
abbrev pub row_memory : Job → List Row
row_memory c = entries c.rows ++ spare c.rows

-- over the same memory, with as much room
pub record SameRoom (before after : Job) : Type 0 where
  pub rows : SameMemory after.rows before.rows
  pub cells : after.cells.ghost_name ≡ before.cells.ghost_name
  pub size : size after ≡ size before

-- the memory after a compilation to n nodes: the amounts of the loads, and what lies past the nodes is as it was
pub record Filled {L : Type 0} (f : L → List ℕ) (amounts : List (List ℕ)) (before after : Job) (xs ys : List L) (n : ℕ) : Type 0 where
  pub loads_are : map f (take (n - 1) ys) ≡ amounts
  pub loads_past : drop (n - 1) ys ≡ drop (n - 1) xs
  pub rows_past : spare after.rows ≡ drop n (row_memory before)
  pub cells_past : drop (2 * n) after.cells.now ≡ drop (2 * n) before.cells.now

-- a refusal leaves job and loads as they were, unless there are too many nodes
abbrev pub Leaves : {L : Type 0} → Job → Job → List L → List L → Refusal → Type 0
Leaves before after xs ys e = (e ≢ TooManyNodes) → (after ≡ before) × (ys ≡ xs)

-- Compile, with memory for loads that held xs before and holds ys after.
pub record Compiles {L : Type 0} (f : L → List ℕ) (k : Meaning) (orders : List Order) (before after : Job) (xs ys : List L) (r : Result ℕ Refusal) : Type 0 where
  pub step : step (size before) (view before) (Compile k orders (length xs)) ≡ (answered nodes r, view after)
  pub room : SameRoom before after
  pub left : MatchResult r (Filled f (loads k (items k orders)) before after xs ys) (Leaves before after xs ys)

-- Reduce. All cells keep their content; the rows past the new number of nodes may hold anything.
pub record ReducedSo (before after : Job) (r : Result ℕ Refusal) : Type 0 where
  pub step : step (size before) (view before) Reduce ≡ (answered nodes r, view after)
  pub room : SameRoom before after
  pub cells : after.cells.now ≡ before.cells.now
  pub refused : done (answered nodes r) ≡ false → after ≡ before
