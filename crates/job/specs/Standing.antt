-- What always holds of a job, over its parts.
use Rattle.std.specs.Prelude.{◌≡◌, ℕ, suc, ◌*◌, ◌<◌, ◌≤◌, List, length, take, None, ◌≢◌, slice_index_or}
use Rattle.graph.specs.declared.Row.{Row}
use Rattle.graph.specs.Graph.{head, Layered}
use Rattle.flow.specs.declared.ItemRecord.{ItemRecord}
use Rattle.flow.specs.Flow.{on, copies_of, Balanced}
use Rattle.flow.specs.Job.{limit}
use Rattle.flow.specs.Scans.{no_item}
use Rattle.job.specs.declared.state.State.{State}
use Rattle.job.specs.declared.state.State.TheVariants.{Empty, Accepted}

-- what holds of the graph of an open or accepted job, with its m items, and of its flow in the first cells
pub record Stands (m : ℕ) (g : List Row) (cells : List ℕ) : Type 0 where
  pub some_item : 1 ≤ m
  pub few : m ≤ 64
  pub nodes : length g ≤ 65535
  pub room : 2 * length g ≤ length cells
  pub layers : Layered m g
  pub absent : (a : ℕ) → head g a ≡ None → on (take (2 * length g) cells) a ≡ 0
  pub limited : (a : ℕ) → on (take (2 * length g) cells) a ≤ limit

-- what besides holds of an accepted one: each record tells the flow on the take arcs of its item
pub record Tells (g : List Row) (f : List ℕ) (items : List ItemRecord) : Type 0 where
  pub balanced : Balanced g f
  pub left : (i : ℕ) → i < length items → (slice_index_or items i no_item).left ≡ copies_of g f (suc i)

-- what all calls keep
pub record Kept (state : State) (g : List Row) (cells : List ℕ) (items : List ItemRecord) : Type 0 where
  pub loaded : (state ≢ Empty) → Stands (length items) g cells
  pub settled : state ≡ Accepted → Tells g (take (2 * length g) cells) items
