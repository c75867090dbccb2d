-- What the invariant of a job gives.
use Rattle.std.proofs.Common.{◌≡◌, ℕ, ◌<◌, List, length, get_or, arith}
use std.Logic.{∥∥₁_elim}
use denote.Struct.Props.{props}
use Rattle.std.proofs.lemmas.List.{get_or-take, length-take-le}
use Rattle.graph.specs.declared.Row.{Row}
use Rattle.flow.specs.declared.ItemRecord.{ItemRecord}
use Rattle.flow.specs.Flow.{on, OnArcs}
use Rattle.flow.specs.Scans.{Fits}
use Rattle.flow.proofs.Shape.{Forward, forward, layered_prop, one_way}
use Rattle.flow.proofs.Scanning.{demands_long}
use Rattle.job.specs.declared.state.State.{State}
use Rattle.job.specs.declared.state.State.TheVariants.{Empty, Open, Accepted}
use Rattle.job.specs.declared.job.Job.{Job}
use Rattle.job.specs.View.{graph_of, arcs_of, flow_of, count_of, demanded}
use Rattle.job.specs.Standing.{Stands, Tells, Kept}
use Rattle.job.specs.Sound.{Loaded}

stands_prop : (m : ℕ) (g : List Row) (cells : List ℕ) → IsProp (Stands m g cells)
stands_prop m g cells p q = λ i. record {
  some_item = one_way p.some_item q.some_item (hlevel props) i;
  few = one_way p.few q.few (hlevel props) i;
  nodes = one_way p.nodes q.nodes (hlevel props) i;
  room = one_way p.room q.room (hlevel props) i;
  layers = layered_prop m g p.layers q.layers i;
  absent = one_way p.absent q.absent (hlevel props) i;
  limited = one_way p.limited q.limited (hlevel props) i;
}

tells_prop : (g : List Row) (f : List ℕ) (items : List ItemRecord) → IsProp (Tells g f items)
tells_prop g f items p q = λ i. record {
  balanced = one_way p.balanced q.balanced (hlevel props) i;
  left = one_way p.left q.left (hlevel props) i;
}

kept_prop : (s : State) (g : List Row) (cells : List ℕ) (items : List ItemRecord) → IsProp (Kept s g cells items)
kept_prop s g cells items p q = λ i. record {
  loaded = λ h. stands_prop _ _ _ (p.loaded h) (q.loaded h) i;
  settled = λ h. tells_prop _ _ _ (p.settled h) (q.settled h) i;
}

-- the invariant, opened
pub kept : (c : Job) → Kept c.state (graph_of c) c.cells.now c.items.items
kept c = ∥∥₁_elim c.sound (kept_prop _ _ _ _) (λ k. k)

pub open_loaded : (s : State) → s ≡ Open → s ≡ Empty → ⊥
open_loaded s a e = let z : ◌≡◌ {A = ℕ} 0 1 = cc in omega arith

pub accepted_loaded : (s : State) → s ≡ Accepted → s ≡ Empty → ⊥
accepted_loaded s a e = let z : ◌≡◌ {A = ℕ} 0 1 = cc in omega arith

-- so its graph stands
pub loaded_open : (c : Job) → c.state ≡ Open → Loaded c
loaded_open c a = (kept c).loaded (open_loaded c.state a)

pub loaded_accepted : (c : Job) → c.state ≡ Accepted → Loaded c
loaded_accepted c a = (kept c).loaded (accepted_loaded c.state a)

pub open_unsettled : (s : State) → s ≡ Open → s ≡ Accepted → ⊥
open_unsettled s a e = let z : ◌≡◌ {A = ℕ} 0 1 = cc in omega arith

module _ (c : Job) (l : Loaded c) where
  pub shape : Forward (count_of c) (graph_of c)
  shape = forward l.some_item l.layers

  pub cells_are : length (flow_of c) ≡ arcs_of c
  cells_are = length-take-le (arcs_of c) c.cells.now l.room

  pub fits : Fits (graph_of c) (flow_of c)
  fits = record { cells = cells_are; nodes = l.nodes; limited = l.limited }

  pub on_arcs : OnArcs (graph_of c) (flow_of c)
  on_arcs = record { cells = cells_are; absent = l.absent }

  pub cell_is : (a : ℕ) → a < arcs_of c → on (flow_of c) a ≡ get_or c.cells.now a 0
  cell_is a lt = get_or-take (arcs_of c) c.cells.now a 0 lt

pub demands_count : (c : Job) → length (demanded c) ≡ count_of c
demands_count c = demands_long c.items.items
