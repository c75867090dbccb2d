-- A job whose nodes were joined.
use Rattle.std.proofs.Common.{◌≡◌, ℕ, ◌+◌, ◌*◌, ◌/◌, ◌<◌, ◌≤◌, min, ltb, List, length, get_or, take, replicate, Some, None, Ok, Err, refl, sym, ap, ◌∙◌, subst, ap₂, arith, MutBor}
use lib.ListN.{length-replicate}
use Rattle.std.proofs.lemmas.List.{ext_get_or, get_or-take, get_or-replicate, length-take-le}
use Rattle.std.proofs.lemmas.Bool.{ltb-false, true≢false}
use Rattle.refusal.specs.declared.Refusal.TheVariants.{CarriesFlow}
use Rattle.lists.specs.declared.list.List.{List as Grown}
use Rattle.lists.specs.Entries.{entries, spare, SameMemory}
use Rattle.graph.specs.declared.Row.{Row}
use Rattle.graph.specs.Graph.{Layered}
use Rattle.graph.specs.Reduced.{reduced}
use Rattle.graph.proofs.Reduce.{reduced_layered}
use Rattle.reduce.proofs.Writes.{reduced_le}
use Rattle.flow.specs.Flow.{on}
use Rattle.flow.specs.Job.{View.Open, Call.Reduce, lowest, Answer.Done, Reply.Nodes, fresh, loaded, no_flow, refuse_at, step}
use Rattle.flow.proofs.Accept.{lowest_none}
use Rattle.job.specs.declared.state.State.TheVariants
use Rattle.job.specs.declared.job.Job.{Job}
use Rattle.job.specs.View.{graph_of, arcs_of, flow_of, count_of, demanded, content, size, shown, view}
use Rattle.job.specs.Sound.{Loaded}
use Rattle.job.specs.Building.{ReducedSo}
use Rattle.job.proofs.Facts.{loaded_open, cells_are}
use Rattle.job.proofs.Follow.{Whole, when_open, kept_fresh, view_fresh}

-- where no arc carries flow, the cells of the arcs are 0
pub clear_cells : (b : Job) → loaded (content b) ≡ None → (k : ℕ) → k < arcs_of b → get_or b.cells.now k 0 ≡ 0
clear_cells b none k lt =
    omega (
      arith,
      ltb-false 0 (on (flow_of b) k) (lowest_none (λ a. ltb 0 (on (flow_of b) a)) (arcs_of b) none k lt),
      get_or-take (arcs_of b) b.cells.now k 0 lt,
    )

-- the first of some cells, all 0
zeros : (xs : List ℕ) (m : ℕ) → m ≤ length xs → ((k : ℕ) → k < m → get_or xs k 0 ≡ 0) → take m xs ≡ replicate m 0
zeros xs m long each =
    ext_get_or 0 (take m xs) (replicate m 0) (length-take-le m xs long ∙ sym (length-replicate m 0))
    (λ i lt. let l : i < m = omega (arith, lt, length-take-le m xs long) in get_or-take m xs i 0 l ∙ each i l ∙ sym (get_or-replicate m i 0 0 l))

module _ (b : Job) (rows : Grown Row) (opened : b.state ≡ TheVariants.Open) (none : loaded (content b) ≡ None) (joined : entries rows ≡ reduced (graph_of b)) where
  was : Loaded b
  was = loaded_open b opened

  fewer : length (entries rows) ≤ length (graph_of b)
  fewer = omega (arith, ap length joined, reduced_le (graph_of b))

  flow_none : (cells : List ℕ) → cells ≡ b.cells.now → take (2 * length (entries rows)) cells ≡ no_flow (entries rows)
  flow_none cells same =
      zeros cells (2 * length (entries rows)) (omega (arith, fewer, was.room, ap length same))
      (λ k lt. ap (λ (xs : List ℕ). get_or xs k 0) same ∙ clear_cells b none k (omega (arith, lt, fewer)))

  layers : Layered (count_of b) (entries rows)
  layers = subst (λ (g : List Row). Layered (count_of b) g) (sym joined) (reduced_layered (count_of b) (graph_of b) was.layers)

  pub reduced_stays : (cells : List ℕ) → cells ≡ b.cells.now → Whole b.state (entries rows) cells b.items.items
  reduced_stays cells same =
      kept_fresh b.state (entries rows) cells b.items.items opened was.some_item was.few (omega (arith, was.nodes, fewer)) (omega (arith, was.room, fewer, ap length same)) layers (flow_none cells same)

  module _ (cells : MutBor (List ℕ)) (whole : Whole b.state (entries rows) cells.now b.items.items) (same : cells.now ≡ b.cells.now) (n : ℕ) (count : n ≡ length (reduced (graph_of b)))
      (memory : SameMemory rows b.rows) (capacity : length (entries rows) + length (spare rows) ≡ length (graph_of b) + length (spare b.rows)) (lent : cells.ghost_name ≡ b.cells.ghost_name) where
    abbrev a : Job
    a = record { rows = rows; cells = cells; items = b.items; state = b.state; sound = whole }

    view_is : view a ≡ Open (fresh (reduced (graph_of b)) (demanded b))
    view_is = view_fresh a opened (flow_none cells.now same) ∙ ap (λ g. Open (fresh g (demanded b))) joined

    says : step (size b) (view b) Reduce ≡ (Done (Nodes n), view a)
    says =
        ap (λ s. step (size b) (shown s (content b)) Reduce) opened
        ∙ ap (λ o. refuse_at (Open (content b)) CarriesFlow o (Done (Nodes (length (reduced (graph_of b)))), Open (fresh (reduced (graph_of b)) (demanded b)))) none
        ∙ ap₂ (λ k v. (Done (Nodes k), v)) (sym count) (sym view_is)

    pub reduces : ReducedSo b a (Ok n)
    reduces = record {
      step = says;
      room = record { rows = memory; cells = lent; size = ap₂ (λ k cs. min (min k (length cs / 2)) 65535) capacity same };
      cells = same;
      refused = λ e. absurd (true≢false e);
    }

-- what a scan of the job's flow finds
pub loaded_is : (b : Job) → Loaded b → (f : List ℕ) → f ≡ flow_of b → lowest (λ a. ltb 0 (on f a)) (length f) ≡ loaded (content b)
loaded_is b l f same = ap (λ g. lowest (λ a. ltb 0 (on g a)) (length g)) same ∙ ap (lowest (λ a. ltb 0 (on (flow_of b) a))) (cells_are b l)

-- reduce, refused
pub carries : (b : Job) (a : ℕ) → b.state ≡ TheVariants.Open → loaded (content b) ≡ Some a → ReducedSo b b (Err (CarriesFlow a))
carries b a opened e = record {
  step = when_open b Reduce _ _ opened (ap (λ o. refuse_at (Open (content b)) CarriesFlow o (Done (Nodes (length (reduced (graph_of b)))), Open (fresh (reduced (graph_of b)) (demanded b)))) e);
  room = record { rows = refl; cells = refl; size = refl };
  cells = refl;
  refused = λ _. refl;
}
