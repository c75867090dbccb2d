-- A job with a compiled graph.
use Rattle.std.proofs.Common.{◌≡◌, ℕ, ◌-◌, ◌*◌, ◌/◌, ◌<◌, ◌≤◌, min, leb, List, ◌++◌, map, length, get_or, take, drop, replicate, Some, None, Option, Ok, Err, sym, refl, ap, ◌∙◌, subst, ⊎_elim, arith, MutBor}
use lib.ListN.{length-replicate}
use Rattle.std.proofs.lemmas.List.{get_or-map, length-map, take_at, drop_at, take-append-le, drop-append-le, take-append-drop, length-append, length-drop, length-take-le}
use Rattle.std.proofs.lemmas.Bool.{cond-true, cond-false, le-leb, lt-leb, cases_lt}
use Rattle.arrayvec.specs.ArrayVec.{ArrayVec}
use Rattle.limits.specs.Meaning.{Meaning}
use Rattle.refusal.specs.declared.Refusal.TheVariants.{BadItem, TooManyNodes}
use Rattle.lists.specs.declared.list.List.{List as Grown}
use Rattle.lists.specs.Entries.{entries, SameMemory}
use Rattle.packing.specs.declared.Item.{Item as Given}
use Rattle.packing.specs.Problem.{Order, demands, item_of, items, flaw}
use Rattle.packing.specs.Given.{order_of, orders_of}
use Rattle.graph.specs.declared.Row.{Row}
use Rattle.graph.specs.Graph.{Layered}
use Rattle.graph.specs.Compiled.{compiled}
use Rattle.graph.proofs.Laws.{compiles_layered}
use Rattle.compile.specs.Growth.{capacity}
use Rattle.compile.specs.Memory.{Compiles as Fills, CompilesTo}
use Rattle.compile.proofs.Orders.{some_item, few_items}
use Rattle.flow.specs.declared.ItemRecord.{ItemRecord}
use Rattle.flow.specs.Scans.{demands_of}
use Rattle.flow.proofs.Scanning.{demands_long}
use Rattle.flow.specs.Job.{View.Open, Call.Compile, Answer.Done, Reply.Nodes, refuse_at, fresh, no_flow, opened, step}
use Rattle.job.specs.declared.job.Job.{Job}
use Rattle.job.specs.declared.state.State.TheVariants
use Rattle.job.specs.View.{size, view}
use Rattle.job.specs.Building.{Compiles}
use Rattle.job.proofs.Follow.{Whole, kept_fresh, view_fresh}

pub number_of_demands : (its : List Given) → length (demands (orders_of its)) ≡ length its
number_of_demands its = length-map (orders_of its) _ ∙ length-map its order_of

pub demand_at : (its : List Given) (i : ℕ) (d : Given) → i < length its → (get_or its i d).demand ≡ get_or (demands (orders_of its)) i 0
demand_at its i d lt =
    sym (get_or-map _ (orders_of its) i (order_of d) 0 (omega (arith, length-map its order_of)) ∙ ap (λ o. o.demand) (get_or-map order_of its i d (order_of d) lt))

-- a write to the front of a memory that keeps what lies past place m there, keeps it in the whole
front_past : {L : Type 0} (xs ys : List L) (room m : ℕ) → room ≤ length xs → length ys ≡ room → m ≤ room → drop m ys ≡ drop m (take room xs) → drop m (ys ++ drop room xs) ≡ drop m xs
front_past xs ys room m within long le same =
    drop-append-le m ys (drop room xs) (omega arith) ∙ ap (λ l. l ++ drop room xs) same
    ∙ sym (drop-append-le m (take room xs) (drop room xs) (omega (arith, length-take-le room xs within)))
    ∙ ap (drop m) (take-append-drop room xs)

-- Items with which nothing is wrong are compiled: xs is what the memory for the loads held before, and the first `room` places of it
-- are given to the compilation.
module _ {L : Type 0} (f : L → List ℕ) (k : Meaning) (its : List Given) (b : Job) (xs : List L) (sound : flaw k (orders_of its) ≡ None) where
  abbrev orders : List Order
  orders = orders_of its

  abbrev made : List Row
  made = compiled k (items k orders)

  steps_to : step (size b) (view b) (Compile k orders (length xs)) ≡ opened (min (size b) (length xs)) made (demands orders)
  steps_to = ap (λ o. refuse_at (view b) BadItem o (opened (min (size b) (length xs)) made (demands orders))) sound

  module _ (s room : ℕ) (size_is : s ≡ size b) (room-is : room ≡ min s (length xs)) (rows : Grown Row) (same-room : capacity rows ≡ capacity b.rows) (same_memory : SameMemory rows b.rows) where
    -- there is so much room for loads, rows and flow
    in_loads : room ≤ length xs
    in_loads = omega arith

    in_rows : room ≤ capacity b.rows
    in_rows = omega arith

    in_cells : 2 * room ≤ length b.cells.now
    in_cells = omega arith

    in_limit : room ≤ 65535
    in_limit = omega arith

    front_long : length (take room xs) ≡ room
    front_long = length-take-le room xs in_loads

    -- the graph has more nodes than that
    pub too_many : (whole : Whole TheVariants.Empty (entries rows) b.cells.now b.items.items) (ys : List L) → (length made ≤ capacity b.rows → length made ≤ length (take room xs) → ⊥)
        → Compiles f k orders b (record { rows = rows; cells = b.cells; items = b.items; state = TheVariants.Empty; sound = whole }) xs ys (Err TooManyNodes)
    too_many whole ys short = record {
      step = steps_to ∙ cond-false (leb (length made) (min (size b) (length xs))) _ _ (lt-leb (length made) (min (size b) (length xs)) above);
      room = record { rows = same_memory; cells = refl; size = ap (λ n. min (min n (length b.cells.now / 2)) 65535) same-room };
      left = λ ne. absurd (ne refl);
    }
      where
        above : min (size b) (length xs) < length made
        above =
            ⊎_elim (λ (lt : min (size b) (length xs) < length made). lt)
            (λ (le : length made ≤ min (size b) (length xs)). absurd (short (omega (arith, in_rows)) (omega (arith, front_long))))
            (cases_lt (min (size b) (length xs)) (length made))

    -- The graph stands in the rows, and the demands are taken over.
    module _ (mem : List L) (o : Option ℕ) (told : Fills f k (items k orders) b.rows rows (take room xs) mem o) (n : ℕ) (is : o ≡ Some n) (long : length mem ≡ length (take room xs))
        (t : ArrayVec ItemRecord) (took : demands_of t.items ≡ demands orders) where
      to : CompilesTo f k (items k orders) b.rows rows (take room xs) mem n
      to = subst (λ p. Fills f k (items k orders) b.rows rows (take room xs) mem p) is told

      abbrev zeros : List ℕ
      zeros = replicate (2 * n) 0

      abbrev past : List ℕ
      past = drop (2 * n) b.cells.now

      zeros_long : length zeros ≡ 2 * n
      zeros_long = length-replicate (2 * n) 0

      few : n ≤ room
      few = omega (arith, to.room, front_long)

      nodes_are : length (entries rows) ≡ n
      nodes_are = ap length to.rows ∙ sym to.count

      count_is : length t.items ≡ length its
      count_is = sym (demands_long t.items) ∙ ap length took ∙ number_of_demands its

      layers : Layered (length t.items) (entries rows)
      layers = subst (λ m. Layered m (entries rows)) (length-map orders (item_of k) ∙ length-map its order_of ∙ sym count_is) (subst (λ g. Layered (length (items k orders)) g) (sym to.rows) (compiles_layered k (items k orders)).0)

      -- the cells of the arcs wiped
      module _ (cells : List ℕ) (wrote : cells ≡ zeros ++ past) where
        cells_long : length cells ≡ length b.cells.now
        cells_long = omega (arith, in_cells, few, ap length wrote, length-append zeros past, zeros_long, length-drop (2 * n) b.cells.now)

        wiped : take (2 * length (entries rows)) cells ≡ no_flow (entries rows)
        wiped =
            ap (λ m. take (2 * m) cells) nodes_are ∙ ap (take (2 * n)) wrote ∙ take_at zeros past (2 * n) zeros_long
            ∙ ap (λ m. replicate (2 * m) 0) (sym nodes_are)

        pub compiled_stays : Whole TheVariants.Open (entries rows) cells t.items
        compiled_stays = kept_fresh TheVariants.Open (entries rows) cells t.items refl (omega (arith, count_is, some_item k its sound)) (omega (arith, count_is, few_items k its sound))
            (omega (arith, nodes_are, few, in_limit)) (omega (arith, nodes_are, few, in_cells, cells_long)) layers wiped

      module _ (r : MutBor (List ℕ)) (whole : Whole TheVariants.Open (entries rows) r.now t.items) (wrote : r.now ≡ zeros ++ past) (lent : r.ghost_name ≡ b.cells.ghost_name) where
        abbrev after : Job
        after = record { rows = rows; cells = r; items = t; state = TheVariants.Open; sound = whole }

        step_is : step (size b) (view b) (Compile k orders (length xs)) ≡ (Done (Nodes n), view after)
        step_is =
            steps_to ∙ cond-true (leb (length made) (min (size b) (length xs))) _ _ (le-leb (length made) (min (size b) (length xs)) (omega (arith, to.count, few)))
            ∙ (λ i. (Done (Nodes (sym to.count i)), Open (fresh (sym to.rows i) (sym took i))))
            ∙ ap (λ v. (Done (Nodes n), v)) (sym (view_fresh after refl (wiped r.now wrote)))

        pub compiles : Compiles f k orders b after xs (mem ++ drop room xs) (Ok n)
        compiles = record {
          step = step_is;
          room = record { rows = same_memory; cells = lent; size = λ i. min (min (same-room i) (cells_long r.now wrote i / 2)) 65535 };
          left = record {
            loads_are = ap (map f) (take-append-le (n - 1) mem (drop room xs) (omega (arith, few, front_long))) ∙ to.amounts;
            loads_past = front_past xs mem room (n - 1) in_loads (long ∙ front_long) (omega (arith, few)) to.loads_past;
            rows_past = to.rows_past;
            cells_past = ap (drop (2 * n)) wrote ∙ drop_at zeros past (2 * n) zeros_long;
          };
        }
