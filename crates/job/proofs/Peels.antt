-- What peel leaves.
use Rattle.std.proofs.Common.{◌≡◌, ℕ, suc, ◌+◌, ◌-◌, ◌*◌, ◌<◌, ◌≤◌, List, ◌++◌, length, get_or, drop, sym, ap, ◌∙◌, subst, arith, MutBor}
use Rattle.std.proofs.lemmas.List.{get_or_append_left, length-append}
use Rattle.std.proofs.lemmas.Bool.{cond-true, cond-false, ne_eqb, lt-ltb, le-ltb}
use Rattle.arrayvec.specs.ArrayVec.{ArrayVec}
use Rattle.flow.specs.declared.ItemRecord.{ItemRecord}
use Rattle.refusal.specs.declared.Refusal.TheVariants.{TooLittleMemory}
use Rattle.graph.specs.declared.Row.{Row}
use Rattle.graph.specs.Graph.{spelled}
use Rattle.flow.specs.Flow.{value, copies_of, least, pull, trail}
use Rattle.flow.specs.Job.{View.Accepted, Call.Peel, Reply.Packed, Answer.Refused, Answer.Done, with_flow, next_arcs, next_bin, step}
use Rattle.flow.specs.Scans.{no_item}
use Rattle.flow.specs.Walks.{Flowing, Ready}
use Rattle.flow.proofs.Paths.{path_long}
use Rattle.flow.proofs.Peel.{Peeled, peeled, pull_less}
use Rattle.job.specs.declared.state.State.TheVariants
use Rattle.job.specs.declared.job.Job.{Job}
use Rattle.job.specs.View.{graph_of, flow_of, arcs_of, count_of, demanded, content, size, view}
use Rattle.job.specs.Sound.{Loaded}
use Rattle.job.specs.Contract.{Follows}
use Rattle.job.specs.Changes.{LeftsSet}
use Rattle.job.proofs.Facts.{kept, loaded_accepted, shape, on_arcs, demands_count}
use Rattle.job.proofs.Follow.{Whole, stays, follows, Holds, when_accepted}

module _ (b : Job) (accepted : b.state ≡ TheVariants.Accepted) (some : 0 < value (flow_of b)) where
  pub loaded : Loaded b
  loaded = loaded_accepted b accepted

  pub flowing : Flowing (count_of b) (graph_of b) (flow_of b)
  flowing = record { some_item = loaded.some_item; layers = loaded.layers; arcs = on_arcs b loaded; balanced = ((kept b).settled accepted).balanced; some = some }

  -- at names of the same
  pub flowing_at : (m : ℕ) (g : List Row) (f : List ℕ) → m ≡ count_of b → g ≡ graph_of b → f ≡ flow_of b → Flowing m g f
  flowing_at m g f count rows flow =
      subst (λ n. Flowing n g f) (sym count) (subst (λ h. Flowing (count_of b) h f) (sym rows) (subst (λ h. Flowing (count_of b) (graph_of b) h) (sym flow) flowing))

  -- what the next bin is, at names of the same
  pub times_at : (g : List Row) (f : List ℕ) (t : ℕ) → g ≡ graph_of b → f ≡ flow_of b → t ≡ least f (trail (length g) g f 0) → t ≡ (next_bin (content b)).times
  times_at g f t rows flow is = is ∙ (λ i. least (flow i) (trail (length (rows i)) (rows i) (flow i) 0))

  pub counts_at : (g : List Row) (f told : List ℕ) → g ≡ graph_of b → f ≡ flow_of b → told ≡ spelled (trail (length g) g f 0) → told ≡ spelled (next_arcs (content b))
  counts_at g f told rows flow is = is ∙ (λ i. spelled (trail (length (rows i)) (rows i) (flow i) 0))

  abbrev arcs : List ℕ
  arcs = next_arcs (content b)

  off : Peeled (graph_of b) (flow_of b) arcs ((next_bin (content b)).times)
  off = peeled (shape b loaded) (flow_of b) (on_arcs b loaded) ((kept b).settled accepted).balanced some

  pub spelled_long : length (spelled arcs) ≡ count_of b
  spelled_long = omega (arith, path_long (shape b loaded) off.is_path, (shape b loaded).source.0)

  pub no_room : (cells : ℕ) → cells < count_of b → step (size b) (view b) (Peel cells) ≡ (Refused TooLittleMemory, view b)
  no_room cells lt =
      when_accepted b (Peel cells) _ _ accepted
      (cond-false _ _ _ (ne_eqb (value (flow_of b)) 0 (λ e. omega (arith, some)))
      ∙ cond-true _ _ _ (lt-ltb cells (length (demanded b)) (omega (arith, demands_count b))))

  module _ (times : ℕ) (times-are : times ≡ (next_bin (content b)).times) where
    pub ready : Ready (graph_of b) (flow_of b) times
    ready = record { items = count_of b; flowing = flowing; least_is = times-are }

    abbrev left_flow : List ℕ
    left_flow = pull (flow_of b) arcs times

    gone : Peeled (graph_of b) (flow_of b) arcs times
    gone = subst (λ t. Peeled (graph_of b) (flow_of b) arcs t) (sym times-are) off

    module _ (counts told rest : List ℕ) (counts-are : told ≡ spelled arcs) (given : counts ≡ told ++ rest) where
      count_at : (i : ℕ) → i < count_of b → get_or counts i 0 ≡ get_or (spelled arcs) i 0
      count_at i lt = ap (λ c. get_or c i 0) (given ∙ ap (λ c. c ++ rest) counts-are) ∙ get_or_append_left (spelled arcs) rest 0 i (omega (arith, spelled_long))

      -- what an item's record held is what is left and what the bin takes
      splits : (i : ℕ) → i < count_of b → copies_of (graph_of b) left_flow (suc i) + times * get_or counts i 0 ≡ (get_or b.items.items i no_item).left
      splits i lt =
          ap (λ c. copies_of (graph_of b) left_flow (suc i) + times * c) (count_at i lt)
          ∙ gone.copies_fall (suc i) (omega arith)
          ∙ sym (((kept b).settled accepted).left i lt)

      pub enough : (i : ℕ) → i < count_of b → times * get_or counts i 0 ≤ (get_or b.items.items i no_item).left
      enough i lt = omega (arith, splits i lt)

      pub room : count_of b ≤ length counts
      room = omega (arith, ap length given, length-append told rest, ap length counts-are, spelled_long)

      holds : Holds b left_flow
      holds = record { arcs = gone.keeps; limited = λ a. omega (arith, pull_less arcs (flow_of b) times a, loaded.limited a) }

      module _ (t : ArrayVec ItemRecord) (booked : LeftsSet b.items.items t.items (λ i. (get_or b.items.items i no_item).left - times * get_or counts i 0)) where
        now_left : (i : ℕ) → i < length t.items → (get_or t.items i no_item).left ≡ copies_of (graph_of b) left_flow (suc i)
        now_left i lt = let l : i < count_of b = omega (arith, booked.long) in omega (arith, booked.told i l, splits i l)

        pub peeled_stays : (cells : List ℕ) → cells ≡ left_flow ++ drop (arcs_of b) b.cells.now → Whole b.state (graph_of b) cells t.items
        peeled_stays cells wrote = stays b left_flow holds cells wrote b.state t.items loaded (λ _. record { balanced = gone.balanced; left = now_left }) booked.demands

        pub peel_done : (r : MutBor (List ℕ)) (whole : Whole b.state (graph_of b) r.now t.items) → r.now ≡ left_flow ++ drop (arcs_of b) b.cells.now → r.ghost_name ≡ b.cells.ghost_name → (cells : ℕ) → count_of b ≤ cells →
            Follows b (record { rows = b.rows; cells = r; items = t; state = b.state; sound = whole }) (Peel cells) (Done (Packed (record { counts = told; times = times })))
        peel_done r whole wrote lent cells le =
            follows b r t b.state whole left_flow holds wrote (Peel cells) (Packed (record { counts = told; times = times })) lent booked.demands
            (when_accepted b (Peel cells) _ _ accepted
            (cond-false _ _ _ (ne_eqb (value (flow_of b)) 0 (λ e. omega (arith, some)))
            ∙ cond-false _ _ _ (le-ltb cells (length (demanded b)) (omega (arith, demands_count b)))
            ∙ (λ i. (Done (Packed (record { counts = sym counts-are i; times = sym times-are i })), Accepted (with_flow (content b) (pull (flow_of b) arcs (sym times-are i)))))))
