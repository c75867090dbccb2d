-- What a call that writes cells, records or the state leaves.
use Rattle.std.proofs.Common.{◌≡◌, ℕ, suc, ◌*◌, ◌<◌, ◌≤◌, List, ◌++◌, length, take, drop, set, Some, sym, refl, ap, ◌∙◌, subst, ⊎_elim, arith, length-set, MutBor}
use lib.ListN.{length-replicate}
use denote.Struct.Props.{props}
use Rattle.std.proofs.lemmas.List.{get_or_past, get_or-set_other, get_or-replicate, take_at, drop_at, set-append_left, take-append-drop, length-append}
use Rattle.std.proofs.lemmas.Bool.{cases_lt, true≢false}
use Rattle.arrayvec.specs.ArrayVec.{ArrayVec}
use Rattle.refusal.specs.declared.Refusal.{Refusal}
use Rattle.graph.specs.declared.Row.{Row}
use Rattle.graph.specs.Graph.{head, Layered}
use Rattle.flow.specs.declared.ItemRecord.{ItemRecord}
use Rattle.flow.specs.Flow.{on, copies_of, Balanced, OnArcs}
use Rattle.flow.specs.Job.{limit, Content, View.Open, View.Accepted, Call, Call.Clear, Reply, Reply.Plain, Answer, fresh, Answer.Done, Answer.Refused, no_flow, step}
use Rattle.flow.specs.Scans.{demands_of}
use Rattle.flow.proofs.Shape.{not_none, one_way}
use Rattle.flow.proofs.Scanning.{arc_within, demands_long}
use Rattle.flow.proofs.Routing.{limited_set}
use Rattle.job.specs.declared.state.State.{State}
use Rattle.job.specs.declared.state.State.TheVariants
use Rattle.job.specs.declared.job.Job.{Job}
use Rattle.job.specs.View.{graph_of, arcs_of, flow_of, count_of, demanded, content, size, shown, view}
use Rattle.job.specs.Standing.{Stands, Tells, Kept}
use Rattle.job.specs.Sound.{Loaded}
use Rattle.job.specs.Contract.{Follows}
use Rattle.job.proofs.Facts.{accepted_loaded, on_arcs, open_unsettled, demands_count}

-- the invariant over the parts of a job
abbrev pub Whole : State → List Row → List ℕ → List ItemRecord → Type 0
Whole s g cells items = ∥ Kept s g cells items ∥₁

-- an empty job may hold anything
pub empty_stays : (g : List Row) (cells : List ℕ) (items : List ItemRecord) → Whole TheVariants.Empty g cells items
empty_stays g cells items = ∣ record { loaded = λ ne. absurd (ne refl); settled = λ e. absurd (accepted_loaded TheVariants.Empty e refl) } ∣₁

-- a call on an open job
pub when_open : (b : Job) (c : Call) (r : Answer) (j : Content) → b.state ≡ TheVariants.Open → step (size b) (Open (content b)) c ≡ (r, Open j) → step (size b) (view b) c ≡ (r, shown b.state j)
when_open b c r j is says = subst (λ s. step (size b) (shown s (content b)) c ≡ (r, shown s j)) (sym is) says

-- a call on an accepted job
pub when_accepted : (b : Job) (c : Call) (r : Answer) (j : Content) → b.state ≡ TheVariants.Accepted → step (size b) (Accepted (content b)) c ≡ (r, Accepted j) → step (size b) (view b) c ≡ (r, shown b.state j)
when_accepted b c r j is says = subst (λ s. step (size b) (shown s (content b)) c ≡ (r, shown s j)) (sym is) says

-- a flow that the cells of a job can hold
pub record Holds (b : Job) (f : List ℕ) : Type 0 where
  pub arcs : OnArcs (graph_of b) f
  pub limited : (a : ℕ) → on f a ≤ limit

pub holds_now : (b : Job) → Loaded b → Holds b (flow_of b)
holds_now b l = record { arcs = on_arcs b l; limited = l.limited }

-- the cells of a job written, with this flow in the first
module _ (b : Job) (f : List ℕ) (h : Holds b f) (cells : List ℕ) (wrote : cells ≡ f ++ drop (arcs_of b) b.cells.now) where
  flow_is : take (arcs_of b) cells ≡ f
  flow_is = ap (take (arcs_of b)) wrote ∙ take_at f (drop (arcs_of b) b.cells.now) (arcs_of b) h.arcs.cells

  past_is : drop (arcs_of b) cells ≡ drop (arcs_of b) b.cells.now
  past_is = ap (drop (arcs_of b)) wrote ∙ drop_at f (drop (arcs_of b) b.cells.now) (arcs_of b) h.arcs.cells

  stands : (items : List ItemRecord) → Loaded b → length items ≡ count_of b → Stands (length items) (graph_of b) cells
  stands items l same = record {
    some_item = omega (arith, l.some_item);
    few = omega (arith, l.few);
    nodes = l.nodes;
    room = omega (arith, ap length wrote, length-append f (drop (arcs_of b) b.cells.now), h.arcs.cells);
    layers = subst (λ m. Layered m (graph_of b)) (sym same) l.layers;
    absent = λ a none. ap (λ g. on g a) flow_is ∙ h.arcs.absent a none;
    limited = λ a. subst (λ g. on g a ≤ limit) (sym flow_is) (h.limited a);
  }

  tells : (items : List ItemRecord) → Tells (graph_of b) f items → Tells (graph_of b) (take (arcs_of b) cells) items
  tells items q = record {
    balanced = subst (λ g. Balanced (graph_of b) g) (sym flow_is) q.balanced;
    left = λ i lt. q.left i lt ∙ ap (λ g. copies_of (graph_of b) g (suc i)) (sym flow_is);
  }

  -- the invariant that a call leaves
  pub stays : (s : State) (items : List ItemRecord) → Loaded b → (s ≡ TheVariants.Accepted → Tells (graph_of b) f items) → demands_of items ≡ demanded b → Whole s (graph_of b) cells items
  stays s items l told same = ∣ record { loaded = λ ne. stands items l (omega (arith, demands_long items, demands_count b, ap length same)); settled = λ e. tells items (told e) } ∣₁

-- a call that is done and leaves this
pub follows : (b : Job) (r : MutBor (List ℕ)) (t : ArrayVec ItemRecord) (s : State) (whole : Whole s (graph_of b) r.now t.items) (f : List ℕ) (h : Holds b f) → r.now ≡ f ++ drop (arcs_of b) b.cells.now →
    (c : Call) (x : Reply) → r.ghost_name ≡ b.cells.ghost_name → demands_of t.items ≡ demanded b →
    step (size b) (view b) c ≡ (Done x, shown s (record { graph = graph_of b; flow = f; demands = demanded b })) →
    Follows b (record { rows = b.rows; cells = r; items = t; state = s; sound = whole }) c (Done x)
follows b r t s whole f h wrote c x lent same says = record {
  step = says ∙ (λ i. (Done x, shown s (record { graph = graph_of b; flow = sym (flow_is b f h r.now wrote) i; demands = sym same i })));
  memory = record { rows = refl; past = past_is b f h r.now wrote; lent = lent };
  refused = λ e. absurd (true≢false e);
}

-- a refusal, with any proof of the invariant
pub refuses : (b : Job) (whole : Whole b.state (graph_of b) b.cells.now b.items.items) (c : Call) (e : Refusal) → step (size b) (view b) c ≡ (Refused e, view b) →
    Follows b (record { rows = b.rows; cells = b.cells; items = b.items; state = b.state; sound = whole }) c (Refused e)
refuses b whole c e says = record {
  step = says;
  memory = record { rows = refl; past = refl; lent = refl };
  refused = λ _ i. record { rows = b.rows; cells = b.cells; items = b.items; state = b.state; sound = one_way whole b.sound (hlevel props) i };
}

-- One flow set.
module _ (b : Job) (h : Holds b (flow_of b)) (a k x : ℕ) (there_is : head (graph_of b) a ≡ Some k) where
  pub holds_set : x ≤ limit → Holds b (set (flow_of b) a x)
  holds_set le = record {
    arcs = record {
      cells = length-set (flow_of b) a x ∙ h.arcs.cells;
      absent = λ c none. get_or-set_other (flow_of b) a c x 0 (λ e. not_none (head (graph_of b) a) k there_is (ap (head (graph_of b)) (sym e) ∙ none)) ∙ h.arcs.absent c none;
    };
    limited = λ c. limited_set (flow_of b) a x c (h.limited c) le;
  }

  pub wrote_set : set b.cells.now a x ≡ set (flow_of b) a x ++ drop (arcs_of b) b.cells.now
  wrote_set =
      ap (λ l. set l a x) (sym (take-append-drop (arcs_of b) b.cells.now))
      ∙ set-append_left (flow_of b) (drop (arcs_of b) b.cells.now) a x (omega (arith, h.arcs.cells, arc_within (graph_of b) a k there_is))

-- A graph without flow.
no_flow_at : (g : List Row) (a : ℕ) → on (no_flow g) a ≡ 0
no_flow_at g a =
    ⊎_elim (λ (lt : a < 2 * length g). get_or-replicate (2 * length g) a 0 0 lt)
    (λ (le : 2 * length g ≤ a). get_or_past (no_flow g) a 0 (omega (arith, length-replicate {A = ℕ} (2 * length g) 0))) (cases_lt a (2 * length g))

pub holds_none : (b : Job) → Holds b (no_flow (graph_of b))
holds_none b = record {
  arcs = record { cells = length-replicate (arcs_of b) 0; absent = λ a none. no_flow_at (graph_of b) a };
  limited = λ a. omega (arith, no_flow_at (graph_of b) a);
}

-- what holds of an open job whose graph is new and whose flow is all 0
pub kept_fresh : (s : State) (g : List Row) (cells : List ℕ) (items : List ItemRecord) → s ≡ TheVariants.Open → 1 ≤ length items → length items ≤ 64 → length g ≤ 65535 → 2 * length g ≤ length cells →
    Layered (length items) g → take (2 * length g) cells ≡ no_flow g → Whole s g cells items
kept_fresh s g cells items opened some few nodes room layers none = ∣ record {
  loaded = λ ne. record {
    some_item = some;
    few = few;
    nodes = nodes;
    room = room;
    layers = layers;
    absent = λ a gone. ap (λ f. on f a) none ∙ no_flow_at g a;
    limited = λ a. omega (arith, ap (λ f. on f a) none, no_flow_at g a);
  };
  settled = λ e. absurd (open_unsettled s opened e);
} ∣₁

pub view_fresh : (c : Job) → c.state ≡ TheVariants.Open → flow_of c ≡ no_flow (graph_of c) → view c ≡ Open (fresh (graph_of c) (demanded c))
view_fresh c opened none = ap (λ s. shown s (content c)) opened ∙ (λ i. Open (record { graph = graph_of c; flow = none i; demands = demanded c }))

-- clear, done
pub cleared : (b : Job) → (b.state ≡ TheVariants.Empty → ⊥) → step (size b) (view b) Clear ≡ (Done Plain, Open (fresh (graph_of b) (demanded b)))
cleared b ne = go b.state ne
  where
    go : (s : State) → (s ≡ TheVariants.Empty → ⊥) → step (size b) (shown s (content b)) Clear ≡ (Done Plain, Open (fresh (graph_of b) (demanded b)))
    go TheVariants.Empty ne = absurd (ne refl)
    go TheVariants.Open ne = refl
    go TheVariants.Accepted ne = refl
