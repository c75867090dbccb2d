-- The model's solutions are the packings: a flow comes apart into bins, and bins add up to a flow.
use Rattle.std.proofs.Common.{◌≡◌, ℕ, zero, suc, ◌+◌, ◌*◌, ◌≤◌, ◌⊎◌, List, [], ◌∷◌, length, sym, ◌∙◌, subst, inl, inr, arith}
use lib.ListN.{length-map}
use Rattle.std.specs.List.{AllByRecursion}
use Rattle.std.proofs.lemmas.Bool.{cases_eq}
use Rattle.graph.specs.declared.Row.{Row}
use Rattle.packing.specs.Problem.{Problem, demands, items, Pattern, Bin, times_of, copies_in, Packing}
use Rattle.graph.specs.Graph.{spelled}
use Rattle.graph.specs.Laws.{SpellsJust}
use Rattle.flow.specs.Arcs.{arcs_into}
use Rattle.flow.specs.Flow.{on, value, copies_of, carrying, Balanced, OnArcs, push, pull, least, trail}
use Rattle.flow.specs.Model.{model, Meets}
use Rattle.flow.specs.Job.{Content, no_flow}
use Rattle.flow.specs.Exact.{Solution, Exact, ModelsExactly}
use Rattle.flow.proofs.Shape.{Forward}
use Rattle.flow.proofs.Place.{push_on_arcs, push_value, push_copies, push_balanced}
use Rattle.flow.proofs.Peel.{Peeled, peeled}
use Rattle.flow.proofs.Drained.{no_copies}
use Rattle.flow.proofs.Rows.{meets_model, model_value, model_balanced, model_covers}
use Rattle.flow.proofs.Packings.{Good, ahead, carried_none}
use Rattle.flow.proofs.Runs.{on_zeros, no_flow_on_arcs, good_compiled, good_reduced}

module _ (p : Problem) (g : List Row) (s : Forward (length p.orders) g) (spells : SpellsJust g p.kind (items p.kind p.orders)) where
  -- bins that make up a flow
  record MakesUp (f : List ℕ) : Type 0 where
    bins : List Bin
    patterns : AllByRecursion (λ b. Pattern p b.counts) bins
    used : AllByRecursion (λ b. 1 ≤ b.times) bins
    total : times_of bins ≡ value f
    copies : (i : ℕ) → 1 ≤ i → copies_in bins i ≡ copies_of g f i

  nothing : (f : List ℕ) → OnArcs g f → Balanced g f → value f ≡ 0 → MakesUp f
  nothing f on_arcs bal none = record { bins = []; patterns = tt; used = tt; total = sym none; copies = λ i low. sym (no_copies s f on_arcs bal none i) }

  abbrev next : List ℕ → List ℕ
  next f = trail (length g) g f 0

  one_more : (f : List ℕ) → Peeled g f (next f) (least f (next f)) → MakesUp (pull f (next f) (least f (next f))) → MakesUp f
  one_more f one rest = record {
    bins = record { counts = spelled (next f); times = least f (next f) } ∷ rest.bins;
    patterns = ((spells (spelled (next f))).0 (next f) one.is_path, rest.patterns);
    used = (one.some, rest.used);
    total = omega (arith, rest.total, one.value_falls);
    copies = λ i low. omega (arith, rest.copies i low, one.copies_fall i low);
  }

  -- a balanced flow with at most d carrying arcs comes apart
  comes_apart : (d : ℕ) (f : List ℕ) → OnArcs g f → Balanced g f → carrying f ≤ d → MakesUp f
  comes_apart zero f on_arcs bal few = go (cases_eq (value f) 0)
    where
      go : (value f ≡ 0) ⊎ (value f ≡ 0 → ⊥) → MakesUp f
      go (inl none) = nothing f on_arcs bal none
      go (inr some) = absurd (omega (arith, few, (peeled s f on_arcs bal (omega (arith, some))).fewer))
  comes_apart (suc d) f on_arcs bal few = go (comes_apart d) (cases_eq (value f) 0)
    where
      go : ((f : List ℕ) → OnArcs g f → Balanced g f → carrying f ≤ d → MakesUp f) → (value f ≡ 0) ⊎ (value f ≡ 0 → ⊥) → MakesUp f
      go further (inl none) = nothing f on_arcs bal none
      go further (inr some) =
          let one : Peeled g f (next f) (least f (next f)) = peeled s f on_arcs bal (omega (arith, some)) in
          one_more f one (further (pull f (next f) (least f (next f))) one.keeps one.balanced (omega (arith, few, one.fewer)))

  -- what bins add to a flow
  record Adds (f : List ℕ) (bins : List Bin) : Type 0 where
    flow : List ℕ
    on_arcs : OnArcs g flow
    balanced : Balanced g flow
    worth : value flow ≡ value f + times_of bins
    copies : (i : ℕ) → 1 ≤ i → copies_of g flow i ≡ copies_of g f i + copies_in bins i

  adds_up : (bins : List Bin) (f : List ℕ) → OnArcs g f → Balanced g f → AllByRecursion (λ b. Pattern p b.counts) bins → Adds f bins
  adds_up [] f on_arcs bal pats = record { flow = f; on_arcs = on_arcs; balanced = bal; worth = omega arith; copies = λ i low. omega arith }
  adds_up (b ∷ bins) f on_arcs bal pats =
      let found = (spells b.counts).1 pats.0 in
      let t : ℕ = b.times in
      let rest : Adds (push f found.0 t) bins = adds_up bins (push f found.0 t) (push_on_arcs s f on_arcs found.1 t) (push_balanced s f on_arcs found.1 t bal) pats.1 in
      record {
        flow = rest.flow;
        on_arcs = rest.on_arcs;
        balanced = rest.balanced;
        worth = omega (arith, rest.worth, push_value s f on_arcs found.1 t);
        copies = λ i low. omega (arith, rest.copies i low, push_copies s f on_arcs found.1 t i low);
      }

  abbrev wanted : List ℕ
  wanted = demands p.orders

  item_count : length wanted ≡ length p.orders
  item_count = length-map p.orders (λ x. x.demand)

  packed : (z : ℕ) → Solution p g z → (bins : List Bin) × Packing p bins z
  packed z (f, on_arcs, meets) =
      let apart : MakesUp f = comes_apart (carrying f) f on_arcs (model_balanced g f on_arcs wanted z meets) (omega arith) in (
        apart.bins,
        record {
          patterns = apart.patterns;
          used = apart.used;
          total = apart.total ∙ model_value g f on_arcs wanted z meets s.two;
          covers = λ i low high. omega (arith, apart.copies i low, model_covers g f on_arcs wanted z meets i low (omega (arith, high, item_count)));
        },
      )

  none_on : (a : ℕ) → on (no_flow g) a ≡ 0
  none_on a = on_zeros (2 * length g) a

  solved : (z : ℕ) → (bins : List Bin) × Packing p bins z → Solution p g z
  solved z (bins, pack) =
      let still : Balanced g (no_flow g) = λ v inside below. omega (arith, carried_none (no_flow g) none_on (arcs_into g v), none_on (2 * v), none_on (2 * v + 1)) in
      let sum : Adds (no_flow g) bins = adds_up bins (no_flow g) (no_flow_on_arcs g) still pack.patterns in
      let worth : value sum.flow ≡ z = omega (arith, sum.worth, pack.total, none_on 0, none_on 1) in (
        sum.flow,
        sum.on_arcs,
        subst (λ z. Meets z sum.flow (model g wanted)) worth
            (meets_model g sum.flow sum.on_arcs wanted sum.balanced
            (λ i low high. omega (arith, pack.covers i low (omega (arith, high, item_count)), sum.copies i low))),
      )

  exact : Exact p g
  exact z = (packed z, solved z)

of_good : (p : Problem) (j : Content) → Good p j → Exact p j.graph
of_good p j good = exact p j.graph (ahead good) good.spells

pub models_exactly : ModelsExactly
models_exactly k orders rules none =
    let p : Problem = record { kind = k; orders = orders } in
    let good = good_compiled k orders rules none in
    (of_good p _ good, of_good p _ (good_reduced p _ good))
