-- The law over whole runs.
use Rattle.std.proofs.Common.{◌≡◌, ℕ, zero, suc, ◌+◌, ◌*◌, ◌<◌, ◌≤◌, min, Bool, true, false, cond, not, ◌&&◌, ◌||◌, eqb, ltb, leb, ◌↔◌, List, [], ◌∷◌, length, set, replicate, is_some, Some, None, Option, sym, refl, ap, ◌∙◌, subst, arith, length-set, get_or-set_other}
use lib.ListN.{length-replicate, length-map}
use Rattle.std.specs.List.{AllByRecursion}
use Rattle.std.proofs.lemmas.Bool.{and_from, cond_both, cond-true, cond-false, ne_eqb, le-ltb, le-leb, lt-ltb, eqb-false, not-false, false≢true}
use Rattle.limits.specs.Meaning.{Meaning, Rules}
use Rattle.graph.specs.declared.Row.{Row}
use Rattle.packing.specs.Problem.{Order, Problem, demands, item_of, items, flaw, entry, Pattern, Bin, times_of, copies_in}
use Rattle.graph.specs.Graph.{at, head, spelled, Layered}
use Rattle.graph.specs.Compiled.{compiled}
use Rattle.graph.specs.Reduced.{reduced}
use Rattle.graph.proofs.Laws.{spells_patterns, compiles_layered}
use Rattle.packing.proofs.Orders.{orders_packable}
use Rattle.graph.proofs.Reduce.{reduces}
use Rattle.flow.specs.Flow.{on, value, copies_of, carrying, Balanced, OnArcs, push, pull}
use Rattle.flow.specs.Job
use Rattle.refusal.specs.declared.Refusal.{Refusal}
use Rattle.refusal.specs.declared.Refusal.TheVariants.{WrongState, BadItem, TooManyNodes, CarriesFlow, Absent, FlowOutOfRange, NoPattern, ArcOverLimit, Unbalanced, ValueOverLimit, BelowDemand, NothingLeft, TooLittleMemory}
use Rattle.flow.specs.Text.{text}
use Rattle.flow.specs.Job.{limit, Content, View, View.Empty, View.Open, View.Accepted, Outcome, no_flow, with_flow, fresh, loaded, unbalanced, lacking, path_of, overflows, next_arcs, next_bin, refuse, refuse_at, opened, place_on, told, row_of, flow_of, copies_left, written, unless_empty, when_accepted, ask, step}
use Rattle.flow.specs.Job.{Call, Call.Compile, Call.Reduce, Call.Carry, Call.Place, Call.Accept, Call.Peel, Call.Clear, Call.Ask, Question, Question.State, Question.ValueLeft, Question.RowOf, Question.FlowOf, Question.CopiesLeft, Question.ModelText}
use Rattle.flow.specs.Job.{Answer, Answer.Refused, Answer.Done, Reply.Plain, Reply.Nodes, Reply.Worth, Reply.Packed, Fact, Fact.Node, Fact.Amount, Fact.Text}
use Rattle.flow.specs.Model.{model, Meets}
use Rattle.flow.specs.Law.{done, Acceptance, History, noted, Moment, new_job, after, run, Ruled, Holds, PacksSoundly}
use Rattle.flow.proofs.Peel.{Peeled, peeled}
use Rattle.flow.proofs.Accept.{at_cases, balanced_from, covers_from}
use Rattle.flow.proofs.Packings
use Rattle.flow.proofs.Packings.{Good, ahead, found_path, item_count, placed_good, refuses_others, takes_packings}
use Rattle.flow.proofs.Rows.{accepts_model}
use Rattle.flow.proofs.Drained.{no_copies}

-- what was accepted, the bins handed out since, and the job now
record Ledger (p : Problem) (acc : Acceptance) (bins : List Bin) (j : Content) : Type 0 where
  balanced : Balanced j.graph j.flow
  value_adds_up : times_of bins + value j.flow ≡ acc.z
  copies_add_up : (i : ℕ) → 1 ≤ i → copies_in bins i + copies_of j.graph j.flow i ≡ copies_of j.graph acc.flow i
  demand_met : (i : ℕ) → 1 ≤ i → i ≤ length j.demands → entry j.demands i ≤ copies_of j.graph acc.flow i
  patterns : AllByRecursion (λ b. Pattern p b.counts) bins
  used : AllByRecursion (λ b. 1 ≤ b.times) bins
  peels : length bins + carrying j.flow ≤ acc.arcs
  counted : acc.arcs ≡ carrying acc.flow

-- what every call keeps
abbrev Kept : History → View → Type 0
Kept h Empty = Unit {0}
Kept h (Open j) = (p : Problem) × (h.problem ≡ Some p) × Good p j
Kept h (Accepted j) = (p : Problem) × (h.problem ≡ Some p) × Good p j × ((acc : Acceptance) × (h.accepted ≡ Some acc) × Ledger p acc h.handed j)

abbrev KeptAfter : History → Call → Outcome → Type 0
KeptAfter h c o = Kept (noted h c o.0 o.1) o.1

refused : (h : History) (v : View) (c : Call) (r : Refusal) → Kept h v → KeptAfter h c (refuse v r)
refused h v c r k = k

pub on_zeros : (n a : ℕ) → on (replicate n 0) a ≡ 0
on_zeros zero a = refl
on_zeros (suc n) zero = refl
on_zeros (suc n) (suc a) = on_zeros n a

pub no_flow_on_arcs : (g : List Row) → OnArcs g (no_flow g)
no_flow_on_arcs g = record { cells = length-replicate (2 * length g) 0; absent = λ a none. on_zeros (2 * length g) a }

-- Compile and reduce.
pub good_compiled : (k : Meaning) (orders : List Order) → Rules k → flaw k orders ≡ None → Good (record { kind = k; orders = orders }) (fresh (compiled k (items k orders)) (demands orders))
good_compiled k orders rules none =
    let sound = orders_packable k orders rules none in
    record {
      some_item = sound.1;
      layered = subst (λ m. Layered m (compiled k (items k orders))) (length-map orders (item_of k)) (compiles_layered k (items k orders)).0;
      spells = spells_patterns.of_compiled k (items k orders) sound.0;
      demanded = refl;
      on_arcs = no_flow_on_arcs (compiled k (items k orders));
    }

kept_compile : (size : ℕ) (h : History) (v : View) (k : Meaning) (orders : List Order) (loads : ℕ) → Rules k → Kept h v →
    KeptAfter h (Compile k orders loads) (Job.compile size v k orders loads)
kept_compile size h v k orders loads rules kept =
    at_cases After v BadItem (flaw k orders) (opened room g (demands orders))
    (λ a e. refused h v (Compile k orders loads) (BadItem a) kept)
    (λ none. cond_both (leb (length g) room) (Done (Nodes (length g)), Open (fresh g (demands orders))) (refuse Empty TooManyNodes) After
    (λ t. (record { kind = k; orders = orders }, refl, good_compiled k orders rules none))
    (λ t. tt))
  where
    After : Outcome → Type 0
    After = KeptAfter h (Compile k orders loads)

    room : ℕ
    room = min (size) loads

    g : List Row
    g = compiled k (items k orders)

pub good_reduced : (p : Problem) (j : Content) → Good p j → Good p (fresh (reduced j.graph) j.demands)
good_reduced p j good = record {
  some_item = good.some_item;
  layered = (reduces (length p.orders) j.graph good.layered).0;
  spells = spells_patterns.of_reduced (length p.orders) j.graph p.kind (items p.kind p.orders) good.layered good.spells;
  demanded = good.demanded;
  on_arcs = no_flow_on_arcs (reduced j.graph);
}

kept_reduce : (h : History) (v : View) → Kept h v → KeptAfter h Reduce (Job.reduce v)
kept_reduce h Empty k = tt
kept_reduce h (Accepted j) k = refused h (Accepted j) Reduce WrongState k
kept_reduce h (Open j) k =
    at_cases (KeptAfter h Reduce) (Open j) CarriesFlow (loaded j) (Done (Nodes (length (reduced j.graph))), Open (fresh (reduced j.graph) j.demands))
    (λ a e. refused h (Open j) Reduce (CarriesFlow a) k)
    (λ none. (k.0, k.1, good_reduced k.0 j k.2))

-- Carry and place.
good_carry : (p : Problem) (j : Content) (a x : ℕ) → Good p j → is_some (head j.graph a) ≡ true → Good p (with_flow j (set j.flow a x))
good_carry p j a x good is-there = record {
  some_item = good.some_item;
  layered = good.layered;
  spells = good.spells;
  demanded = good.demanded;
  on_arcs = record {
    cells = length-set j.flow a x ∙ good.on_arcs.cells;
    absent = λ b none.
        get_or-set_other j.flow a b x 0 (λ e. false≢true (sym (ap is_some (ap (head j.graph) (sym e) ∙ none)) ∙ is-there))
        ∙ good.on_arcs.absent b none;
  };
}

kept_carry : (h : History) (v : View) (a x : ℕ) → Kept h v → KeptAfter h (Carry a x) (Job.carry v a x)
kept_carry h Empty a x k = tt
kept_carry h (Accepted j) a x k = refused h (Accepted j) (Carry a x) WrongState k
kept_carry h (Open j) a x k =
    cond_both (not (is_some (head j.graph a))) (refuse (Open j) (Absent a)) (cond (ltb limit x) (refuse (Open j) FlowOutOfRange) set_so) (KeptAfter h (Carry a x))
    (λ t. refused h (Open j) (Carry a x) (Absent a) k)
    (λ t. cond_both (ltb limit x) (refuse (Open j) FlowOutOfRange) set_so (KeptAfter h (Carry a x))
    (λ u. refused h (Open j) (Carry a x) FlowOutOfRange k)
    (λ u. (k.0, k.1, good_carry k.0 j a x k.2 (not-false (is_some (head j.graph a)) t))))
  where
    set_so : Outcome
    set_so = (Done Plain, Open (with_flow j (set j.flow a x)))

kept_place_on : (h : History) (j : Content) (counts : List ℕ) (t : ℕ) → Kept h (Open j) → (o : Option (List ℕ)) → path_of j counts ≡ o → KeptAfter h (Place counts t) (place_on j t o)
kept_place_on h j counts t k None e = refused h (Open j) (Place counts t) NoPattern k
kept_place_on h j counts t k (Some arcs) e =
    cond_both (overflows j.flow t arcs) (refuse (Open j) ArcOverLimit) (Done Plain, Open (with_flow j (push j.flow arcs t))) (KeptAfter h (Place counts t))
    (λ over. refused h (Open j) (Place counts t) ArcOverLimit k)
    (λ under. (k.0, k.1, placed_good k.0 j k.2 counts arcs t (found_path j counts arcs e)))

kept_place : (h : History) (v : View) (counts : List ℕ) (t : ℕ) → Kept h v → KeptAfter h (Place counts t) (Job.place v counts t)
kept_place h Empty counts t k = tt
kept_place h (Accepted j) counts t k = refused h (Accepted j) (Place counts t) WrongState k
kept_place h (Open j) counts t k =
    cond_both (eqb t 0 || ltb limit t) (refuse (Open j) FlowOutOfRange) (place_on j t (path_of j counts)) (KeptAfter h (Place counts t))
    (λ e. refused h (Open j) (Place counts t) FlowOutOfRange k)
    (λ e. kept_place_on h j counts t k (path_of j counts) refl)

-- Accept: nothing is handed out yet.
ledger_new : (p : Problem) (j : Content) → unbalanced j ≡ None → lacking j ≡ None → Ledger p (record { z = value j.flow; arcs = carrying j.flow; flow = j.flow }) [] j
ledger_new p j even enough = record {
  balanced = balanced_from j even;
  value_adds_up = omega arith;
  copies_add_up = λ i low. omega arith;
  demand_met = covers_from j enough;
  patterns = tt;
  used = tt;
  peels = omega arith;
  counted = refl;
}

kept_accept : (h : History) (v : View) → Kept h v → KeptAfter h Accept (Job.accept v)
kept_accept h Empty k = tt
kept_accept h (Accepted j) k = refused h (Accepted j) Accept WrongState k
kept_accept h (Open j) k =
    at_cases After (Open j) Unbalanced (unbalanced j) second
    (λ a e. refused h (Open j) Accept (Unbalanced a) k)
    (λ even. cond_both (ltb limit (value j.flow)) (refuse (Open j) ValueOverLimit) third After
    (λ t. refused h (Open j) Accept ValueOverLimit k)
    (λ t. at_cases After (Open j) BelowDemand (lacking j) accepted_so
    (λ a e. refused h (Open j) Accept (BelowDemand a) k)
    (λ enough. (k.0, k.1, k.2, (record { z = value j.flow; arcs = carrying j.flow; flow = j.flow }, refl, ledger_new k.0 j even enough)))))
  where
    After : Outcome → Type 0
    After = KeptAfter h Accept

    accepted_so : Outcome
    accepted_so = (Done (Worth (value j.flow) (carrying j.flow)), Accepted j)

    third : Outcome
    third = refuse_at (Open j) BelowDemand (lacking j) accepted_so

    second : Outcome
    second = cond (ltb limit (value j.flow)) (refuse (Open j) ValueOverLimit) third

-- Peel: one bin more, and what is left.
ledger_peel : (p : Problem) (acc : Acceptance) (bins : List Bin) (j : Content) → Good p j → 0 < value j.flow → Ledger p acc bins j →
    Good p (with_flow j (pull j.flow (next_arcs j) (next_bin j).times)) × Ledger p acc (next_bin j ∷ bins) (with_flow j (pull j.flow (next_arcs j) (next_bin j).times))
ledger_peel p acc bins j good left l =
    let s : Peeled j.graph j.flow (next_arcs j) (next_bin j).times = peeled (ahead good) j.flow good.on_arcs l.balanced left in (
      record {
        some_item = good.some_item;
        layered = good.layered;
        spells = good.spells;
        demanded = good.demanded;
        on_arcs = s.keeps;
      },
      record {
        balanced = s.balanced;
        value_adds_up = omega (arith, l.value_adds_up, s.value_falls);
        copies_add_up = λ i low. omega (arith, l.copies_add_up i low, s.copies_fall i low);
        demand_met = l.demand_met;
        patterns = ((good.spells (spelled (next_arcs j))).0 (next_arcs j) s.is_path, l.patterns);
        used = (s.some, l.used);
        peels = omega (arith, l.peels, s.fewer);
        counted = l.counted;
      },
    )

abbrev peeled_so : Content → Outcome
peeled_so j = (Done (Packed (next_bin j)), Accepted (with_flow j (pull j.flow (next_arcs j) (next_bin j).times)))

-- peel, once there is value left
abbrev peel_into : Content → ℕ → Outcome
peel_into j cells = cond (ltb cells (length j.demands)) (refuse (Accepted j) TooLittleMemory) (peeled_so j)

peels_on : (j : Content) → 0 < value j.flow → (cells : ℕ) → length j.demands ≤ cells → Job.peel (Accepted j) cells ≡ peeled_so j
peels_on j left cells enough =
    cond-false (eqb (value j.flow) 0) (refuse (Accepted j) NothingLeft) (peel_into j cells) (ne_eqb (value j.flow) 0 (λ e. omega (arith, left, e)))
    ∙ cond-false (ltb cells (length j.demands)) (refuse (Accepted j) TooLittleMemory) (peeled_so j) (le-ltb cells (length j.demands) enough)

kept_peel : (h : History) (v : View) (cells : ℕ) → Kept h v → KeptAfter h (Peel cells) (Job.peel v cells)
kept_peel h Empty cells k = tt
kept_peel h (Open j) cells k = refused h (Open j) (Peel cells) WrongState k
kept_peel h (Accepted j) cells k =
    cond_both (eqb (value j.flow) 0) (refuse (Accepted j) NothingLeft) (peel_into j cells) (KeptAfter h (Peel cells))
    (λ e. refused h (Accepted j) (Peel cells) NothingLeft k)
    (λ e. cond_both (ltb cells (length j.demands)) (refuse (Accepted j) TooLittleMemory) (peeled_so j) (KeptAfter h (Peel cells))
    (λ e'. refused h (Accepted j) (Peel cells) TooLittleMemory k)
    (λ e'.
    let left : 0 < value j.flow = omega (arith, eqb-false (value j.flow) 0 e) in
    let more = ledger_peel k.0 k.3.0 h.handed j k.2 left k.3.2 in
    (k.0, k.1, more.0, (k.3.0, k.3.1, more.1))))

good_cleared : (p : Problem) (j : Content) → Good p j → Good p (fresh j.graph j.demands)
good_cleared p j good = record {
  some_item = good.some_item;
  layered = good.layered;
  spells = good.spells;
  demanded = good.demanded;
  on_arcs = no_flow_on_arcs j.graph;
}

kept_clear : (h : History) (v : View) → Kept h v → KeptAfter h Clear (Job.clear v)
kept_clear h Empty k = tt
kept_clear h (Open j) k = (k.0, k.1, good_cleared k.0 j k.2)
kept_clear h (Accepted j) k = (k.0, k.1, good_cleared k.0 j k.2)

-- Questions leave no record.
abbrev Quiet : Answer → Type 0
Quiet r = (h : History) (c : Call) (v : View) → noted h c r v ≡ h

quiet_cond : (b : Bool) (x : Fact) (r : Refusal) → Quiet (cond b (told x) (Refused r))
quiet_cond true x r h c v = refl
quiet_cond false x r h c v = refl

quiet_unless : (f : Content → Answer) → ((j : Content) → Quiet (f j)) → (v : View) → Quiet (unless_empty f v)
quiet_unless f q Empty = λ h c v. refl
quiet_unless f q (Open j) = q j
quiet_unless f q (Accepted j) = q j

quiet_when : (f : Content → Answer) → ((j : Content) → Quiet (f j)) → (v : View) → Quiet (when_accepted f v)
quiet_when f q Empty = λ h c v. refl
quiet_when f q (Open j) = λ h c v. refl
quiet_when f q (Accepted j) = q j

quiet_ask : (size : ℕ) (v : View) (q : Question) → Quiet (ask size v q)
quiet_ask size v State = λ h c w. refl
quiet_ask size v ValueLeft = quiet_when (λ j. told (Amount (value j.flow))) (λ j h c w. refl) v
quiet_ask size v (RowOf n) = quiet_unless (row_of n) (λ j. quiet_cond (ltb n (length j.graph)) (Node (at j.graph n)) (Absent n)) v
quiet_ask size v (FlowOf a) = quiet_unless (flow_of a) (λ j. quiet_cond (is_some (head j.graph a)) (Amount (on j.flow a)) (Absent a)) v
quiet_ask size v (CopiesLeft i) = quiet_when (copies_left i) (λ j. quiet_cond (ltb 0 i && leb i (length j.demands)) (Amount (copies_of j.graph j.flow i)) (Absent i)) v
quiet_ask size v (ModelText bytes) =
    quiet_unless (λ j. written (text (model j.graph j.demands)) bytes)
    (λ j. quiet_cond (leb (length (text (model j.graph j.demands))) bytes) (Text (text (model j.graph j.demands))) TooLittleMemory) v

kept_step : (size : ℕ) (h : History) (v : View) (c : Call) → Ruled c → Kept h v → KeptAfter h c (step size v c)
kept_step size h v (Compile k orders loads) rules kept = kept_compile size h v k orders loads rules kept
kept_step size h v Reduce r k = kept_reduce h v k
kept_step size h v (Carry a x) r k = kept_carry h v a x k
kept_step size h v (Place counts times) r k = kept_place h v counts times k
kept_step size h v Accept r k = kept_accept h v k
kept_step size h v (Peel cells) r k = kept_peel h v cells k
kept_step size h v Clear r k = kept_clear h v k
kept_step size h v (Ask q) r k = subst (λ h. Kept h v) (sym (quiet_ask size v q h (Ask q) v)) k

kept_run : (size : ℕ) (t : Moment) (calls : List Call) → AllByRecursion Ruled calls → Kept t.history t.view → Kept (run size t calls).history (run size t calls).view
kept_run size t [] rules k = k
kept_run size t (c ∷ calls) rules k = kept_run size (after size t c) calls rules.1 (kept_step size t.history t.view c rules.0 k)

-- What is kept says what the law says.
holds_from : (size : ℕ) (h : History) (v : View) → Kept h v → Holds size h v
holds_from size h Empty k = tt
holds_from size h (Open j) k =
    let p : Problem = k.0 in
    let good : Good p j = k.2 in
    record {
      problem = p;
      compiled = k.1;
      spells = Packings.spells_patterns good;
      refuses = refuses_others size p j good;
      accepts = subst (λ d. (done (Job.accept (Open j)).0 ≡ true) ↔ (Meets (value j.flow) j.flow (model j.graph d) × (value j.flow ≤ limit))) good.demanded
          (accepts_model j good.on_arcs);
      takes = takes_packings size p j good;
    }
holds_from size h (Accepted j) k =
    let p : Problem = k.0 in
    let good : Good p j = k.2 in
    let acc : Acceptance = k.3.0 in
    let l : Ledger p acc h.handed j = k.3.2 in
    let met : (i : ℕ) → 1 ≤ i → i ≤ length p.orders → entry (demands p.orders) i ≤ copies_of j.graph acc.flow i =
    λ i low high. omega (arith, l.demand_met i low (omega (arith, high, item_count p j good)), ap (λ d. entry d i) good.demanded) in
    record {
      problem = p;
      compiled = k.1;
      spells = Packings.spells_patterns good;
      acceptance = acc;
      accepted = k.3.1;
      value_adds_up = l.value_adds_up;
      copies_add_up = λ i low high. l.copies_add_up i low;
      demand_met = met;
      value_told = refl;
      copies_told = λ i low high.
          cond-true (ltb 0 i && leb i (length j.demands)) (told (Amount (copies_of j.graph j.flow i))) (Refused (Absent i))
          (and_from (ltb 0 i) (leb i (length j.demands)) (lt-ltb 0 i low) (le-leb i (length j.demands) (omega (arith, high, item_count p j good))));
      patterns = l.patterns;
      peels = omega (arith, l.peels);
      counted = l.counted;
      goes_on = λ left cells enough. ap (λ o. done o.0) (peels_on j left cells (omega (arith, enough, item_count p j good)));
      packs = λ none. record {
        patterns = l.patterns;
        used = l.used;
        total = omega (arith, l.value_adds_up, none);
        covers = λ i low high. omega (arith, met i low high, l.copies_add_up i low, no_copies (ahead good) j.flow good.on_arcs l.balanced none i);
      };
    }

pub packs_soundly : PacksSoundly
packs_soundly size calls rules = holds_from size (run size new_job calls).history (run size new_job calls).view (kept_run size new_job calls rules tt)
