-- A flow is accepted if and only if it meets every row of the model and its value is within the limit.
use Rattle.std.proofs.Common.{◌≡◌, ℕ, zero, suc, ◌+◌, ◌-◌, ◌<◌, ◌≤◌, true, cond, ltb, ◌⊎◌, ◌↔◌, List, [], ◌∷◌, ◌++◌, map, length, get_or, is_some, Some, None, Option, sym, refl, ap, ◌∙◌, subst, inl, inr, arith}
use Rattle.std.specs.List.{AllByRecursion}
use Rattle.std.proofs.ByRecursion.{All-append}
use Rattle.std.proofs.lemmas.Bool.{cases_eq, cond_both, ltb-false, false≢true}
use Rattle.graph.specs.declared.Row.{Row}
use Rattle.graph.specs.Graph.{at, pass_arc, take_arc}
use Rattle.flow.specs.Arcs.{numbers, arcs_into, arcs_out, item_arcs}
use Rattle.flow.specs.Flow.{on, carried, inflow, outflow, value, copies_of, carrying, Balanced, OnArcs}
use Rattle.packing.specs.Problem.{entry}
use Rattle.flow.specs.Model.{Term, Constraint, plus, minus, supply, node_row, item_rows, model, added, taken_off, Met, Meets}
use Rattle.refusal.specs.declared.Refusal.TheVariants.{Unbalanced, ValueOverLimit, BelowDemand}
use Rattle.flow.specs.Job.{limit, Content, View.Open, View.Accepted, Outcome, Answer.Done, Reply.Worth, unbalanced, lacking, refuse, refuse_at, accept}
use Rattle.flow.specs.Law.{done}
use Rattle.flow.proofs.Sums.{carried_append}
use Rattle.flow.proofs.Paths.{head_pass, head_take}
use Rattle.flow.proofs.Accept.{Acceptable, accepts, at_cases, balanced_from, covers_from}

module _ (z : ℕ) (f : List ℕ) where
  added_plus : (arcs : List ℕ) (rest : List Term) → added z f (plus arcs ++ rest) ≡ carried f arcs + added z f rest
  added_plus [] rest = omega arith
  added_plus (a ∷ arcs) rest = omega (arith, added_plus arcs rest)

  taken_plus : (arcs : List ℕ) (rest : List Term) → taken_off z f (plus arcs ++ rest) ≡ taken_off z f rest
  taken_plus [] rest = refl
  taken_plus (a ∷ arcs) rest = taken_plus arcs rest

  added_minus : (arcs : List ℕ) → added z f (minus arcs) ≡ 0
  added_minus [] = refl
  added_minus (a ∷ arcs) = added_minus arcs

  taken_minus : (arcs : List ℕ) → taken_off z f (minus arcs) ≡ carried f arcs
  taken_minus [] = refl
  taken_minus (a ∷ arcs) = omega (arith, taken_minus arcs)

  added_all : (arcs : List ℕ) → added z f (plus arcs) ≡ carried f arcs
  added_all [] = refl
  added_all (a ∷ arcs) = omega (arith, added_all arcs)

  taken_all : (arcs : List ℕ) → taken_off z f (plus arcs) ≡ 0
  taken_all [] = refl
  taken_all (a ∷ arcs) = taken_all arcs

-- an arc that is not there adds nothing
one_arc : (f : List ℕ) (a : ℕ) (o : Option ℕ) → (o ≡ None → on f a ≡ 0) → carried f (cond (is_some o) (a ∷ []) []) ≡ on f a
one_arc f a None h = sym (h refl)
one_arc f a (Some k) h = omega arith

carried_out : (g : List Row) (f : List ℕ) → OnArcs g f → (n : ℕ) → carried f (arcs_out g n) ≡ outflow f n
carried_out g f arcs n =
    omega (
      arith,
      carried_append f (cond (is_some (at g n).pass) (pass_arc n ∷ []) []) (cond (is_some (at g n).take) (take_arc n ∷ []) []),
      one_arc f (pass_arc n) (at g n).pass (λ e. arcs.absent (pass_arc n) (head_pass g n ∙ e)),
      one_arc f (take_arc n) (at g n).take (λ e. arcs.absent (take_arc n) (head_take g n ∙ e)),
    )

-- a node's row says that it is balanced; the source's, that z is the value
pub node_met : (g : List Row) (f : List ℕ) → OnArcs g f → (z n : ℕ) → inflow g f (suc n) ≡ outflow f (suc n) → Met z f (node_row g (suc n))
node_met g f arcs z n e =
    omega (
      arith,
      e,
      carried_out g f arcs (suc n),
      added_plus z f (arcs_out g (suc n)) (supply g (suc n)),
      taken_plus z f (arcs_out g (suc n)) (supply g (suc n)),
      added_minus z f (arcs_into g (suc n)),
      taken_minus z f (arcs_into g (suc n)),
    )

pub met_node : (g : List Row) (f : List ℕ) → OnArcs g f → (z n : ℕ) → Met z f (node_row g (suc n)) → inflow g f (suc n) ≡ outflow f (suc n)
met_node g f arcs z n e =
    omega (
      arith,
      e,
      carried_out g f arcs (suc n),
      added_plus z f (arcs_out g (suc n)) (supply g (suc n)),
      taken_plus z f (arcs_out g (suc n)) (supply g (suc n)),
      added_minus z f (arcs_into g (suc n)),
      taken_minus z f (arcs_into g (suc n)),
    )

pub source_met : (g : List Row) (f : List ℕ) → OnArcs g f → Met (value f) f (node_row g 0)
source_met g f arcs =
    omega (
      arith,
      carried_out g f arcs 0,
      added_plus (value f) f (arcs_out g 0) (supply g 0),
      taken_plus (value f) f (arcs_out g 0) (supply g 0),
    )

pub met_source : (g : List Row) (f : List ℕ) → OnArcs g f → (z : ℕ) → Met z f (node_row g 0) → value f ≡ z
met_source g f arcs z e =
    omega (
      arith,
      e,
      carried_out g f arcs 0,
      added_plus z f (arcs_out g 0) (supply g 0),
      taken_plus z f (arcs_out g 0) (supply g 0),
    )

-- Rows for the numbers below n.
module _ (P : Constraint → Type 0) (h : ℕ → Constraint) where
  all_parts : (xs ys : List ℕ) → AllByRecursion P (map h (xs ++ ys)) → AllByRecursion P (map h xs) × AllByRecursion P (map h ys)
  all_parts [] ys c = (tt, c)
  all_parts (x ∷ xs) ys c = ((c.0, (all_parts xs ys c.1).0), (all_parts xs ys c.1).1)

  all_both : (xs ys : List ℕ) → AllByRecursion P (map h xs) → AllByRecursion P (map h ys) → AllByRecursion P (map h (xs ++ ys))
  all_both [] ys c d = d
  all_both (x ∷ xs) ys c d = (c.0, all_both xs ys c.1 d)

  pub rows_to : (n : ℕ) → ((k : ℕ) → k < n → P (h k)) → AllByRecursion P (map h (numbers (λ k. true) n))
  rows_to zero each = tt
  rows_to (suc n) each = all_both (numbers (λ k. true) n) (n ∷ []) (rows_to n (λ k l. each k (omega arith))) (each n (omega arith), tt)

  pub rows_from : (n : ℕ) → AllByRecursion P (map h (numbers (λ k. true) n)) → (k : ℕ) → k < n → P (h k)
  rows_from zero c k l = absurd (omega arith)
  rows_from (suc n) c k l = go (rows_from n parts.0 k) (cases_eq k n)
    where
      parts : AllByRecursion P (map h (numbers (λ k. true) n)) × AllByRecursion P (map h (n ∷ []))
      parts = all_parts (numbers (λ k. true) n) (n ∷ []) c

      go : (k < n → P (h k)) → (k ≡ n) ⊎ (k ≡ n → ⊥) → P (h k)
      go ih (inl e) = subst (λ x. P (h x)) (sym e) parts.1.0
      go ih (inr e) = ih (omega arith)

-- The rows of the items from i on.
module _ (g : List Row) (f : List ℕ) (z : ℕ) where
  pub items_to : (i : ℕ) (demands : List ℕ) → ((k j : ℕ) → j ≡ i + k → k < length demands → get_or demands k 0 ≤ copies_of g f j) → AllByRecursion (Met z f) (item_rows g i demands)
  items_to i [] h = tt
  items_to i (b ∷ demands) h = (
    omega (arith, h 0 i (omega arith) (omega arith), added_all z f (item_arcs g i), taken_all z f (item_arcs g i)),
    items_to (suc i) demands (λ k j e l. h (suc k) j (omega arith) (omega arith)),
  )

  pub items_from : (i : ℕ) (demands : List ℕ) → AllByRecursion (Met z f) (item_rows g i demands) → (k j : ℕ) → j ≡ i + k → k < length demands → get_or demands k 0 ≤ copies_of g f j
  items_from i [] c k j e l = absurd (omega arith)
  items_from i (b ∷ demands) c zero j e l =
      let same : i ≡ j = omega arith in
      subst (λ x. b ≤ copies_of g f x) same (omega (arith, c.0, added_all z f (item_arcs g i), taken_all z f (item_arcs g i)))
  items_from i (b ∷ demands) c (suc k) j e l = items_from (suc i) demands c.1 k j (omega arith) (omega arith)

pub all_split : {A : Type 0} (P : A → Type 0) (xs ys : List A) → AllByRecursion P (xs ++ ys) → AllByRecursion P xs × AllByRecursion P ys
all_split P [] ys c = (tt, c)
all_split P (x ∷ xs) ys c = ((c.0, (all_split P xs ys c.1).0), (all_split P xs ys c.1).1)

-- A balanced flow that covers the demands meets the model, and the other way round.
module _ (g : List Row) (f : List ℕ) (on_arcs : OnArcs g f) (demands : List ℕ) where
  abbrev pub Covers : Type 0
  Covers = (i : ℕ) → 1 ≤ i → i ≤ length demands → entry demands i ≤ copies_of g f i

  pub meets_model : Balanced g f → Covers → Meets (value f) f (model g demands)
  meets_model even enough =
      All-append (Met (value f) f) (map (node_row g) (numbers (λ n. true) (length g - 1))) (item_rows g 1 demands)
      (rows_to (Met (value f) f) (node_row g) (length g - 1) nodes)
      (items_to g f (value f) 1 demands each)
    where
      nodes : (k : ℕ) → k < length g - 1 → Met (value f) f (node_row g k)
      nodes zero l = source_met g f on_arcs
      nodes (suc k) l = node_met g f on_arcs (value f) k (even (suc k) (omega arith) (omega arith))

      each : (k i : ℕ) → i ≡ 1 + k → k < length demands → get_or demands k 0 ≤ copies_of g f i
      each k i e l = subst (λ x. get_or demands k 0 ≤ copies_of g f x) (omega arith) (enough (suc k) (omega arith) (omega arith))

  module _ (z : ℕ) (meets : Meets z f (model g demands)) where
    parts : AllByRecursion (Met z f) (map (node_row g) (numbers (λ n. true) (length g - 1))) × AllByRecursion (Met z f) (item_rows g 1 demands)
    parts = all_split (Met z f) (map (node_row g) (numbers (λ n. true) (length g - 1))) (item_rows g 1 demands) meets

    pub model_value : 1 < length g → value f ≡ z
    model_value two = met_source g f on_arcs z (rows_from (Met z f) (node_row g) (length g - 1) parts.0 0 (omega arith))

    pub model_balanced : Balanced g f
    model_balanced zero inside below = absurd (omega arith)
    model_balanced (suc v) inside below = met_node g f on_arcs z v (rows_from (Met z f) (node_row g) (length g - 1) parts.0 (suc v) (omega arith))

    pub model_covers : Covers
    model_covers zero low high = absurd (omega arith)
    model_covers (suc k) low high = items_from g f z 1 demands parts.1 k (suc k) (omega arith) (omega arith)

module _ (j : Content) (on_arcs : OnArcs j.graph j.flow) where
  abbrev g : List Row
  g = j.graph

  abbrev f : List ℕ
  f = j.flow

  -- what accept has tested where it is done
  accept_asks : done (accept (Open j)).0 ≡ true → Acceptable j
  accept_asks =
      at_cases Asks (Open j) Unbalanced (unbalanced j) second (λ a e no'. absurd (false≢true no'))
      (λ even. cond_both (ltb limit (value f)) (refuse (Open j) ValueOverLimit) third Asks (λ t no'. absurd (false≢true no'))
      (λ t. at_cases Asks (Open j) BelowDemand (lacking j) yes' (λ a e no'. absurd (false≢true no'))
      (λ enough said. record { balanced = balanced_from j even; within = ltb-false limit (value f) t; covers = covers_from j enough })))
    where
      Asks : Outcome → Type 0
      Asks o = done o.0 ≡ true → Acceptable j

      yes' : Outcome
      yes' = (Done (Worth (value f) (carrying f)), Accepted j)

      third : Outcome
      third = refuse_at (Open j) BelowDemand (lacking j) yes'

      second : Outcome
      second = cond (ltb limit (value f)) (refuse (Open j) ValueOverLimit) third

  pub accepts_model : (done (accept (Open j)).0 ≡ true) ↔ (Meets (value f) f (model g j.demands) × (value f ≤ limit))
  accepts_model = (
    λ said. let ok : Acceptable j = accept_asks said in (meets_model g f on_arcs j.demands ok.balanced ok.covers, ok.within),
    λ both. ap (λ o. done o.0) (accepts j (record {
      balanced = model_balanced g f on_arcs j.demands (value f) both.0;
      within = both.1;
      covers = model_covers g f on_arcs j.demands (value f) both.0;
    })),
  )
