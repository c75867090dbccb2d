-- A reduced graph has the shape and the language of the graph.
use Rattle.std.proofs.Common.{◌≡◌, ℕ, zero, suc, ◌+◌, ◌-◌, ◌<◌, ◌≤◌, Bool, true, false, cond, eqb, List, [], ◌∷◌, ◌++◌, length, get_or, take, is_some as option_is_some, Some, None, Option, sym, refl, ap, ◌∙◌, subst, inl, inr, arith, length-append}
use lib.ListN.{length-map}
use Rattle.std.specs.Option.{option_map}
use Rattle.std.proofs.lemmas.List.{get_or_default, get_or_past, get_or-map, get_or-take, take_more, take_all, length-take-le}
use Rattle.std.proofs.lemmas.Bool.{false≢true, eq-eqb, ne_eqb, cases_lt}
use Rattle.std.proofs.lemmas.Bool.Decides.{Decides-eqb}
use Rattle.graph.specs.declared.Row.{Row}
use Rattle.packing.specs.Distinct.{has, index, distinct}
use Rattle.graph.specs.Graph.{row, blank, at, Layered}
use Rattle.graph.specs.Reduced.{led, class, classes, renumbered, reduced}
use Rattle.graph.specs.Laws.{Joins, Reduces}
use Rattle.packing.proofs.Distinct.{same_self, index_lt, index_le, index_append, index_new, get_or_index, has_distinct, has_get_or, has_none, index_get_or, distinct_push, distinct_order, noted_all_keeps}
use Rattle.packing.proofs.Options.{some≢none, unsome}
use Rattle.graph.proofs.Paths.{given, accepts_item, accepts, path_accepts, accepts_path}
use Rattle.graph.proofs.Joined.{led_led, led_same, Ahead, all_joined, all_found, length_classes}

pub is_some_mapped : (f : ℕ → ℕ) (o : Option ℕ) → option_is_some (option_map f o) ≡ option_is_some o
is_some_mapped f None = refl
is_some_mapped f (Some t) = refl

pub mapped_some : {X Y : Type 0} (f : X → Y) (o : Option X) (y : Y) → option_map f o ≡ Some y → (x : X) × (o ≡ Some x) × (f x ≡ y)
mapped_some f None y e = absurd (some≢none y (sym e))
mapped_some f (Some x) y e = (x, refl, unsome (f x) y e)

pub is_some : {X : Type 0} (o : Option X) → option_is_some o ≡ true → (x : X) × (o ≡ Some x)
is_some None e = absurd (false≢true e)
is_some (Some x) e = (x, refl)

item_of : {r q : Row} → r ≡ q → r.item ≡ q.item
item_of e = ap (λ (r : Row). r.item) e

copies_of : {r q : Row} → r ≡ q → r.copies ≡ q.copies
copies_of e = ap (λ (r : Row). r.copies) e

-- a node with an arc is in the graph
pub pass_in_range : (g : List Row) (n t : ℕ) → (at g n).pass ≡ Some t → n < length g
pass_in_range g n t e = elim (cases_lt n (length g)) [ inl lt ↦ lt | inr le ↦ absurd (some≢none t (sym e ∙ ap (λ (r : Row). r.pass) (get_or_past g n blank le))) ]

pub take_in_range : (g : List Row) (n t : ℕ) → (at g n).take ≡ Some t → n < length g
take_in_range g n t e = elim (cases_lt n (length g)) [ inl lt ↦ lt | inr le ↦ absurd (some≢none t (sym e ∙ ap (λ (r : Row). r.take) (get_or_past g n blank le))) ]

pub arcs_ahead : (m : ℕ) (g : List Row) → Layered m g → Ahead 0 g
arcs_ahead m g st j t = (
  (λ e. let a = st.takes j t e in omega (arith, st.by_copies j t (take_in_range g j t e) a.0 (sym a.1) (omega (arith, a.2)))),
  (λ e. let a = st.passes j t e in omega (arith, st.by_item j t (pass_in_range g j t e) a.0 (omega (arith, a.1)))),
)

first_class : (c : ℕ) (cs : List ℕ) → index eqb c (distinct eqb (c ∷ cs)) ≡ 0
first_class c cs =
    let kept = noted_all_keeps eqb (c ∷ []) cs in
    rw (kept.1, same_self eqb Decides-eqb c) refl

-- the source stays node 0
pub new_source : (g : List Row) → 0 < length g → renumbered (classes 0 g) 0 ≡ 0
new_source [] lt = absurd (omega arith)
new_source (r ∷ rs) lt = first_class _ (classes 1 rs)

module _ (m : ℕ) (g : List Row) (st : Layered m g) where
  abbrev cs : List ℕ
  cs = classes 0 g

  abbrev ds : List ℕ
  ds = distinct eqb cs

  abbrev class_of : ℕ → ℕ
  class_of t = class 0 cs t

  abbrev new : ℕ → ℕ
  new t = renumbered cs t

  class_is : (t d : ℕ) → t < length g → class_of t ≡ get_or cs t d
  class_is t d lt =
      let e : t - 0 ≡ t = omega arith in
      rw e (get_or_default cs t t d (omega (arith, length_classes 0 g)))

  -- the highest node of the class of node t
  record Leader (t : ℕ) : Type 0 where
    to : ℕ
    is : class_of t ≡ to
    above : t ≤ to
    in_range : to < length g
    own : class_of to ≡ to
    alike : led class_of (at g t) ≡ led class_of (at g to)

  leader : (t : ℕ) → t < length g → Leader t
  leader t lt =
      let j = all_joined 0 g (arcs_ahead m g st) t lt in
      record {
        to = j.to;
        is = class_is t 0 lt ∙ j.class_is ∙ omega arith;
        above = j.above;
        in_range = j.in_range;
        own = class_is j.to 0 j.in_range ∙ j.own ∙ omega arith;
        alike = j.alike;
      }

  has_class : (t : ℕ) → t < length g → has eqb (class_of t) cs ≡ true
  has_class t lt = rw (class_is t 0 lt) (has_get_or eqb Decides-eqb cs t 0 (omega (arith, length_classes 0 g)))

  has_new : (t : ℕ) → t < length g → has eqb (class_of t) ds ≡ true
  has_new t lt = has_distinct eqb Decides-eqb (class_of t) cs ∙ has_class t lt

  length_reduced : length (reduced g) ≡ length ds
  length_reduced = length-map ds (λ c. led new (at g c))

  new_in_range : (t : ℕ) → t < length g → new t < length (reduced g)
  new_in_range t lt = rw length_reduced (index_lt eqb (class_of t) ds (has_new t lt))

  -- the row of a node in the reduced graph
  at_new : (t : ℕ) → t < length g → at (reduced g) (new t) ≡ led new (at g t)
  at_new t lt =
      let l = leader t lt in
      let f : ℕ → Row = λ c. led new (at g c) in
      let place : ℕ → ℕ = λ c. index eqb c ds in
      get_or-map f ds (new t) 0 blank (index_lt eqb (class_of t) ds (has_new t lt))
      ∙ ap f (get_or_index eqb Decides-eqb (class_of t) ds 0 (has_new t lt) ∙ l.is)
      ∙ sym (led_led place class_of (at g l.to)) ∙ ap (led place) (sym l.alike) ∙ led_led place class_of (at g t)

  -- the members of a class have one station
  same_stage : (t : ℕ) (lt : t < length g) → ((at g t).item ≡ (at g (class_of t)).item) × ((at g t).copies ≡ (at g (class_of t)).copies)
  same_stage t lt =
      let l = leader t lt in (
        ap (λ (r : Row). r.item) l.alike ∙ ap (λ (n : ℕ). (at g n).item) (sym l.is),
        ap (λ (r : Row). r.copies) l.alike ∙ ap (λ (n : ℕ). (at g n).copies) (sym l.is),
      )

  -- the target is alone in its class
  target_class : (n t : ℕ) → suc n < length g → suc t ≡ length g → class_of n ≡ t → ⊥
  target_class n t lt last e =
      let l = leader n (omega arith) in
      let end : l.to ≡ t = sym l.is ∙ e in
      let pass_n = is_some_mapped class_of (at g n).pass ∙ (st.inner n lt).1 in
      let rows = l.alike ∙ ap (λ (u : ℕ). led class_of (at g u)) end ∙ ap (led class_of) (st.target t last) in
      false≢true (sym (ap (λ (r : Row). option_is_some r.pass) rows) ∙ pass_n)

  target_self : (t : ℕ) → suc t ≡ length g → class_of t ≡ t
  target_self t last =
      let l = leader t (omega arith) in
      l.is ∙ omega (arith, l.above, l.in_range)

  -- the target's class comes last
  module _ (t : ℕ) (last : suc t ≡ length g) where
    abbrev front : List ℕ
    front = take t cs

    long : length front ≡ t
    long = length-take-le t cs (omega (arith, length_classes 0 g))

    front_is : (n : ℕ) → n < t → get_or front n 0 ≡ class_of n
    front_is n lt = get_or-take t cs n 0 lt ∙ sym (class_is n 0 (omega arith))

    split : cs ≡ front ++ t ∷ []
    split =
        sym (take_all (t + 1) cs (omega (arith, length_classes 0 g))) ∙ take_more cs t 0 (omega (arith, length_classes 0 g))
        ∙ ap (λ (c : ℕ). front ++ c ∷ []) (sym (class_is t 0 (omega arith)) ∙ target_self t last)

    not_before : has eqb t front ≡ false
    not_before = has_none eqb Decides-eqb t front 0 (λ n lt e. target_class n t (omega (arith, long)) last (sym (front_is n (omega (arith, long))) ∙ e))

    ds_is : ds ≡ distinct eqb front ++ t ∷ []
    ds_is =
        ap (distinct eqb) split ∙ distinct_push eqb front t
        ∙ ap (λ (b : Bool). cond b (distinct eqb front) (distinct eqb front ++ t ∷ [])) (has_distinct eqb Decides-eqb t front ∙ not_before)

    length_ds : length (reduced g) ≡ length (distinct eqb front) + 1
    length_ds = length_reduced ∙ ap length ds_is ∙ length-append (distinct eqb front) (t ∷ [])

    new_target : suc (new t) ≡ length (reduced g)
    new_target =
        let place : new t ≡ length (distinct eqb front) + index eqb t (t ∷ []) =
        ap (λ (c : ℕ). index eqb c ds) (target_self t last) ∙ ap (index eqb t) ds_is
        ∙ index_new eqb t (distinct eqb front) (t ∷ []) (has_distinct eqb Decides-eqb t front ∙ not_before) in
        let zero_place : index eqb t (t ∷ []) ≡ 0 = rw (same_self eqb Decides-eqb t) refl in
        omega (arith, length_ds, place, zero_place)

    new_inner : (n : ℕ) → n < t → suc (new n) < length (reduced g)
    new_inner n lt =
        let here : has eqb (class_of n) (distinct eqb front) ≡ true =
        has_distinct eqb Decides-eqb (class_of n) front
        ∙ subst (λ (c : ℕ). has eqb c front ≡ true) (front_is n lt) (has_get_or eqb Decides-eqb front n 0 (omega (arith, long))) in
        let place : new n ≡ index eqb (class_of n) (distinct eqb front) =
        ap (index eqb (class_of n)) ds_is ∙ index_append eqb (class_of n) (distinct eqb front) (t ∷ []) here in
        omega (arith, length_ds, place, index_lt eqb (class_of n) (distinct eqb front) here)

  -- a node is the last one if and only if its new number is
  new_last : (n : ℕ) → n < length g → eqb (suc (new n)) (length (reduced g)) ≡ eqb (suc n) (length g)
  new_last n lt = elim (cases_lt (suc n) (length g)) [
    | inl inside ↦
        ne_eqb (suc (new n)) (length (reduced g)) (omega (arith, new_inner (length g - 1) (omega arith) n (omega arith)))
        ∙ sym (ne_eqb (suc n) (length g) (omega arith))
    | inr end ↦
        eq-eqb (suc (new n)) (length (reduced g)) (new_target n (omega arith))
        ∙ sym (eq-eqb (suc n) (length g) (omega arith))
  ]

  given_new : (o : Option ℕ) (test test' : ℕ → Bool) → ((t : ℕ) → o ≡ Some t → test' (new t) ≡ test t) → given (option_map new o) test' ≡ given o test
  given_new None test test' e = refl
  given_new (Some t) test test' e = e t refl

  item_new : (c : ℕ) (test test' : ℕ → Bool) → ((t : ℕ) → t < length g → test' (new t) ≡ test t) → (n : ℕ) → n < length g
      → accepts_item (reduced g) c test' (new n) ≡ accepts_item g c test n
  item_new zero test test' e n lt = rw (at_new n lt) (given_new (at g n).pass test test' (λ t is. e t (st.passes n t is).0))
  item_new (suc c) test test' e n lt =
      rw (at_new n lt)
      (given_new (at g n).take (accepts_item g c test) (accepts_item (reduced g) c test') (λ t is. item_new c test test' e t (st.takes n t is).0))

  pub accepts_new : (counts : List ℕ) (n : ℕ) → n < length g → accepts (reduced g) counts (new n) ≡ accepts g counts n
  accepts_new [] n lt = new_last n lt
  accepts_new (c ∷ counts) n lt = item_new c (accepts g counts) (accepts (reduced g) counts) (accepts_new counts) n lt

  -- every node of the reduced graph comes from one of the graph
  old : (n : ℕ) → n < length (reduced g) → (u : ℕ) × (u < length g) × (new u ≡ n)
  old n lt =
      let in_ds : n < length ds = rw length_reduced at lt in
      let u = get_or ds n 0 in
      let in_cs : has eqb u cs ≡ true = sym (has_distinct eqb Decides-eqb u cs) ∙ has_get_or eqb Decides-eqb ds n 0 in_ds in
      let j = index eqb u cs in
      let j_lt : j < length g = omega (arith, index_lt eqb u cs in_cs, length_classes 0 g) in
      let l = leader j j_lt in
      let to_u : l.to ≡ u = sym l.is ∙ class_is j 0 j_lt ∙ get_or_index eqb Decides-eqb u cs 0 in_cs in (
        u,
        subst (λ (z : ℕ). z < length g) to_u l.in_range,
        ap (λ (c : ℕ). index eqb c ds) (subst (λ (z : ℕ). class_of z ≡ z) to_u l.own) ∙ index_get_or eqb Decides-eqb cs n 0 in_ds,
      )

  -- the lowest node of the class of node t, and its station
  lowest : (t : ℕ) → t < length g → (j : ℕ) × (j ≡ index eqb (class_of t) cs) × (j < length g) × ((at g j).item ≡ (at g t).item) × ((at g j).copies ≡ (at g t).copies)
  lowest t lt =
      let j = index eqb (class_of t) cs in
      let j_lt : j < length g = omega (arith, index_lt eqb (class_of t) cs (has_class t lt), length_classes 0 g) in
      let same : class_of j ≡ class_of t = class_is j 0 j_lt ∙ get_or_index eqb Decides-eqb (class_of t) cs 0 (has_class t lt) in
      let a = same_stage j j_lt in
      let b = same_stage t lt in (
        j,
        refl,
        j_lt,
        a.0 ∙ ap (λ (n : ℕ). (at g n).item) same ∙ sym b.0,
        a.1 ∙ ap (λ (n : ℕ). (at g n).copies) same ∙ sym b.1,
      )

  new_order : (u v : ℕ) (hu : u < length g) (hv : v < length g) → (lowest u hu).0 < (lowest v hv).0 → new u < new v
  unfolding lowest
  new_order u v hu hv lt = distinct_order eqb Decides-eqb (class_of u) (class_of v) cs lt

  pub reduced_layered : Layered m (reduced g)
  reduced_layered = record {
    some_node = omega (arith, new_in_range 0 st.some_node);
    source =
        let zero_is = ap (at (reduced g)) (sym (new_source g st.some_node)) ∙ at_new 0 st.some_node in
        (ap (λ (r : Row). r.item) zero_is ∙ st.source.0, ap (λ (r : Row). r.copies) zero_is ∙ st.source.1);
    target = λ n last. target_kept n last (old n (omega arith));
    inner = λ n lt. inner_kept n lt (old n (omega arith));
    passes = λ n t e. passes_kept n t e (old n (pass_in_range (reduced g) n t e));
    takes = λ n t e. takes_kept n t e (old n (take_in_range (reduced g) n t e));
    by_item = λ n t hn ht lt. item_kept n t (old n hn) (old t ht) lt;
    by_copies = λ n t hn ht e lt. copies_kept n t (old n hn) (old t ht) e lt;
  }
    where
      row_is : (n : ℕ) (o : (u : ℕ) × (u < length g) × (new u ≡ n)) → at (reduced g) n ≡ led new (at g o.0)
      row_is n (u, lt, e) = ap (at (reduced g)) (sym e) ∙ at_new u lt

      target_kept : (n : ℕ) → suc n ≡ length (reduced g) → (u : ℕ) × (u < length g) × (new u ≡ n) → at (reduced g) n ≡ row (suc m) 0 None None
      target_kept n last (u, lt, e) = elim (cases_lt (suc u) (length g)) [
        | inl inside ↦ absurd (omega (arith, last, e, new_inner (length g - 1) (omega arith) u (omega arith)))
        | inr end ↦ row_is n (u, lt, e) ∙ ap (led new) (st.target u (omega arith))
      ]

      inner_kept : (n : ℕ) → suc n < length (reduced g) → (u : ℕ) × (u < length g) × (new u ≡ n) → ((at (reduced g) n).item ≤ m) × (option_is_some (at (reduced g) n).pass ≡ true)
      inner_kept n inside' (u, lt, e) = elim (cases_lt (suc u) (length g)) [
        | inl inside ↦
            (rw (row_is n (u, lt, e)) (st.inner u inside).0, rw (row_is n (u, lt, e)) (is_some_mapped new (at g u).pass ∙ (st.inner u inside).1))
        | inr end ↦ absurd (omega (arith, inside', e, new_target u (omega arith)))
      ]

      passes_kept : (n t : ℕ) → (at (reduced g) n).pass ≡ Some t → (u : ℕ) × (u < length g) × (new u ≡ n)
          → (t < length (reduced g)) × ((at (reduced g) t).item ≡ suc (at (reduced g) n).item) × ((at (reduced g) t).copies ≡ 0)
      passes_kept n t e (u, lt, is) =
          let arc = mapped_some new (at g u).pass t (sym (ap (λ (r : Row). r.pass) (row_is n (u, lt, is))) ∙ e) in
          let a = st.passes u arc.0 arc.1 in
          let row_t = row_is t (arc.0, a.0, arc.2) in (
            subst (λ (z : ℕ). z < length (reduced g)) arc.2 (new_in_range arc.0 a.0),
            item_of row_t ∙ a.1 ∙ ap suc (sym (item_of (row_is n (u, lt, is)))),
            copies_of row_t ∙ a.2,
          )

      takes_kept : (n t : ℕ) → (at (reduced g) n).take ≡ Some t → (u : ℕ) × (u < length g) × (new u ≡ n)
          → (t < length (reduced g)) × ((at (reduced g) t).item ≡ (at (reduced g) n).item) × ((at (reduced g) t).copies ≡ suc (at (reduced g) n).copies)
      takes_kept n t e (u, lt, is) =
          let arc = mapped_some new (at g u).take t (sym (ap (λ (r : Row). r.take) (row_is n (u, lt, is))) ∙ e) in
          let a = st.takes u arc.0 arc.1 in
          let row_t = row_is t (arc.0, a.0, arc.2) in (
            subst (λ (z : ℕ). z < length (reduced g)) arc.2 (new_in_range arc.0 a.0),
            item_of row_t ∙ a.1 ∙ sym (item_of (row_is n (u, lt, is))),
            copies_of row_t ∙ a.2 ∙ ap suc (sym (copies_of (row_is n (u, lt, is)))),
          )

      item_kept : (n t : ℕ) → (u : ℕ) × (u < length g) × (new u ≡ n) → (v : ℕ) × (v < length g) × (new v ≡ t)
          → (at (reduced g) n).item < (at (reduced g) t).item → n < t
      item_kept n t (u, hu, eu) (v, hv, ev) lt =
          let less : (at g u).item < (at g v).item = rw (row_is n (u, hu, eu), row_is t (v, hv, ev)) at lt in
          let a = lowest u hu in
          let b = lowest v hv in
          omega (arith, eu, ev, new_order u v hu hv (st.by_item a.0 b.0 a.2 b.2 (omega (arith, less, a.3, b.3))))

      copies_kept : (n t : ℕ) → (u : ℕ) × (u < length g) × (new u ≡ n) → (v : ℕ) × (v < length g) × (new v ≡ t)
          → (at (reduced g) n).item ≡ (at (reduced g) t).item → (at (reduced g) n).copies < (at (reduced g) t).copies → n < t
      copies_kept n t (u, hu, eu) (v, hv, ev) e lt =
          let same : (at g u).item ≡ (at g v).item = rw (row_is n (u, hu, eu), row_is t (v, hv, ev)) at e in
          let less : (at g u).copies < (at g v).copies = rw (row_is n (u, hu, eu), row_is t (v, hv, ev)) at lt in
          let a = lowest u hu in
          let b = lowest v hv in
          omega (arith, eu, ev, new_order u v hu hv (st.by_copies a.0 b.0 a.2 b.2 (omega (arith, same, a.3, b.3)) (omega (arith, less, a.4, b.4))))

  -- the class that has a new number
  old_class : ℕ → ℕ
  old_class n = get_or ds n 0

  old_class_new : (t : ℕ) → t < length g → old_class (new t) ≡ class_of t
  unfolding old_class
  old_class_new t lt = get_or_index eqb Decides-eqb (class_of t) ds 0 (has_new t lt)

  old_row : (n : ℕ) → led old_class (led new (at g n)) ≡ led class_of (at g n)
  old_row n =
      led_led old_class new (at g n)
      ∙ led_same (λ t. old_class (new t)) class_of (at g n) (λ t e. old_class_new t (st.takes n t e).0) (λ t e. old_class_new t (st.passes n t e).0)

  -- a node that is the lowest of its class is where the class first appears
  lowest_self : (t : ℕ) → t < length g → ((u : ℕ) → u < t → new u ≡ new t → ⊥) → index eqb (class_of t) cs ≡ t
  lowest_self t lt first =
      let j = index eqb (class_of t) cs in
      let le : j ≤ t = index_le eqb Decides-eqb (class_of t) cs t 0 (omega (arith, length_classes 0 g)) (sym (class_is t 0 lt)) in
      let j_lt : j < length g = omega arith in
      let same : class_of j ≡ class_of t = class_is j 0 j_lt ∙ get_or_index eqb Decides-eqb (class_of t) cs 0 (has_class t lt) in
      elim (cases_lt j t) [ inl lower ↦ absurd (first j lower (ap (λ (c : ℕ). index eqb c ds) same)) | inr ge ↦ omega arith ]

  pub reduced_joins : Joins g (reduced g) new
  reduced_joins = record {
    in_range = new_in_range;
    onto = old;
    rows = at_new;
    joined = λ n t hn ht e.
        let alike : led class_of (at g n) ≡ led class_of (at g t) = sym (old_row n) ∙ ap (led old_class) e ∙ old_row t in
        ap (λ (c : ℕ). index eqb c ds) (class_is n 0 hn ∙ all_found 0 g (arcs_ahead m g st) n t hn ht alike ∙ sym (class_is t 0 ht));
    in_order = λ n t lt ht first.
        let hn : n < length g = omega arith in
        let le : index eqb (class_of n) cs ≤ n = index_le eqb Decides-eqb (class_of n) cs n 0 (omega (arith, length_classes 0 g)) (sym (class_is n 0 hn)) in
        distinct_order eqb Decides-eqb (class_of n) (class_of t) cs (omega (arith, le, lt, lowest_self t ht first));
  }

pub reduced_accepts : (m : ℕ) (g : List Row) → Layered m g → (counts : List ℕ) → accepts (reduced g) counts 0 ≡ accepts g counts 0
reduced_accepts m g st counts = ap (accepts (reduced g) counts) (sym (new_source g st.some_node)) ∙ accepts_new m g st counts 0 st.some_node

pub reduces : Reduces
reduces m g st = (
  reduced_layered m g st,
  (renumbered (classes 0 g), reduced_joins m g st),
  (λ counts arcs p. accepts_path (reduced g) counts 0 (reduced_accepts m g st counts ∙ path_accepts p)),
  (λ counts arcs p. accepts_path g counts 0 (sym (reduced_accepts m g st counts) ∙ path_accepts p)),
)
