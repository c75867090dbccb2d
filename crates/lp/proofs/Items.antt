-- The nodes of an item stand together.
use Rattle.std.proofs.Common.{ap₂, ◌≡◌, ℕ, zero, suc, cond, ◌∷◌, map, ◌+◌, ◌-◌, ◌*◌, ◌<◌, ◌≤◌, Bool, true, false, ◌&&◌, eqb, ◌⊎◌, List, [], ◌++◌, length, drop, get_or, length-drop, is_some, sym, refl, ap, ◌∙◌, inl, inr, arith}
use Rattle.std.specs.List.{filter, prefix_len, range_with_len}
use Rattle.std.proofs.lemmas.Bool.{cases_lt, eq-eqb, eqb-true, eqb-false, ne_eqb}
use Rattle.std.proofs.lemmas.List.{get_or-drop}
use Rattle.std.proofs.lemmas.List.Sums.{prefix_len-le-length, prefix_len_passes, prefix_len_stops}
use Rattle.graph.specs.declared.Row.{Row}
use Rattle.graph.specs.Graph.{Layered, at, blank, head, pass_arc, tail, take_arc, takes}
use Rattle.flow.specs.Arcs.{item_arcs, numbers, takes_item}
use Rattle.flow.proofs.Paths.{takes_pass, takes_take}
use Rattle.lp.specs.Writing.{Begins, InOrder, NodesOf}
use Rattle.lp.proofs.Entries.{filter_alike, numbers_on, numbers_skip}

pub layered_order : {m : ℕ} {g : List Row} → Layered m g → InOrder g
layered_order {g = g} h v w le lt = go (cases_lt (at g w).item (at g v).item)
  where
    go : ((at g w).item < (at g v).item) ⊎ ((at g v).item ≤ (at g w).item) → (at g v).item ≤ (at g w).item
    go (inl less) = absurd (omega (arith, h.by_item w v lt (omega arith) less))
    go (inr ok) = ok

-- the nodes of the first item begin at the source
pub first_begins : {m : ℕ} {g : List Row} → Layered m g → Begins g 0 1
first_begins {g = g} h = record {
  inside = omega arith;
  before = λ v lt. absurd (omega arith);
  after = λ v le lt. omega (arith, h.source.0, layered_order h 0 v (omega arith) lt);
}

-- the nodes of an item are the rows of that item from where they begin, up to the first of another
pub nodes_from : (g : List Row) (i start len : ℕ) → InOrder g → Begins g start i → len ≡ prefix_len (λ (r : Row). eqb r.item i) (drop start g) → NodesOf g i start (start + len)
nodes_from g i start len order begin e = record {
  inside = omega (arith, begin.inside, e, prefix_len-le-length own (drop start g), length-drop start g);
  order = omega arith;
  of_item = λ v le lt. eqb-true (at g v).item i (ap own (sym (placed v le)) ∙ prefix_len_passes own (drop start g) (v - start) blank (omega (arith, e)));
  before = begin.before;
  after = λ v le lt. omega (arith, order (start + len) v le lt, begin.after (start + len) (omega arith) (omega arith), other (omega arith));
}
  where
    own : Row → Bool
    own r = eqb r.item i

    placed : (v : ℕ) → start ≤ v → get_or (drop start g) (v - start) blank ≡ at g v
    placed v le = get_or-drop start g (v - start) blank ∙ ap (at g) (omega arith)

    other : start + len < length g → (at g (start + len)).item ≡ i → ⊥
    other lt =
        eqb-false (at g (start + len)).item i
        (ap own (sym (ap (λ n. get_or (drop start g) n blank) (sym e) ∙ get_or-drop start g len blank)) ∙ prefix_len_stops own (drop start g) blank (omega (arith, e, length-drop start g)))

-- where an item's nodes end, those of the next item begin
pub next_begins : (g : List Row) (i start end : ℕ) → NodesOf g i start end → Begins g end (i + 1)
next_begins g i start end nodes = record {
  inside = nodes.inside;
  before = λ v lt. go v lt (cases_lt v start);
  after = λ v le lt. omega (arith, nodes.after v le lt);
}
  where
    go : (v : ℕ) → v < end → (v < start) ⊎ (start ≤ v) → (at g v).item < i + 1
    go v lt (inl low) = omega (arith, nodes.before v low)
    go v lt (inr le) = omega (arith, nodes.of_item v le lt)

off : (x y z : Bool) → z ≡ false → x && (y && z) ≡ false
off true true z e = e
off true false z e = refl
off false y z e = refl

on : (x y z : Bool) → z ≡ true → x && (y && z) ≡ x && y
on true true z e = e
on true false z e = refl
on false y z e = refl

-- the take arcs of nodes, among all their arcs
takes_by_node : (p : ℕ → Bool) (s n : ℕ) → filter p (map take_arc (range_with_len s n)) ≡ filter (λ a. takes a && p a) (range_with_len (2 * s) (2 * n))
takes_by_node p s zero = refl
takes_by_node p s (suc n) =
    ap (λ xs. cond (p (take_arc s)) (take_arc s ∷ xs) xs) (takes_by_node p (s + 1) n ∙ ap (λ k. filter q (range_with_len k (2 * n))) start)
    ∙ ap₂ (λ b c. cond b (pass_arc s ∷ cond c (take_arc s ∷ rest) rest) (cond c (take_arc s ∷ rest) rest)) (sym (ap (λ b. b && p (pass_arc s)) (takes_pass s))) (sym (ap (λ b. b && p (take_arc s)) (takes_take s)))
    ∙ ap (λ k. filter q (range_with_len (2 * s) k)) (sym two)
  where
    q : ℕ → Bool
    q a = takes a && p a

    rest : List ℕ
    rest = filter q (range_with_len (2 * s + 1 + 1) (2 * n))

    start : 2 * (s + 1) ≡ 2 * s + 1 + 1
    start = omega arith

    two : 2 * suc n ≡ suc (suc (2 * n))
    two = omega arith

-- the take arcs of an item are those of its nodes
module _ (g : List Row) (i start end : ℕ) (nodes : NodesOf g i start end) where
  others : (a : ℕ) → ((at g (tail a)).item ≡ i → ⊥) → takes_item g i a ≡ false
  others a ne = off (takes a) (is_some (head g a)) (eqb (at g (tail a)).item i) (ne_eqb (at g (tail a)).item i ne)

  takes_of_nodes : filter (λ a. takes a && is_some (head g a)) (range_with_len (2 * start) (2 * (end - start))) ≡ item_arcs g i
  takes_of_nodes =
      filter_alike (λ a. takes a && is_some (head g a)) (takes_item g i) (2 * start) (2 * (end - start))
      (λ a le lt. sym (on (takes a) (is_some (head g a)) (eqb (at g (tail a)).item i) (eq-eqb (at g (tail a)).item i (nodes.of_item (tail a) (omega arith) (omega (arith, nodes.order))))))
      ∙ ap (λ xs. xs ++ filter (takes_item g i) (range_with_len (2 * start) (2 * (end - start)))) (sym none_before)
      ∙ sym (numbers_on (takes_item g i) (2 * start) (2 * (end - start)))
      ∙ sym (numbers_skip (takes_item g i) (2 * start + (2 * (end - start))) (2 * length g - 2 * end)
      (λ a le lt. others a (λ e. omega (arith, nodes.order, nodes.inside, nodes.after (tail a) (omega (arith, nodes.order)) (omega (arith, nodes.order, nodes.inside))))))
      ∙ ap (numbers (takes_item g i)) all
    where
      none_before : numbers (takes_item g i) (2 * start) ≡ []
      none_before = ap (numbers (takes_item g i)) from_zero ∙ numbers_skip (takes_item g i) 0 (2 * start) (λ a le lt. others a (λ e. omega (arith, nodes.before (tail a) (omega arith))))
        where
          from_zero : 2 * start ≡ 0 + 2 * start
          from_zero = omega arith

      all : 2 * start + (2 * (end - start)) + (2 * length g - 2 * end) ≡ 2 * length g
      all = omega (arith, nodes.order, nodes.inside)

  -- node by node
  pub takes_each : filter (λ a. is_some (head g a)) (map take_arc (range_with_len start (end - start))) ≡ item_arcs g i
  takes_each = takes_by_node (λ a. is_some (head g a)) start (end - start) ∙ takes_of_nodes
