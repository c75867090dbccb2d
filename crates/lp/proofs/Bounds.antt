-- The numbers of a graph's model are small.
use Rattle.std.proofs.Common.{ℕ, zero, suc, ◌+◌, ◌-◌, ◌*◌, ◌^◌, ◌<◌, ◌≤◌, Bool, true, false, cond, List, [], ◌∷◌, length, is_some, arith}
use Rattle.std.specs.List.{AllByRecursion}
use Rattle.std.proofs.ByRecursion.{All-append, All-map, All-weaker}
use Rattle.graph.specs.declared.Row.{Row}
use Rattle.graph.specs.Graph.{at, head}
use Rattle.flow.specs.Arcs.{numbers, is, arcs_out, arcs_into, item_arcs, all_arcs}
use Rattle.flow.specs.Model.{Variable.X, Term.Plus, Term.Minus, plus, supply, node_row, node_rows, item_rows, model}
use Rattle.lp.specs.Reading.{WithinVariable, WithinRow, Within, variable_of, GraphsReadBack}
use Rattle.lp.proofs.ReadsBack.{reads_back}

only_below : (b : Bool) (n most : ℕ) → n < most → AllByRecursion (λ a. a < most) (cond b (n ∷ []) [])
only_below true n most h = (h, tt)
only_below false n most h = tt

numbers_below : (p : ℕ → Bool) (n most : ℕ) → n ≤ most → AllByRecursion (λ a. a < most) (numbers p n)
numbers_below p zero most h = tt
numbers_below p (suc n) most h = All-append (λ a. a < most) (numbers p n) (cond (p n) (n ∷ []) []) (numbers_below p n most (omega arith)) (only_below (p n) n most (omega arith))

module _ (g : List Row) (few : length g ≤ 65535) where
  plus_within : (arcs : List ℕ) → AllByRecursion (λ a. a < 2 ^ 64) arcs → AllByRecursion (λ t. WithinVariable (variable_of t)) (plus arcs)
  plus_within arcs h = All-map (λ t. WithinVariable (variable_of t)) (λ a. Plus (X a)) arcs h

  supply_within : (n : ℕ) → AllByRecursion (λ t. WithinVariable (variable_of t)) (supply g n)
  supply_within zero = (tt, tt)
  supply_within (suc n) =
      All-map (λ t. WithinVariable (variable_of t)) (λ a. Minus (X a)) (arcs_into g (suc n)) (numbers_below (λ a. is (head g a) (suc n)) (2 * length g) (2 ^ 64) (omega arith))

  node_within : (n : ℕ) → n < length g → WithinRow (node_row g n)
  node_within n h = record {
    label = omega arith;
    terms =
        All-append (λ t. WithinVariable (variable_of t)) (plus (arcs_out g n)) (supply g n)
        (plus_within (arcs_out g n) (All-append (λ a. a < 2 ^ 64) (cond (is_some (at g n).pass) (2 * n ∷ []) []) (cond (is_some (at g n).take) ((2 * n + 1) ∷ []) [])
        (only_below (is_some (at g n).pass) (2 * n) (2 ^ 64) (omega arith)) (only_below (is_some (at g n).take) (2 * n + 1) (2 ^ 64) (omega arith))))
        (supply_within n);
    right = omega arith;
  }

  items_within : (i : ℕ) (demands : List ℕ) → i + length demands ≤ 65 → AllByRecursion (λ b. b ≤ 4095) demands → AllByRecursion WithinRow (item_rows g i demands)
  items_within i [] short h = tt
  items_within i (b ∷ demands) short h = (
    record { label = omega arith; terms = plus_within (item_arcs g i) (numbers_below _ (2 * length g) (2 ^ 64) (omega arith)); right = omega (arith, h.0) },
    items_within (suc i) demands (omega arith) h.1,
  )

  within : (demands : List ℕ) → length demands ≤ 64 → AllByRecursion (λ b. b ≤ 4095) demands → Within (model g demands)
  within demands short h = record {
    rows =
        All-append WithinRow (node_rows g) (item_rows g 1 demands)
        (All-map WithinRow (node_row g) (numbers (λ n. true) (length g - 1)) (All-weaker _ _ (λ n l. node_within n l) _ (nodes (length g) (length g - 1) (omega arith))))
        (items_within 1 demands (omega arith) h);
    variables = (tt, All-map WithinVariable X (all_arcs g) (numbers_below (λ a. is_some (head g a)) (2 * length g) (2 ^ 64) (omega arith)));
  }
    where
      nodes : (most n : ℕ) → n ≤ most → AllByRecursion (λ a. a < most) (numbers (λ n. true) n)
      nodes most n l = numbers_below (λ n. true) n most l

pub graphs_read_back : GraphsReadBack
graphs_read_back g demands few short h = reads_back (model g demands) (within g few demands short h)
