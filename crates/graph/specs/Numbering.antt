-- The rule of numbering: which graph a problem has, said of its nodes and not of the way in which they are found.
--
-- Every node but the target has an amount: what the copies taken on the way to it come to. A take arc leads to the amount of
-- one copy more, a pass arc to the same amount at the next item. A station has each amount once. The nodes are numbered in the
-- order of their stations, and within a station in the order in which the nodes before it, in rising number, first lead to them.
use Rattle.std.specs.Prelude.{◌≡◌, ℕ, suc, ◌-◌, ◌<◌, cond, ◌⊎◌, List, [], length, Some, None, Option, nat_lt, slice_index_or}
use Rattle.std.specs.Option.{option_map}
use Rattle.limits.specs.Meaning.{Meaning, joined}
use Rattle.packing.specs.Packing.{Item}
use Rattle.graph.specs.declared.Row.{Row}
use Rattle.graph.specs.Graph.{at, Layered}
use Rattle.graph.specs.Compiled.{compiled, loads}

-- what stands past the last item: nothing to take
abbrev pub no_item : Item
no_item = record { weight = []; most = 0 }

-- item i, from 1
abbrev pub item_at : List Item → ℕ → Item
item_at items i = slice_index_or items (i - 1) no_item

-- the amount of node n
abbrev pub amount_of : List (List ℕ) → ℕ → List ℕ
amount_of amounts n = slice_index_or amounts n []

-- amount a, with that many copies of item x, and one copy more: if x may be taken once more and the sum fits
abbrev pub one_more : Meaning → Item → ℕ → List ℕ → Option (List ℕ)
one_more k x copies a = cond (nat_lt copies x.most) (joined k a x.weight) None

-- an arc leads from node n to node t
abbrev pub Arc : List Row → ℕ → ℕ → Type 0
Arc g n t = ((at g n).take ≡ Some t) ⊎ ((at g n).pass ≡ Some t)

-- nodes n and t are in one station
abbrev pub OneStation : List Row → ℕ → ℕ → Type 0
OneStation g n t = ((at g n).item ≡ (at g t).item) × ((at g n).copies ≡ (at g t).copies)

-- Graph g is the graph of the items, and `amounts` has the amount of each node but the target.
pub record Stepped (k : Meaning) (items : List Item) (g : List Row) (amounts : List (List ℕ)) : Type 0 where
  -- the source and the target, the stations in their order, and from which station to which an arc leads
  pub layered : Layered (length items) g
  -- each node but the last, the target, has an amount
  pub one_amount : length g ≡ suc (length amounts)
  -- the source, unless it is the target, has the empty amount
  pub source : 0 < length amounts → amount_of amounts 0 ≡ k.empty
  -- no two nodes of a station have the same amount
  pub distinct : (n t : ℕ) → n < length amounts → t < length amounts → OneStation g n t → amount_of amounts n ≡ amount_of amounts t → n ≡ t
  -- a take arc leads to the amount of one copy more, and is there if and only if there is such an amount
  pub takes : (n : ℕ) → n < length amounts
      → option_map (amount_of amounts) (at g n).take ≡ one_more k (item_at items (at g n).item) (at g n).copies (amount_of amounts n)
  -- a pass arc, unless it leads from the last item to the target, leads to the same amount
  pub passes : (n t : ℕ) → (at g n).item < length items → (at g n).pass ≡ Some t → amount_of amounts t ≡ amount_of amounts n
  -- an arc leads to each node but the source
  pub reached : (t : ℕ) → 0 < t → t < length g → (n : ℕ) × Arc g n t
  -- the nodes of a station stand in the order in which they are first led to: if node v leads to the later of two, a node before v leads to the earlier
  pub in_order : (s t v : ℕ) → s < t → OneStation g s t → Arc g v t → (u : ℕ) × (u < v) × Arc g u s

-- the compiled graph keeps the rule of numbering
abbrev pub CompiledStepped : Type 0
CompiledStepped = (k : Meaning) (items : List Item) → Stepped k items (compiled k items) (loads k items)

-- the rule of numbering fixes the graph, and the amounts of its nodes
abbrev pub NumberingFixed : Type 0
NumberingFixed = (k : Meaning) (items : List Item) (g h : List Row) (amounts others : List (List ℕ))
    → Stepped k items g amounts → Stepped k items h others → (g ≡ h) × (amounts ≡ others)
