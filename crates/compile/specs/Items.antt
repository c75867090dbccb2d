-- An item with its weight, and its part of the graph.
use Rattle.std.specs.Prelude.{◌≡◌, ℕ, ◌+◌, ◌≤◌, List, ◌++◌, map, length, take, drop, Some, None, Option}
use Rattle.limits.specs.Meaning.{Meaning}
use Rattle.lists.specs.Entries.{entries}
use Rattle.graph.specs.declared.Row.{Row}
use Rattle.packing.specs.declared.Item.{Item as Given}
use Rattle.packing.specs.Distinct.{distinct, same_list}
use Rattle.packing.specs.Given.{fields_of}
use Rattle.graph.specs.Graph.{row}
use Rattle.graph.specs.Compiled.{place, layer, item_rows}
use Rattle.compile.specs.declared.draft.Draft.{Draft}
use Rattle.compile.specs.declared.weighed.Weighed.{Weighed}
use Rattle.compile.specs.Drafts.{amounts}

module _ {L : Type 0} (f : L → List ℕ) where
  -- x is item i as it is given, with its weight
  pub record Weighs (k : Meaning) (given : Given) (i : ℕ) (x : Weighed L) : Type 0 where
    pub weight : Some (f x.weight) ≡ k.weight (fields_of given)
    pub most : x.most ≡ given.demand
    pub number : x.number ≡ i

  -- The nodes from `low` on are station (i, 0), without arcs.
  pub record Opened (i low : ℕ) (b : Draft L) : Type 0 where
    pub within : low ≤ length (entries b.loads)
    pub first : drop low (entries b.rows) ≡ map (λ _. row i 0 None None) (drop low (amounts f b))

  -- Item x, whose first station begins at node `low` of b, where no other node follows
  module _ (k : Meaning) (x : Weighed L) (low : ℕ) (b : Draft L) where
    -- the amounts of all its nodes
    abbrev pub nodes_of : List (List ℕ)
    nodes_of = layer k (f x.weight) x.most (drop low (amounts f b))

    -- their rows, by where the pass arcs lead
    abbrev pub rows_of : (List ℕ → Option ℕ) → List Row
    rows_of pass = item_rows k (f x.weight) pass x.number 0 x.most low (drop low (amounts f b))

    -- the amounts of the next item's first station
    abbrev pub next_of : List (List ℕ)
    next_of = distinct same_list nodes_of

    -- In c the nodes are there, with their take arcs.
    pub record Stations (c : Draft L) : Type 0 where
      pub loads : amounts f c ≡ take low (amounts f b) ++ nodes_of
      pub rows : entries c.rows ≡ take low (entries b.rows) ++ rows_of (λ _. None)

    -- The nodes have their pass arcs too, and the next item's first station, without arcs, begins at node n.
    pub record Followed (c : Draft L) (n : ℕ) : Type 0 where
      pub begins : n ≡ low + length nodes_of
      pub loads : amounts f c ≡ take low (amounts f b) ++ (nodes_of ++ next_of)
      pub rows : entries c.rows
          ≡ take low (entries b.rows) ++ (rows_of (λ a. Some (n + place a next_of)) ++ map (λ _. row (x.number + 1) 0 None None) next_of)

    -- The nodes have their pass arcs too, to the node that is to come next.
    pub record Ended (c : Draft L) : Type 0 where
      pub loads : amounts f c ≡ take low (amounts f b) ++ nodes_of
      pub rows : entries c.rows ≡ take low (entries b.rows) ++ rows_of (λ _. Some (low + length nodes_of))
