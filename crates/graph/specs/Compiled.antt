-- The graph of a problem, node by node.
--
-- Station (i, c) is item i, from 1, with c copies of it taken; its nodes have distinct amounts. The nodes are numbered
-- station by station: (1, 0), (1, 1) .. up to item 1's most, then (2, 0) and so on, and last the target. Within a station
-- the amounts stand in the order in which the nodes before them, in rising number, first lead to them.
use Rattle.std.specs.Prelude.{ℕ, zero, suc, ◌+◌, cond, List, [], ◌∷◌, ◌++◌, map, length, Some, None, filter, Option}
use Rattle.graph.specs.declared.Row.{Row}
use Rattle.packing.specs.Distinct.{distinct, index, same_list}
use Rattle.limits.specs.Meaning.{Meaning}
use Rattle.packing.specs.Packing.{Item}
use Rattle.graph.specs.Graph.{row}

-- the place of an amount in a station
abbrev pub place : List ℕ → List (List ℕ) → ℕ
place a s = index same_list a s

-- the number of the node with amount a in the first station of the items left, which begins at node o: without items, the target
abbrev pub entry : List Item → ℕ → List (List ℕ) → List ℕ → ℕ
entry [] o s a = o
entry (x ∷ xs) o s a = o + place a s

-- where the pass arc from amount a leads
abbrev pub pass_end : List Item → ℕ → List (List ℕ) → List ℕ → Option ℕ
pass_end xs o s a = Some (entry xs o s a)

module _ (k : Meaning) where
  -- the station of one copy more: the sums that fit
  abbrev pub raised : List ℕ → List (List ℕ) → List (List ℕ)
  raised w s = distinct same_list (filter k.fits (map (λ a. k.plus a w) s))

  -- the amounts of an item's stations, one after another, from a station with b copies to go
  abbrev pub layer : List ℕ → ℕ → List (List ℕ) → List (List ℕ)
  layer w zero s = s
  layer w (suc b) s = s ++ layer w b (raised w s)

  -- the first station of the next item
  abbrev pub after : Item → List (List ℕ) → List (List ℕ)
  after x s = distinct same_list (layer x.weight x.most s)

  -- where the take arc from amount a leads, if the sum fits: the next station, t, begins at node o
  abbrev pub take_end : List ℕ → ℕ → List (List ℕ) → List ℕ → Option ℕ
  take_end w o t a = cond (k.fits (k.plus a w)) (Some (o + place (k.plus a w) t)) None

  -- a row of station (i, c) with another copy to go: the next station, t, begins at node o
  abbrev pub row_taking : List ℕ → (List ℕ → Option ℕ) → ℕ → ℕ → ℕ → List (List ℕ) → List ℕ → Row
  row_taking w pass i c o t a = row i c (take_end w o t a) (pass a)

  -- the rows of an item from station (i, c) on, which is s and begins at node o, with b copies to go
  abbrev pub item_rows : List ℕ → (List ℕ → Option ℕ) → ℕ → ℕ → ℕ → ℕ → List (List ℕ) → List Row
  item_rows w pass i c zero o s = map (λ a. row i c None (pass a)) s
  item_rows w pass i c (suc b) o s =
      map (row_taking w pass i c (o + length s) (raised w s)) s ++ item_rows w pass i (suc c) b (o + length s) (raised w s)

  -- the rows from station (i, 0) on, which is s and begins at node o
  abbrev pub rows_from : ℕ → ℕ → List (List ℕ) → List Item → List Row
  rows_from i o s [] = row i 0 None None ∷ []
  rows_from i o s (x ∷ xs) =
      item_rows x.weight (pass_end xs (o + length (layer x.weight x.most s)) (after x s)) i 0 x.most o s
      ++ rows_from (suc i) (o + length (layer x.weight x.most s)) (after x s) xs

  -- the amounts of the nodes from the first station of the items left on
  abbrev pub loads_from : List (List ℕ) → List Item → List (List ℕ)
  loads_from s [] = []
  loads_from s (x ∷ xs) = layer x.weight x.most s ++ loads_from (after x s) xs

  -- the graph of the items
  abbrev pub compiled : List Item → List Row
  compiled items = rows_from 1 0 (k.empty ∷ []) items

  -- the amount of each node but the target
  abbrev pub loads : List Item → List (List ℕ)
  loads items = loads_from (k.empty ∷ []) items
