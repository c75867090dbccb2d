-- The graph item by item.
use Rattle.std.proofs.Common.{◌≡◌, ℕ, suc, ◌+◌, ◌<◌, ◌≤◌, List, [], ◌∷◌, ◌++◌, map, length, get_or, take, drop, Some, None, Option, sym, ap, ◌∙◌, arith, length-append}
use lib.ListN.{length-map}
use Rattle.std.proofs.lemmas.List.{append_assoc, append-nil, take_all, take_at, drop_at, drop_all, drop_more, length-take-le}
use Rattle.limits.specs.Meaning.{Meaning}
use Rattle.lists.specs.Entries.{entries}
use Rattle.graph.specs.declared.Row.{Row}
use Rattle.packing.specs.Distinct.{distinct, same_list}
use Rattle.packing.specs.Packing.{Item}
use Rattle.graph.specs.Graph.{row}
use Rattle.graph.specs.Compiled.{place, item_rows, rows_from, loads_from, compiled, loads}
use Rattle.graph.proofs.Language.{length_item_rows}
use Rattle.graph.proofs.Laws.{compiles_layered}
use Rattle.graph.proofs.Room.{prefix_length, pass_prefix}
use Rattle.compile.specs.declared.draft.Draft.{Draft}
use Rattle.compile.specs.declared.weighed.Weighed.{Weighed}
use Rattle.compile.specs.Drafts.{amounts}
use Rattle.compile.specs.Items.{Opened, nodes_of, next_of, Followed, Ended}
use Rattle.compile.specs.Build.{Untargeted}

-- an item with its weight, as it is packed
abbrev pub packed : {L : Type 0} → (L → List ℕ) → Weighed L → Item
packed f x = record { weight = f x.weight; most = x.most }

module _ {L : Type 0} (f : L → List ℕ) (k : Meaning) (items : List Item) where
  -- Of the nodes so far those below `low` are complete, and the others are the first station of item j + 1, without arcs.
  pub record Begun (j low : ℕ) (b : Draft L) : Type 0 where
    pub opened : Opened f (j + 1) low b
    pub rows : compiled k items ≡ take low (entries b.rows) ++ rows_from k (suc j) low (drop low (amounts f b)) (drop j items)
    pub loads_are : loads k items ≡ take low (amounts f b) ++ loads_from k (drop low (amounts f b)) (drop j items)

  length_compiled : length (compiled k items) ≡ suc (length (loads k items))
  length_compiled = (compiles_layered k items).1

  -- b is the graph at item x, the one at place j, which begins at `low`
  module _ (b : Draft L) (j low : ℕ) (x : Weighed L) (number : x.number ≡ j + 1) (begun : Begun j low b) (lt : j < length items) (read : get_or items j (packed f x) ≡ packed f x) where
    abbrev xs : List (List ℕ)
    xs = amounts f b

    abbrev rs : List Row
    rs = entries b.rows

    abbrev station : List (List ℕ)
    station = drop low xs

    abbrev all : List (List ℕ)
    all = nodes_of f k x low b

    abbrev next : List (List ℕ)
    next = next_of f k x low b

    left : drop j items ≡ packed f x ∷ drop (j + 1) items
    left = drop_more items j (packed f x) lt ∙ ap (λ (z : Item). z ∷ drop (j + 1) items) read

    length_xs : length (take low xs) ≡ low
    length_xs = length-take-le low xs (omega (arith, begun.opened.within, length-map (entries b.loads) f))

    length_rs : length (take low rs) ≡ low
    length_rs = length-take-le low rs (omega (arith, b.paired, begun.opened.within))

    one : suc j ≡ j + 1
    one = omega arith

    -- another item follows
    module _ (more : j + 1 < length items) where
      abbrev y : Item
      y = get_or items (j + 1) (packed f x)

      abbrev others : List Item
      others = drop (j + 1 + 1) items

      rest : drop (j + 1) items ≡ y ∷ others
      rest = drop_more items (j + 1) (packed f x) more

      two : drop j items ≡ packed f x ∷ (y ∷ others)
      two = left ∙ ap (λ (l : List Item). packed f x ∷ l) rest

      pub begun_more : (c : Draft L) (n : ℕ) → Followed f k x low b c n → Begun (j + 1) n c
      begun_more c n made =
          let to : ℕ → List ℕ → Option ℕ = λ o a. Some (o + place a next) in
          let done = item_rows k (f x.weight) (to n) (j + 1) 0 x.most low station in
          let new = map (λ (_ : List ℕ). row (j + 1 + 1) 0 None None) next in
          let qs = entries c.rows in
          let ys = amounts f c in
          let rows_split : qs ≡ (take low rs ++ done) ++ new =
          made.rows
          ∙ ap (λ (i : ℕ). take low rs ++ (item_rows k (f x.weight) (to n) i 0 x.most low station ++ map (λ (_ : List ℕ). row (i + 1) 0 None None) next)) number
          ∙ sym (append_assoc (take low rs) done new) in
          let rows_length : length (take low rs ++ done) ≡ n =
          length-append (take low rs) done ∙ omega (arith, length_rs, length_item_rows k (f x.weight) (to n) (j + 1) 0 x.most low station, made.begins) in
          let loads_split : ys ≡ (take low xs ++ all) ++ next = made.loads ∙ sym (append_assoc (take low xs) all next) in
          let loads_length : length (take low xs ++ all) ≡ n = length-append (take low xs) all ∙ omega (arith, length_xs, made.begins) in
          let rows_front : take n qs ≡ take low rs ++ done = ap (take n) rows_split ∙ take_at (take low rs ++ done) new n rows_length in
          let rows_back : drop n qs ≡ new = ap (drop n) rows_split ∙ drop_at (take low rs ++ done) new n rows_length in
          let loads_front : take n ys ≡ take low xs ++ all = ap (take n) loads_split ∙ take_at (take low xs ++ all) next n loads_length in
          let loads_back : drop n ys ≡ next = ap (drop n) loads_split ∙ drop_at (take low xs ++ all) next n loads_length in
          let long : length ys ≡ n + length next = ap length loads_split ∙ length-append (take low xs ++ all) next ∙ omega (arith, loads_length) in
          record {
            opened = record {
              within = omega (arith, long, length-map (entries c.loads) f);
              first = rows_back ∙ ap (map (λ _. row (j + 1 + 1) 0 None None)) (sym loads_back);
            };
            rows = begun.rows ∙ rw (two, ← made.begins, one, rows_front, loads_back, rest) (sym (append_assoc (take low rs) done (rows_from k (suc (j + 1)) n next (y ∷ others))));
            loads_are = begun.loads_are ∙ rw (two, loads_front, loads_back, rest) (sym (append_assoc (take low xs) all (loads_from k next (y ∷ others))));
          }

      -- the graph has at least the nodes up to the next item's first station
      pub begun_within : low + length all + length next ≤ length (compiled k items)
      begun_within =
          let p = prefix_length (all ++ distinct same_list (take (length all) all)) (loads_from k station (packed f x ∷ (y ∷ others))) (pass_prefix k (packed f x) y others (length all) station) in
          let e : length (all ++ distinct same_list (take (length all) all)) ≡ length all + length next =
          length-append all (distinct same_list (take (length all) all))
          ∙ ap (λ (l : List (List ℕ)). length all + length (distinct same_list l)) (take_all (length all) all (omega arith)) in
          let whole : length (loads k items) ≡ low + length (loads_from k station (packed f x ∷ (y ∷ others))) =
          ap length (begun.loads_are ∙ ap (λ (l : List Item). take low xs ++ loads_from k station l) two)
          ∙ length-append (take low xs) (loads_from k station (packed f x ∷ (y ∷ others))) ∙ omega (arith, length_xs) in
          omega (arith, length_compiled, whole, p, e)

    -- the last item
    module _ (last : j + 1 ≡ length items) where
      alone : drop j items ≡ packed f x ∷ []
      alone = left ∙ ap (λ (l : List Item). packed f x ∷ l) (drop_all (j + 1) items (omega arith))

      whole_loads : loads k items ≡ take low xs ++ all
      whole_loads =
          begun.loads_are ∙ ap (λ (l : List Item). take low xs ++ loads_from k station l) alone ∙ ap (λ (l : List (List ℕ)). take low xs ++ l) (append-nil all)

      pub begun_count : length (compiled k items) ≡ suc (low + length all)
      begun_count = length_compiled ∙ ap suc (ap length whole_loads ∙ length-append (take low xs) all ∙ omega (arith, length_xs))

      pub begun_last : (c : Draft L) → Ended f k x low b c → Untargeted f k items c.rows c.loads
      begun_last c made =
          let to : List ℕ → Option ℕ = λ _. Some (low + length all) in
          let number_is : x.number ≡ suc j = omega (arith, number) in
          let target_is : suc (length items) ≡ suc (suc j) = omega (arith, last) in
          record {
            rows = rw (begun.rows, alone, made.rows, number_is, target_is)
                (append_assoc (take low rs) (item_rows k (f x.weight) to (suc j) 0 x.most low station) (row (suc (suc j)) 0 None None ∷ []));
            amounts = made.loads ∙ sym whole_loads;
          }
