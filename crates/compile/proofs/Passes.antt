-- An item that is complete: the pass arcs of all its nodes.
use Rattle.std.proofs.Common.{◌≡◌, ℕ, zero, suc, ◌+◌, ◌-◌, ◌≤◌, List, [], ◌∷◌, ◌++◌, map, length, take, drop, Some, None, Option, sym, refl, ap, ◌∙◌, subst, arith, length-append, MatchOption}
use lib.ListN.{length-map}
use Rattle.std.proofs.lemmas.List.{append_assoc, take_all, take_at, drop_at, length-take-le}
use Rattle.limits.specs.Meaning.{Meaning}
use Rattle.lists.specs.declared.list.List.{List as Grown}
use Rattle.lists.specs.Entries.{entries}
use Rattle.graph.specs.declared.Row.{Row}
use Rattle.packing.specs.Distinct.{distinct, same_list}
use Rattle.graph.specs.Graph.{row}
use Rattle.graph.specs.Compiled.{place, raised, layer, row_taking, item_rows}
use Rattle.graph.proofs.Language.{length_item_rows}
use Rattle.compile.specs.declared.draft.Draft.{Draft}
use Rattle.compile.specs.declared.step.Step.TheVariants.{Pass}
use Rattle.compile.specs.declared.weighed.Weighed.{Weighed}
use Rattle.compile.specs.Drafts.{GrewBoth, Short, amounts}
use Rattle.compile.specs.Steps.{passing}
use Rattle.compile.specs.Arcs.{all_wanted, ends, arc, led_to, linked, Leads}
use Rattle.compile.specs.Items.{nodes_of, rows_of, next_of, Stations, Followed, Ended}
use Rattle.compile.proofs.Growth.{short_back}
use Rattle.compile.proofs.Copies.{linked_map}

linked_append : (put : ℕ → Row → Row) (to : List ℕ → Option ℕ) (rs qs : List Row) (xs ys : List (List ℕ)) → length rs ≡ length xs
    → linked put to (length (xs ++ ys)) (rs ++ qs) (xs ++ ys) ≡ linked put to (length xs) rs xs ++ linked put to (length ys) qs ys
linked_append put to [] qs [] ys e = refl
linked_append put to [] qs (x ∷ xs) ys e = absurd (omega arith)
linked_append put to (r ∷ rs) qs [] ys e = absurd (omega arith)
linked_append put to (r ∷ rs) qs (x ∷ xs) ys e = ap (λ (l : List Row). led_to put (to x) r ∷ l) (linked_append put to rs qs xs ys (omega arith))

-- the same end for all
linked_to : (put : ℕ → Row → Row) (n : ℕ) (rs : List Row) (xs : List (List ℕ)) → length rs ≡ length xs → map (put n) rs ≡ linked put (λ _. Some n) (length xs) rs xs
linked_to put n [] [] e = refl
linked_to put n [] (x ∷ xs) e = absurd (omega arith)
linked_to put n (r ∷ rs) [] e = absurd (omega arith)
linked_to put n (r ∷ rs) (x ∷ xs) e = ap (λ (l : List Row). put n r ∷ l) (linked_to put n rs xs (omega arith))

ends_all : (xs : List (List ℕ)) → ends (λ a. Some a) xs ≡ distinct same_list xs
ends_all xs = ap (distinct same_list) (go xs)
  where
    go : (xs : List (List ℕ)) → all_wanted (λ a. Some a) xs ≡ xs
    go [] = refl
    go (x ∷ xs) = ap (λ (l : List (List ℕ)). x ∷ l) (go xs)

module _ (k : Meaning) (w : List ℕ) where
  -- with its pass arcs, an item is as defined
  passed : (to : List ℕ → ℕ) (i c b o : ℕ) (s : List (List ℕ))
      → linked passing (λ a. Some (to a)) (length (layer k w b s)) (item_rows k w (λ _. None) i c b o s) (layer k w b s) ≡ item_rows k w (λ a. Some (to a)) i c b o s
  passed to i c zero o s = linked_map passing (λ a. Some (to a)) (λ _. row i c None None) s
  passed to i c (suc b) o s =
      let t = raised k w s in
      let here = map (row_taking k w (λ _. None) i c (o + length s) t) s in
      let next = item_rows k w (λ _. None) i (suc c) b (o + length s) t in
      linked_append passing (λ a. Some (to a)) here next s (layer k w b t) (length-map s (row_taking k w (λ _. None) i c (o + length s) t))
      ∙ rw (linked_map passing (λ a. Some (to a)) (row_taking k w (λ _. None) i c (o + length s) t) s, passed to i (suc c) b (o + length s) t) refl

-- x is the item, b the graph before it, and c that with all its stations
module _ {L : Type 0} (f : L → List ℕ) (k : Meaning) (x : Weighed L) (low : ℕ) (b c : Draft L) (within : low ≤ length (entries b.loads)) (made : Stations f k x low b c) where
  abbrev all : List (List ℕ)
  all = nodes_of f k x low b

  abbrev bare : List Row
  bare = rows_of f k x low b (λ _. None)

  length_xs : length (take low (amounts f b)) ≡ low
  length_xs = length-take-le low (amounts f b) (omega (arith, within, length-map (entries b.loads) f))

  length_rs : length (take low (entries b.rows)) ≡ low
  length_rs = length-take-le low (entries b.rows) (omega (arith, b.paired, within))

  pub item_length : length (entries c.loads) ≡ low + length all
  item_length =
      sym (length-map (entries c.loads) f) ∙ ap length made.loads ∙ length-append (take low (amounts f b)) all ∙ omega (arith, length_xs)

  last_amounts : drop low (amounts f c) ≡ all
  last_amounts = ap (drop low) made.loads ∙ drop_at (take low (amounts f b)) all low length_xs

  last_rows : drop low (entries c.rows) ≡ bare
  last_rows = ap (drop low) made.rows ∙ drop_at (take low (entries b.rows)) bare low length_rs

  first_rows : take low (entries c.rows) ≡ take low (entries b.rows)
  first_rows = ap (take low) made.rows ∙ take_at (take low (entries b.rows)) bare low length_rs

  -- the pass arcs to the next item
  pub followed : (d : Draft L) (q : Row) (o : Option ℕ) → q ≡ row (x.number + 1) 0 None None → GrewBoth b c → Leads f k Pass q low c d o
      → MatchOption o (Short b (low + length all + length (next_of f k x low b))) (Followed f k x low b d)
  followed d q None is grew short =
      short_back b c (low + length all + length (next_of f k x low b)) grew
      (subst (λ (n : ℕ). Short c n) (omega (arith, item_length, ap (λ (l : List (List ℕ)). length (ends (λ a. Some a) l)) last_amounts ∙ ap length (ends_all all))) short)
  followed d q (Some n) is grew leads =
      let t = next_of f k x low b in
      let next = row (x.number + 1) 0 None None in
      let to : ℕ → List ℕ → Option ℕ = λ m a. Some (m + place a t) in
      let led = leads.1 in
      let long : n ≡ length (amounts f c) = leads.0 ∙ sym (length-map (entries c.loads) f) in
      let count : length (entries c.loads) - low ≡ length all = omega (arith, item_length) in
      let whole : take (length (entries c.loads) - low) (drop low (amounts f c)) ≡ all =
      ap (take (length (entries c.loads) - low)) last_amounts ∙ take_all (length (entries c.loads) - low) all (omega (arith, count)) in
      let new : ends (λ a. Some a) (take (length (entries c.loads) - low) (drop low (amounts f c))) ≡ t = ap (ends (λ a. Some a)) whole ∙ ends_all all in
      let to_is : ends (λ a. Some a) (drop low (amounts f c)) ≡ t = ap (ends (λ a. Some a)) last_amounts ∙ ends_all all in
      let arcs : linked passing (arc (λ a. Some a) (length (amounts f c)) (ends (λ a. Some a) (drop low (amounts f c)))) (length (entries c.loads) - low) (drop low (entries c.rows)) (drop low (amounts f c))
      ≡ rows_of f k x low b (to n) =
      rw (to_is, ← long, count, last_rows, last_amounts) (passed k (f x.weight) (λ a. n + place a t) x.number 0 x.most low (drop low (amounts f b))) in
      record {
        begins = leads.0 ∙ item_length;
        loads = led.amounts ∙ ap (λ (l : List (List ℕ)). amounts f c ++ l) new ∙ ap (λ (l : List (List ℕ)). l ++ t) made.loads ∙ append_assoc (take low (amounts f b)) all t;
        rows = led.rows ∙ rw (new, arcs, first_rows, is) (append_assoc (take low (entries b.rows)) (rows_of f k x low b (to n)) (map (λ _. next) t));
      }

  -- the pass arcs to the target
  pub ended : (d : Draft L) → entries d.rows ≡ take low (entries c.rows) ++ map (passing (length (entries c.rows))) (drop low (entries c.rows)) → d.loads ≡ c.loads → Ended f k x low b d
  ended d led same =
      let h : length (entries c.rows) ≡ low + length all = c.paired ∙ item_length in
      let arcs : map (passing (length (entries c.rows))) (drop low (entries c.rows)) ≡ rows_of f k x low b (λ _. Some (low + length all)) =
      rw (h, last_rows) (linked_to passing (low + length all) bare all (length_item_rows k (f x.weight) (λ _. None) x.number 0 x.most low (drop low (amounts f b)))
      ∙ passed k (f x.weight) (λ _. low + length all) x.number 0 x.most low (drop low (amounts f b))) in
      record {
        loads = ap (λ (l : Grown L). map f (entries l)) same ∙ made.loads;
        rows = led ∙ rw (arcs, first_rows) refl;
      }
