-- The graph as a loop builds it: one more element of a station, one more station of an item.
-- A loop over a station keeps `raised k w (take j s)` behind it, a loop over an item's nodes `distinct same_list (take j all)`;
-- what is there stays, so an arc's end is final as soon as it is found.
use Rattle.std.proofs.Common.{◌≡◌, ℕ, zero, suc, ◌+◌, ◌<◌, ◌≤◌, Bool, true, false, cond, ◌||◌, List, [], ◌∷◌, ◌++◌, map, length, get_or, take, drop, None, Decides, filter, Option, sym, refl, ap, ◌∙◌, arith, length-append, take-append-drop}
use Rattle.std.proofs.lemmas.List.{append_assoc, append-nil, take_more, drop_more, drop_all, map-append}
use Rattle.std.proofs.lemmas.List.Elements.{filter-append}
use Rattle.graph.specs.declared.Row.{Row}
use Rattle.packing.specs.Distinct.{has, index, noted, noted_all, distinct, same_list}
use Rattle.limits.specs.Meaning.{Meaning}
use Rattle.graph.specs.Graph.{row, at}
use Rattle.graph.specs.Compiled.{place, raised, layer, row_taking, item_rows}
use Rattle.graph.specs.Reduced.{classed, classes}
use Rattle.packing.proofs.Distinct.{noted_all_append, noted_all_keeps, distinct_push, index_append, index_new, same_self}

module _ {X : Type 0} (same : X → X → Bool) where
  pub distinct_more : (xs : List X) (i : ℕ) (d : X) → i < length xs → distinct same (take (i + 1) xs) ≡ noted same (distinct same (take i xs)) (get_or xs i d)
  distinct_more xs i d lt = ap (distinct same) (take_more xs i d lt) ∙ distinct_push same (take i xs) (get_or xs i d)

  -- the list so far stands in front of the whole
  pub distinct_prefix : (i : ℕ) (xs : List X) → (more : List X) × (distinct same xs ≡ distinct same (take i xs) ++ more)
  distinct_prefix i xs =
      let kept = noted_all_keeps same (distinct same (take i xs)) (drop i xs) in
      (kept.0, ap (distinct same) (sym (take-append-drop i xs)) ∙ noted_all_append same [] (take i xs) (drop i xs) ∙ kept.1)

  -- so what is found stays at its place,
  pub place_found : (x : X) (i : ℕ) (xs : List X) → has same x (distinct same (take i xs)) ≡ true → index same x (distinct same xs) ≡ index same x (distinct same (take i xs))
  place_found x i xs h =
      let p = distinct_prefix i xs in
      ap (index same x) p.1 ∙ index_append same x (distinct same (take i xs)) p.0 h

  pub length_distinct : (i : ℕ) (xs : List X) → length (distinct same (take i xs)) ≤ length (distinct same xs)
  length_distinct i xs = let p = distinct_prefix i xs in omega (arith, ap length p.1 ∙ length-append (distinct same (take i xs)) p.0)

  -- and what is not found goes to the end: there is one more than so far
  pub place_pushed : ((x y : X) → Decides (same x y) (x ≡ y)) → (xs : List X) (i : ℕ) (d : X) → i < length xs → has same (get_or xs i d) (distinct same (take i xs)) ≡ false
      → (index same (get_or xs i d) (distinct same xs) ≡ length (distinct same (take i xs))) × (length (distinct same (take i xs)) < length (distinct same xs))
  place_pushed decides xs i d lt h =
      let x = get_or xs i d in
      let seen = distinct same (take i xs) in
      let p = distinct_prefix (i + 1) xs in
      let pushed : distinct same (take (i + 1) xs) ≡ seen ++ x ∷ [] = distinct_more xs i d lt ∙ ap (λ (b : Bool). cond b seen (seen ++ x ∷ [])) h in
      let whole : distinct same xs ≡ seen ++ x ∷ p.0 = p.1 ∙ ap (λ (l : List X). l ++ p.0) pushed ∙ append_assoc seen (x ∷ []) p.0 in
      let first : index same x (x ∷ p.0) ≡ 0 = rw (same_self same decides x) refl in (
        ap (index same x) whole ∙ index_new same x seen (x ∷ p.0) h ∙ omega (arith, first),
        omega (arith, ap length whole ∙ length-append seen (x ∷ p.0)),
      )

  -- A search of x from `low` on that has come to n: what is left gives the answer.
  abbrev pub Searched : X → List X → ℕ → ℕ → Type 0
  Searched x xs low n = (has same x (drop low xs) ≡ has same x (drop n xs)) × (low + index same x (drop low xs) ≡ n + index same x (drop n xs))

  pub searched_more : (x : X) (xs : List X) (low n : ℕ) (d : X) → n < length xs → same x (get_or xs n d) ≡ false → Searched x xs low n → Searched x xs low (n + 1)
  searched_more x xs low n d lt e inv =
      let rest = drop (n + 1) xs in
      let here : has same x (get_or xs n d ∷ rest) ≡ has same x rest = ap (λ (b : Bool). b || has same x rest) e in
      let further : index same x (get_or xs n d ∷ rest) ≡ suc (index same x rest) = ap (λ (b : Bool). cond b 0 (suc (index same x rest))) e in (
        inv.0 ∙ ap (has same x) (drop_more xs n d lt) ∙ here,
        inv.1 ∙ omega (arith, ap (index same x) (drop_more xs n d lt) ∙ further),
      )

  pub searched_hit : (x : X) (xs : List X) (low n : ℕ) (d : X) → n < length xs → same x (get_or xs n d) ≡ true → Searched x xs low n
      → (has same x (drop low xs) ≡ true) × (n ≡ low + index same x (drop low xs))
  searched_hit x xs low n d lt e inv =
      let rest = drop (n + 1) xs in
      let here : has same x (get_or xs n d ∷ rest) ≡ true = ap (λ (b : Bool). b || has same x rest) e in
      let first : index same x (get_or xs n d ∷ rest) ≡ 0 = ap (λ (b : Bool). cond b 0 (suc (index same x rest))) e in (
        inv.0 ∙ ap (has same x) (drop_more xs n d lt) ∙ here,
        omega (arith, inv.1, ap (index same x) (drop_more xs n d lt) ∙ first),
      )

  pub searched_all : (x : X) (xs : List X) (low n : ℕ) → length xs ≤ n → Searched x xs low n → has same x (drop low xs) ≡ false
  searched_all x xs low n le inv = inv.0 ∙ ap (has same x) (drop_all n xs le)

-- The classes of a graph from node n on, when those from the next node on are known.
pub classes_more : (g : List Row) (n : ℕ) → n < length g → classes n (drop n g) ≡ classed n (at g n) (drop (n + 1) g) (classes (suc n) (drop (n + 1) g))
classes_more g n lt = ap (classes n) (drop_more g n _ lt)

module _ (k : Meaning) where
  abbrev pub sums : List ℕ → List (List ℕ) → List (List ℕ)
  sums w s = filter k.fits (map (λ a. k.plus a w) s)

  -- one more node of a station: its sum is noted, if it fits
  pub raised_more : (w : List ℕ) (s : List (List ℕ)) (i : ℕ) → i < length s
      → raised k w (take (i + 1) s)
      ≡ cond (k.fits (k.plus (get_or s i []) w)) (noted same_list (raised k w (take i s)) (k.plus (get_or s i []) w)) (raised k w (take i s))
  raised_more w s i lt =
      let f : List ℕ → List ℕ = λ a. k.plus a w in
      let x = f (get_or s i []) in
      ap (λ (l : List (List ℕ)). distinct same_list (filter k.fits (map f l))) (take_more s i [] lt)
      ∙ ap (λ (l : List (List ℕ)). distinct same_list (filter k.fits l)) (map-append f (take i s) (get_or s i [] ∷ []))
      ∙ ap (distinct same_list) (filter-append k.fits (map f (take i s)) (x ∷ []))
      ∙ noted_all_append same_list [] (filter k.fits (map f (take i s))) (filter k.fits (x ∷ []))
      ∙ go (k.fits x) (raised k w (take i s)) x
    where
      go : (b : Bool) (seen : List (List ℕ)) (x : List ℕ) → noted_all same_list seen (cond b (x ∷ []) []) ≡ cond b (noted same_list seen x) seen
      go true seen x = refl
      go false seen x = refl

  pub raised_prefix : (w : List ℕ) (i : ℕ) (s : List (List ℕ)) → (more : List (List ℕ)) × (raised k w s ≡ raised k w (take i s) ++ more)
  raised_prefix w i s =
      let f : List ℕ → List ℕ = λ a. k.plus a w in
      let kept = noted_all_keeps same_list (raised k w (take i s)) (sums w (drop i s)) in (
        kept.0,
        ap (λ (l : List (List ℕ)). distinct same_list (filter k.fits (map f l))) (sym (take-append-drop i s))
            ∙ ap (λ (l : List (List ℕ)). distinct same_list (filter k.fits l)) (map-append f (take i s) (drop i s))
            ∙ ap (distinct same_list) (filter-append k.fits (map f (take i s)) (map f (drop i s)))
            ∙ noted_all_append same_list [] (sums w (take i s)) (sums w (drop i s)) ∙ kept.1,
      )

  -- the end of a take arc, found among the nodes so far, is final
  pub raised_found : (w : List ℕ) (i : ℕ) (s : List (List ℕ)) (x : List ℕ) → has same_list x (raised k w (take i s)) ≡ true → place x (raised k w s) ≡ place x (raised k w (take i s))
  raised_found w i s x h =
      let p = raised_prefix w i s in
      ap (index same_list x) p.1 ∙ index_append same_list x (raised k w (take i s)) p.0 h

  pub length_raised : (w : List ℕ) (i : ℕ) (s : List (List ℕ)) → length (raised k w (take i s)) ≤ length (raised k w s)
  length_raised w i s = let p = raised_prefix w i s in omega (arith, ap length p.1 ∙ length-append (raised k w (take i s)) p.0)

  -- the station with c copies more than s
  abbrev pub stage : List ℕ → ℕ → List (List ℕ) → List (List ℕ)
  stage w zero s = s
  stage w (suc c) s = stage w c (raised k w s)

  pub stage_more : (w : List ℕ) (c : ℕ) (s : List (List ℕ)) → stage w (suc c) s ≡ raised k w (stage w c s)
  stage_more w zero s = refl
  stage_more w (suc c) s = stage_more w c (raised k w s)

  -- one station more, at the end
  pub layer_more : (w : List ℕ) (b : ℕ) (s : List (List ℕ)) → layer k w (suc b) s ≡ layer k w b s ++ stage w (suc b) s
  layer_more w zero s = refl
  layer_more w (suc b) s =
      ap (λ (l : List (List ℕ)). s ++ l) (layer_more w b (raised k w s)) ∙ sym (append_assoc s (layer k w b (raised k w s)) (stage w (suc b) (raised k w s)))

  -- the rows of b stations, from station (i, c) on, with their take arcs
  abbrev pub taking_rows : List ℕ → (List ℕ → Option ℕ) → ℕ → ℕ → ℕ → ℕ → List (List ℕ) → List Row
  taking_rows w pass i c zero o s = []
  taking_rows w pass i c (suc b) o s =
      map (row_taking k w pass i c (o + length s) (raised k w s)) s ++ taking_rows w pass i (suc c) b (o + length s) (raised k w s)

  -- before its last copy is taken an item has the take arcs of all stations but the last
  pub item_rows_is : (w : List ℕ) (pass : List ℕ → Option ℕ) (i c b o : ℕ) (s : List (List ℕ))
      → item_rows k w pass i c b o s ≡ taking_rows w pass i c b o s ++ map (λ a. row i (c + b) None (pass a)) (stage w b s)
  item_rows_is w pass i c zero o s = ap (λ (n : ℕ). map (λ a. row i n None (pass a)) s) (omega arith)
  item_rows_is w pass i c (suc b) o s =
      let here = map (row_taking k w pass i c (o + length s) (raised k w s)) s in
      let deep = taking_rows w pass i (suc c) b (o + length s) (raised k w s) in
      ap (λ (l : List Row). here ++ l) (item_rows_is w pass i (suc c) b (o + length s) (raised k w s))
      ∙ ap (λ (n : ℕ). here ++ (deep ++ map (λ a. row i n None (pass a)) (stage w b (raised k w s)))) (omega arith)
      ∙ sym (append_assoc here deep (map (λ a. row i (c + suc b) None (pass a)) (stage w b (raised k w s))))

  -- one station more gets its take arcs: the next one begins where the layer so far ends
  pub taking_rows_more : (w : List ℕ) (pass : List ℕ → Option ℕ) (i c b o : ℕ) (s : List (List ℕ))
      → taking_rows w pass i c (suc b) o s
      ≡ taking_rows w pass i c b o s ++ map (row_taking k w pass i (c + b) (o + length (layer k w b s)) (stage w (suc b) s)) (stage w b s)
  taking_rows_more w pass i c zero o s =
      append-nil (map (row_taking k w pass i c (o + length s) (raised k w s)) s)
      ∙ ap (λ (n : ℕ). map (row_taking k w pass i n (o + length s) (raised k w s)) s) (omega arith)
  taking_rows_more w pass i c (suc b) o s =
      let r = raised k w s in
      let here = map (row_taking k w pass i c (o + length s) r) s in
      let deep = taking_rows w pass i (suc c) b (o + length s) r in
      let long : o + length s + length (layer k w b r) ≡ o + length (s ++ layer k w b r) = omega (arith, length-append s (layer k w b r)) in
      ap (λ (l : List Row). here ++ l) (taking_rows_more w pass i (suc c) b (o + length s) r)
      ∙ ap (λ (n : ℕ). here ++ (deep ++ map (row_taking k w pass i n (o + length s + length (layer k w b r)) (stage w (suc b) r)) (stage w b r))) (omega arith)
      ∙ ap (λ (n : ℕ). here ++ (deep ++ map (row_taking k w pass i (c + suc b) n (stage w (suc b) r)) (stage w b r))) long
      ∙ sym (append_assoc here deep (map (row_taking k w pass i (c + suc b) (o + length (s ++ layer k w b r)) (stage w (suc b) r)) (stage w b r)))
