-- Arcs led one after the other: one node more.
use Rattle.std.proofs.Common.{◌≡◌, ℕ, zero, suc, ◌+◌, ◌-◌, ◌<◌, ◌≤◌, Bool, true, false, cond, List, [], ◌∷◌, ◌++◌, map, length, get_or, take, drop, set, Some, None, Option, sym, refl, ap, ◌∙◌, arith, length-append, length-drop, take-append-drop}
use lib.ListN.{length-map}
use Rattle.std.proofs.lemmas.List.{append_assoc, append-nil, map-append, take_more, take_at, drop_at, length-take-le, set-append_left, set-append_right, get_or_append_left, get_or-append_right, set-get_or}
use Rattle.std.proofs.lemmas.Bool.{or_right}
use Rattle.lists.specs.Entries.{entries}
use Rattle.graph.specs.declared.Row.{Row}
use Rattle.packing.specs.Distinct.{has, index, noted, noted_all, distinct, same_list}
use Rattle.graph.specs.Graph.{at, blank}
use Rattle.graph.specs.Compiled.{place}
use Rattle.packing.proofs.Distinct.{noted_all_append, noted_all_keeps, index_append, has_noted, same_self, decides_same_list}
use Rattle.compile.specs.declared.draft.Draft.{Draft}
use Rattle.compile.specs.Drafts.{Short, amounts}
use Rattle.compile.specs.Nodes.{Noted}
use Rattle.compile.specs.Arcs.{listed, all_wanted, ends, arc, led_to, linked, Linked, Led, Lacking}

module _ (put : ℕ → Row → Row) (to : List ℕ → Option ℕ) where
  pub length_linked : (j : ℕ) (rs : List Row) (xs : List (List ℕ)) → length (linked put to j rs xs) ≡ length rs
  length_linked zero rs xs = refl
  length_linked (suc j) [] xs = refl
  length_linked (suc j) (r ∷ rs) [] = refl
  length_linked (suc j) (r ∷ rs) (x ∷ xs) = ap suc (length_linked j rs xs)

  -- one more row gets its arc
  pub linked_more : (j : ℕ) (rs : List Row) (xs : List (List ℕ)) (d : Row) → j < length rs → j < length xs
      → linked put to (suc j) rs xs ≡ set (linked put to j rs xs) j (led_to put (to (get_or xs j [])) (get_or (linked put to j rs xs) j d))
  linked_more j [] xs d p q = absurd (omega arith)
  linked_more j (r ∷ rs) [] d p q = absurd (omega arith)
  linked_more zero (r ∷ rs) (x ∷ xs) d p q = refl
  linked_more (suc j) (r ∷ rs) (x ∷ xs) d p q = ap (λ (l : List Row). led_to put (to x) r ∷ l) (linked_more j rs xs d (omega arith) (omega arith))

module _ (wanted : List ℕ → Option (List ℕ)) where
  all_wanted_append : (xs ys : List (List ℕ)) → all_wanted wanted (xs ++ ys) ≡ all_wanted wanted xs ++ all_wanted wanted ys
  all_wanted_append [] ys = refl
  all_wanted_append (x ∷ xs) ys =
      ap (λ (l : List (List ℕ)). listed (wanted x) ++ l) (all_wanted_append xs ys)
      ∙ sym (append_assoc (listed (wanted x)) (all_wanted wanted xs) (all_wanted wanted ys))

  ends_append : (xs ys : List (List ℕ)) → ends wanted (xs ++ ys) ≡ noted_all same_list (ends wanted xs) (all_wanted wanted ys)
  ends_append xs ys = ap (distinct same_list) (all_wanted_append xs ys) ∙ noted_all_append same_list [] (all_wanted wanted xs) (all_wanted wanted ys)

  pub ends_more : (s : List (List ℕ)) (j : ℕ) → j < length s → ends wanted (take (j + 1) s) ≡ noted_all same_list (ends wanted (take j s)) (listed (wanted (get_or s j [])))
  ends_more s j lt =
      ap (ends wanted) (take_more s j [] lt) ∙ ends_append (take j s) (get_or s j [] ∷ [])
      ∙ ap (noted_all same_list (ends wanted (take j s))) (append-nil (listed (wanted (get_or s j []))))

  pub ends_prefix : (j : ℕ) (s : List (List ℕ)) → (more : List (List ℕ)) × (ends wanted s ≡ ends wanted (take j s) ++ more)
  ends_prefix j s =
      let kept = noted_all_keeps same_list (ends wanted (take j s)) (all_wanted wanted (drop j s)) in
      (kept.0, ap (ends wanted) (sym (take-append-drop j s)) ∙ ends_append (take j s) (drop j s) ∙ kept.1)

  module _ (s : List (List ℕ)) (j : ℕ) (lt : j < length s) (x : List ℕ) (is : wanted (get_or s j []) ≡ Some x) where
    -- the station so far, with x
    pub ends_some : ends wanted (take (j + 1) s) ≡ noted same_list (ends wanted (take j s)) x
    ends_some = ends_more s j lt ∙ ap (λ (o : Option (List ℕ)). noted_all same_list (ends wanted (take j s)) (listed o)) is

    -- and x keeps its place
    pub ends_place : place x (ends wanted s) ≡ index same_list x (noted same_list (ends wanted (take j s)) x)
    ends_place =
        let seen = ends wanted (take j s) in
        let p = ends_prefix (j + 1) s in
        let there : has same_list x (noted same_list seen x) ≡ true =
        has_noted same_list x seen x decides_same_list ∙ or_right (has same_list x seen) (same_list x x) (same_self same_list decides_same_list x) in
        ap (index same_list x) (p.1 ∙ ap (λ (l : List (List ℕ)). l ++ p.0) ends_some) ∙ index_append same_list x (noted same_list seen x) p.0 there

    pub ends_longer : has same_list x (ends wanted (take j s)) ≡ false → length (ends wanted (take j s)) < length (ends wanted s)
    ends_longer h =
        let seen = ends wanted (take j s) in
        let p = ends_prefix (j + 1) s in
        let next : ends wanted (take (j + 1) s) ≡ seen ++ x ∷ [] = ends_some ∙ ap (λ (b : Bool). cond b seen (seen ++ x ∷ [])) h in
        omega (arith, ap length p.1 ∙ length-append (ends wanted (take (j + 1) s)) p.0, ap length next ∙ length-append seen (x ∷ []))

  pub ends_none : (s : List (List ℕ)) (j : ℕ) → j < length s → wanted (get_or s j []) ≡ None → ends wanted (take (j + 1) s) ≡ ends wanted (take j s)
  ends_none s j lt is = ends_more s j lt ∙ ap (λ (o : Option (List ℕ)). noted_all same_list (ends wanted (take j s)) (listed o)) is

module _ (put : ℕ → Row → Row) (wanted : List ℕ → Option (List ℕ)) (q : Row) (low : ℕ) (rs : List Row) (xs : List (List ℕ))
    (within : low ≤ length xs) (paired : length rs ≡ length xs) where
  abbrev station : List (List ℕ)
  station = drop low xs

  abbrev to : List ℕ → Option ℕ
  to = arc wanted (length xs) (ends wanted station)

  -- the rows of the nodes that were there before
  abbrev front : ℕ → List Row
  front j = take low rs ++ linked put to j (drop low rs) station

  length_front : (j : ℕ) → length (front j) ≡ length xs
  length_front j =
      length-append (take low rs) (linked put to j (drop low rs) station)
      ∙ omega (arith, length_linked put to j (drop low rs) station, length-take-le low rs (omega arith), length-drop low rs)

  front_more : (j : ℕ) → j < length station
      → front (j + 1) ≡ set (front j) (low + j) (led_to put (to (get_or station j [])) (get_or (front j) (low + j) blank))
  front_more j lt =
      let ls = linked put to j (drop low rs) station in
      let long : length (take low rs) ≡ low = length-take-le low rs (omega arith) in
      let back : low + j - low ≡ j = omega arith in
      let here : get_or (front j) (low + j) blank ≡ get_or ls j blank =
      get_or-append_right (take low rs) ls low (low + j) blank long (omega arith) ∙ ap (λ (n : ℕ). get_or ls n blank) back in
      let r = led_to put (to (get_or station j [])) (get_or (front j) (low + j) blank) in
      let one : j + 1 ≡ suc j = omega arith in
      ap front one
      ∙ ap (λ (l : List Row). take low rs ++ l)
      (linked_more put to j (drop low rs) station blank (omega (arith, length-drop low rs, length-drop low xs, lt)) lt
      ∙ ap (λ (p : Row). set ls j (led_to put (to (get_or station j [])) p)) (sym here)
      ∙ ap (λ (n : ℕ). set ls n r) (sym back))
      ∙ sym (set-append_right (take low rs) ls low (low + j) r long (omega arith))

  module _ (qs : List Row) (ys : List (List ℕ)) (j : ℕ) (so_far : Linked put wanted q low rs qs xs ys j) where
    abbrev seen : List (List ℕ)
    seen = ends wanted (take j station)

    pub linked_length : length ys ≡ length xs + length seen
    linked_length = ap length so_far.amounts ∙ length-append xs seen

    -- the nodes that were there before keep their amounts
    pub linked_amount : (n : ℕ) (d : List ℕ) → n < length xs → get_or ys n d ≡ get_or xs n d
    linked_amount n d lt = ap (λ (l : List (List ℕ)). get_or l n d) so_far.amounts ∙ get_or_append_left xs seen d n lt

    past : drop (length xs) ys ≡ seen
    past = ap (drop (length xs)) so_far.amounts ∙ drop_at xs seen (length xs) refl

    before : take (length xs) ys ≡ xs
    before = ap (take (length xs)) so_far.amounts ∙ take_at xs seen (length xs) refl

    module _ (lt : j < length station) where
      linked_none : (ps : List Row) (zs : List (List ℕ)) → wanted (get_or station j []) ≡ None → ps ≡ qs → zs ≡ ys → Linked put wanted q low rs ps xs zs (j + 1)
      linked_none ps zs is e f =
          let same : ends wanted (take (j + 1) station) ≡ seen = ends_none wanted station j lt is in
          let kept : front (j + 1) ≡ front j =
          front_more j lt ∙ rw is (set-get_or (front j) (low + j) blank) in
          record {
            amounts = f ∙ so_far.amounts ∙ rw same refl;
            rows = e ∙ so_far.rows ∙ rw (kept, same) refl;
          }

      linked_some : (x : List ℕ) (ms ps : List Row) (zs : List (List ℕ)) (t : ℕ) → wanted (get_or station j []) ≡ Some x → Noted qs ms ys zs (length xs) x q t
          → ps ≡ set ms (low + j) (put t (at ms (low + j))) → Linked put wanted q low rs ps xs zs (j + 1)
      linked_some x ms ps zs t is found e =
          let next : ends wanted (take (j + 1) station) ≡ noted same_list seen x = ends_some wanted station j lt x is in
          let news = map (λ (_ : List ℕ). q) (noted same_list seen x) in
          let inside : low + j < length (front j) = omega (arith, length_front j, length-drop low xs, lt) in
          let grown : ms ≡ front j ++ news =
          found.rows ∙ rw (past, so_far.rows) (pushed (has same_list x seen)) in
          let row_is : at ms (low + j) ≡ get_or (front j) (low + j) blank = rw grown (get_or_append_left (front j) news blank (low + j) inside) in
          let end : t ≡ length xs + place x (ends wanted station) =
          found.place ∙ rw (past, ends_place wanted station j lt x is) refl in
          let put_is : put t (at ms (low + j)) ≡ led_to put (to (get_or station j [])) (get_or (front j) (low + j) blank) =
          rw (end, row_is, is) refl in
          record {
            amounts = found.amounts ∙ rw (before, past, next) refl;
            rows = e ∙ rw (put_is, grown, next, front_more j lt) (set-append_left (front j) news (low + j) _ inside);
          }
        where
          pushed : (b : Bool) → cond b (front j ++ map (λ _. q) seen) ((front j ++ map (λ _. q) seen) ++ q ∷ []) ≡ front j ++ map (λ _. q) (cond b seen (seen ++ x ∷ []))
          pushed true = refl
          pushed false =
              simp (append_assoc, map-append)

      pub linked_step : (o : Option (List ℕ)) (n : ℕ) (ps : List Row) (zs : List (List ℕ)) → wanted (get_or station j []) ≡ o → n ≡ low + j
          → Led put o q (length xs) n qs ps ys zs → Linked put wanted q low rs ps xs zs (j + 1)
      linked_step None n ps zs is at_n led = linked_none ps zs is led.0 led.1
      linked_step (Some x) n ps zs is at_n led =
          linked_some x led.0 ps zs led.1.0 is led.1.1.0 (led.1.1.1 ∙ ap (λ (i : ℕ). set led.0 i (put led.1.0 (at led.0 i))) at_n)

      -- where there is no room for the next node, there is none for the whole
      pub linked_short : {L : Type 0} (f : L → List ℕ) (c : Draft L) (o : Option (List ℕ)) → wanted (get_or station j []) ≡ o → ys ≡ amounts f c → Lacking f o (length xs) c
          → Short c (length xs + length (ends wanted station))
      linked_short f c None is e lacking = absurd lacking
      linked_short f c (Some x) is e lacking =
          let longer = ends_longer wanted station j lt x is (ap (has same_list x) (sym past ∙ ap (drop (length xs)) e) ∙ lacking.0) in
          let long : length (entries c.loads) ≡ length ys = sym (ap length e ∙ length-map (entries c.loads) f) in
          λ a b. lacking.1 (omega (arith, longer, linked_length, long)) (omega (arith, longer, linked_length, long))
