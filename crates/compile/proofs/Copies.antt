-- The stations of one item, built one after the other.
use Rattle.std.proofs.Common.{◌≡◌, ℕ, zero, suc, ◌+◌, ◌-◌, ◌<◌, ◌≤◌, Bool, true, false, cond, List, [], ◌∷◌, ◌++◌, map, length, take, drop, Some, None, filter, Option, sym, refl, ap, ◌∙◌, subst, arith, length-append}
use lib.ListN.{length-map}
use Rattle.std.specs.Option.{option_map}
use Rattle.std.specs.Bool.{then_some}
use Rattle.std.proofs.lemmas.List.{append_assoc, append-nil, take_all, take_at, drop_at, length-take-le}
use Rattle.limits.specs.Meaning.{Meaning, joined}
use Rattle.graph.specs.declared.Row.{Row}
use Rattle.packing.specs.Distinct.{distinct, same_list}
use Rattle.graph.specs.Graph.{row}
use Rattle.graph.specs.Compiled.{place, raised, layer, row_taking, item_rows}
use Rattle.graph.proofs.Steps.{stage, stage_more, layer_more, taking_rows, taking_rows_more, item_rows_is}
use Rattle.graph.proofs.Room.{layer_prefix, prefix_length}
use Rattle.compile.specs.Steps.{taking}
use Rattle.compile.specs.Arcs.{listed, all_wanted, ends, arc, led_to, linked, Linked}

pub map_same : {X Y : Type 0} (f g : X → Y) → ((x : X) → f x ≡ g x) → (xs : List X) → map f xs ≡ map g xs
map_same f g same [] = refl
map_same {X} {Y} f g same (x ∷ xs) = ap (λ (y : Y). y ∷ map f xs) (same x) ∙ ap (λ (ys : List Y). g x ∷ ys) (map_same f g same xs)

-- arcs from rows that are given by the amounts
pub linked_map : (put : ℕ → Row → Row) (to : List ℕ → Option ℕ) (h : List ℕ → Row) (s : List (List ℕ))
    → linked put to (length s) (map h s) s ≡ map (λ a. led_to put (to a) (h a)) s
linked_map put to h [] = refl
linked_map put to h (a ∷ s) = ap (λ (l : List Row). led_to put (to a) (h a) ∷ l) (linked_map put to h s)

module _ (k : Meaning) (w : List ℕ) where
  abbrev sum_of : List ℕ → Option (List ℕ)
  sum_of a = joined k a w

  -- the station to which the take arcs lead is the next one
  pub ends_raised : (s : List (List ℕ)) → ends sum_of s ≡ raised k w s
  ends_raised s = ap (distinct same_list) (go s)
    where
      one : (b : Bool) (x : List ℕ) (xs : List (List ℕ)) → listed (then_some b x) ++ xs ≡ cond b (x ∷ xs) xs
      one true x xs = refl
      one false x xs = refl

      go : (s : List (List ℕ)) → all_wanted sum_of s ≡ filter k.fits (map (λ a. k.plus a w) s)
      go [] = refl
      go (a ∷ s) = ap (λ (l : List (List ℕ)). listed (sum_of a) ++ l) (go s) ∙ one (k.fits (k.plus a w)) (k.plus a w) (filter k.fits (map (λ a. k.plus a w) s))

  -- the arc's end is that of the definition
  taken_row : (i c o : ℕ) (t : List (List ℕ)) (a : List ℕ) → led_to taking (arc sum_of o t a) (row i c None None) ≡ row_taking k w (λ _. None) i c o t a
  taken_row i c o t a = go (k.fits (k.plus a w)) (k.plus a w)
    where
      go : (b : Bool) (x : List ℕ) → led_to taking (option_map (λ y. o + place y t) (then_some b x)) (row i c None None) ≡ row i c (cond b (Some (o + place x t)) None) None
      go true x = refl
      go false x = refl

  -- the amounts of the first c stations
  abbrev pub lower : ℕ → List (List ℕ) → List (List ℕ)
  lower zero s = []
  lower (suc c) s = s ++ lower c (raised k w s)

  pub lower_stage : (c : ℕ) (s : List (List ℕ)) → lower c s ++ stage k w c s ≡ layer k w c s
  lower_stage zero s = refl
  lower_stage (suc c) s = append_assoc s (lower c (raised k w s)) (stage k w c (raised k w s)) ∙ ap (λ (l : List (List ℕ)). s ++ l) (lower_stage c (raised k w s))

  pub lower_more : (c : ℕ) (s : List (List ℕ)) → lower (suc c) s ≡ lower c s ++ stage k w c s
  lower_more zero s = append-nil s
  lower_more (suc c) s =
      ap (λ (l : List (List ℕ)). s ++ l) (lower_more c (raised k w s)) ∙ sym (append_assoc s (lower c (raised k w s)) (stage k w c (raised k w s)))

  length_taking : (pass : List ℕ → Option ℕ) (i c b o : ℕ) (s : List (List ℕ)) → length (taking_rows k w pass i c b o s) ≡ length (lower b s)
  length_taking pass i c zero o s = refl
  length_taking pass i c (suc b) o s =
      let here = map (row_taking k w pass i c (o + length s) (raised k w s)) s in
      length-append here (taking_rows k w pass i (suc c) b (o + length s) (raised k w s))
      ∙ omega (
        arith,
        length-map s (row_taking k w pass i c (o + length s) (raised k w s)),
        length_taking pass i (suc c) b (o + length s) (raised k w s),
        length-append s (lower b (raised k w s)),
      )

  module _ (i low : ℕ) (rs : List Row) (xs : List (List ℕ)) where
    abbrev station : List (List ℕ)
    station = drop low xs

    -- the rows of c stations that have their take arcs
    abbrev done : ℕ → List Row
    done c = taking_rows k w (λ _. None) i 0 c low station

    -- Station c, which begins at `from`, is there without arcs.
    pub record Copies (qs : List Row) (ys : List (List ℕ)) (c from : ℕ) : Type 0 where
      pub begins : from ≡ low + length (lower c station)
      pub amounts : ys ≡ take low xs ++ (lower c station ++ stage k w c station)
      pub rows : qs ≡ take low rs ++ (done c ++ map (λ _. row i c None None) (stage k w c station))

    module _ (within : low ≤ length xs) (paired : length rs ≡ length xs) where
      module _ (qs : List Row) (ys : List (List ℕ)) (c from : ℕ) (so_far : Copies qs ys c from) where
        abbrev here : List (List ℕ)
        here = stage k w c station

        length_xs : length (take low xs) ≡ low
        length_xs = length-take-le low xs within

        length_rs : length (take low rs) ≡ low
        length_rs = length-take-le low rs (omega (arith, paired))

        pub copies_length : length ys ≡ from + length here
        copies_length =
            ap length so_far.amounts ∙ length-append (take low xs) (lower c station ++ here)
            ∙ omega (arith, length_xs, length-append (lower c station) here, so_far.begins)

        last_amounts : drop from ys ≡ here
        last_amounts =
            ap (drop from) (so_far.amounts ∙ sym (append_assoc (take low xs) (lower c station) here))
            ∙ drop_at (take low xs ++ lower c station) here from (length-append (take low xs) (lower c station) ∙ omega (arith, length_xs, so_far.begins))

        lower_rows : qs ≡ (take low rs ++ done c) ++ map (λ _. row i c None None) here
        lower_rows = so_far.rows ∙ sym (append_assoc (take low rs) (done c) (map (λ _. row i c None None) here))

        length_lower : length (take low rs ++ done c) ≡ from
        length_lower = length-append (take low rs) (done c) ∙ omega (arith, length_rs, length_taking (λ _. None) i 0 c low station, so_far.begins)

        last_rows : drop from qs ≡ map (λ _. row i c None None) here
        last_rows = ap (drop from) lower_rows ∙ drop_at (take low rs ++ done c) (map (λ _. row i c None None) here) from length_lower

        first_rows : take from qs ≡ take low rs ++ done c
        first_rows = ap (take from) lower_rows ∙ take_at (take low rs ++ done c) (map (λ _. row i c None None) here) from length_lower

        next_stage : ends sum_of here ≡ stage k w (suc c) station
        next_stage = ends_raised here ∙ sym (stage_more k w c station)

        -- so many nodes there are with the next station
        pub copies_next : length ys + length (ends sum_of (drop from ys)) ≡ low + length (layer k w (suc c) station)
        copies_next =
            omega (
              arith,
              copies_length,
              so_far.begins,
              ap (λ (l : List (List ℕ)). length (ends sum_of l)) last_amounts ∙ ap length next_stage,
              ap length (layer_more k w c station) ∙ length-append (layer k w c station) (stage k w (suc c) station),
              ap length (sym (lower_stage c station)) ∙ length-append (lower c station) here,
            )

        pub copies_more : (ps : List Row) (zs : List (List ℕ)) (n : ℕ) → n ≡ length ys → Linked taking sum_of (row i (suc c) None None) from qs ps ys zs (n - from) → Copies ps zs (suc c) n
        copies_more ps zs n long made =
            let t = stage k w (suc c) station in
            let count : n - from ≡ length here = omega (arith, long, copies_length) in
            let whole : take (n - from) (drop from ys) ≡ here =
            ap (take (n - from)) last_amounts ∙ take_all (n - from) here (omega (arith, count)) in
            let new : ends sum_of (take (n - from) (drop from ys)) ≡ t = ap (ends sum_of) whole ∙ next_stage in
            let q = row i (suc c) None None in
            let o : length ys ≡ low + length (layer k w c station) =
            omega (arith, copies_length, so_far.begins, ap length (sym (lower_stage c station)) ∙ length-append (lower c station) here) in
            let to_is : ends sum_of (drop from ys) ≡ t = ap (ends sum_of) last_amounts ∙ next_stage in
            let arcs : linked taking (arc sum_of (length ys) (ends sum_of (drop from ys))) (n - from) (drop from qs) (drop from ys)
            ≡ map (row_taking k w (λ _. None) i c (low + length (layer k w c station)) t) here =
            rw (to_is, o, count, last_rows, last_amounts)
            (linked_map taking (arc sum_of (low + length (layer k w c station)) t) (λ _. row i c None None) here
            ∙ map_same (λ a. led_to taking (arc sum_of (low + length (layer k w c station)) t a) (row i c None None)) (row_taking k w (λ _. None) i c (low + length (layer k w c station)) t)
            (taken_row i c (low + length (layer k w c station)) t) here) in
            let zero-add : 0 + c ≡ c = omega arith in
            let more : done (suc c) ≡ done c ++ map (row_taking k w (λ _. None) i c (low + length (layer k w c station)) t) here =
            taking_rows_more k w (λ _. None) i 0 c low station
            ∙ rw zero-add refl in
            record {
              begins = long ∙ copies_length ∙ omega (arith, so_far.begins, ap length (lower_more c station) ∙ length-append (lower c station) here);
              amounts = made.amounts ∙ ap (λ (l : List (List ℕ)). ys ++ l) new ∙ ap (λ (l : List (List ℕ)). l ++ t) so_far.amounts
                  ∙ append_assoc (take low xs) (lower c station ++ here) t ∙ ap (λ (l : List (List ℕ)). take low xs ++ (l ++ t)) (sym (lower_more c station));
              rows = made.rows ∙ rw (new, arcs, first_rows, more)
                  (simp append_assoc);
            }

        pub copies_end : (b : ℕ) → c ≡ b → (ys ≡ take low xs ++ layer k w b station) × (qs ≡ take low rs ++ item_rows k w (λ _. None) i 0 b low station)
        copies_end b e =
            let zero-add : 0 + c ≡ c = omega arith in
            subst (λ (n : ℕ). (ys ≡ take low xs ++ layer k w n station) × (qs ≡ take low rs ++ item_rows k w (λ _. None) i 0 n low station)) e (
              so_far.amounts ∙ ap (λ (l : List (List ℕ)). take low xs ++ l) (lower_stage c station),
              so_far.rows ∙ ap (λ (n : ℕ). take low rs ++ (done c ++ map (λ _. row i n None None) here)) (sym zero-add)
                  ∙ ap (λ (l : List Row). take low rs ++ l) (sym (item_rows_is k w (λ _. None) i 0 c low station)),
            )

      -- an earlier station ends no later
      pub copies_within : (c b : ℕ) → c < b → low + length (layer k w (suc c) station) ≤ low + length (layer k w b station)
      copies_within c b lt =
          let e : b - suc c + suc c ≡ b = omega (arith, lt) in
          let longer = prefix_length (layer k w (suc c) station) (layer k w (b - suc c + suc c) station) (layer_prefix k w (suc c) (b - suc c) station) in
          omega (arith, longer, ap (λ (n : ℕ). length (layer k w n station)) e)
