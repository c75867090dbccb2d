-- A compiled graph has the shape of a graph for its items.
use Rattle.std.proofs.Common.{◌≡◌, ℕ, zero, suc, ◌+◌, ◌<◌, ◌≤◌, Bool, true, false, List, [], ◌∷◌, ◌++◌, map, length, is_some, Some, None, Option, sym, refl, ap, ◌∙◌, subst, inl, inr, arith, length-append}
use lib.ListN.{length-map}
use Rattle.std.specs.List.{AllByRecursion}
use Rattle.std.proofs.lemmas.List.{append_assoc, get_or_append_left, get_or_at}
use Rattle.std.proofs.ByRecursion.{All-append, All-get_or, All-weaker}
use Rattle.std.proofs.lemmas.Bool.{or_left, or_right, cases_lt}
use Rattle.graph.specs.declared.Row.{Row}
use Rattle.packing.specs.Distinct.{same_list}
use Rattle.limits.specs.Meaning.{Meaning}
use Rattle.packing.specs.Packing.{Item}
use Rattle.graph.specs.Graph.{row, blank, at, Layered}
use Rattle.graph.specs.Compiled.{place, entry, pass_end, row_taking, raised, layer, after, take_end, item_rows, rows_from, compiled}
use Rattle.packing.proofs.Distinct.{decides_same_list, has_append, has_distinct, index_lt}
use Rattle.packing.proofs.Options.{some≢none, unsome}
use Rattle.graph.proofs.Reduce.{pass_in_range, take_in_range}
use Rattle.graph.proofs.Language.{holds, row_at, holds_raised, length_item_rows, length_layer, some_rows}

-- rows by the order of their stations
abbrev Upto : Row → Row → Type 0
Upto r q = (r.item ≤ q.item) × (r.item ≡ q.item → r.copies ≤ q.copies)

abbrev Sorted : List Row → Type 0
Sorted [] = Unit {0}
Sorted (r ∷ rs) = AllByRecursion (Upto r) rs × Sorted rs

sorted_append : (P Q : Row → Type 0) → ((r q : Row) → P r → Q q → Upto r q) → (xs ys : List Row) → AllByRecursion P xs → AllByRecursion Q ys → Sorted xs → Sorted ys → Sorted (xs ++ ys)
sorted_append P Q upto [] ys ps qs a b = b
sorted_append P Q upto (x ∷ xs) ys ps qs a b = (
  All-append (Upto x) xs ys a.0 (All-weaker Q (Upto x) (λ q h. upto x q ps.0 h) ys qs),
  sorted_append P Q upto xs ys ps.1 qs a.1 b,
)

-- rows of one station
abbrev In : ℕ → ℕ → Row → Type 0
In i c r = (r.item ≡ i) × (r.copies ≡ c)

sorted_stage : (i c : ℕ) (xs : List Row) → AllByRecursion (In i c) xs → Sorted xs
sorted_stage i c [] h = tt
sorted_stage i c (x ∷ xs) h =
    (All-weaker (In i c) (Upto x) (λ q k. (omega (arith, h.0.0, k.0), λ e. omega (arith, h.0.1, k.1))) xs h.1, sorted_stage i c xs h.1)

sorted_at : (xs : List Row) → Sorted xs → (n t : ℕ) → n < t → t < length xs → Upto (at xs n) (at xs t)
sorted_at [] s n t lt in_range = absurd (omega arith)
sorted_at (x ∷ xs) s n zero lt in_range = absurd (omega arith)
sorted_at (x ∷ xs) s zero (suc t) lt in_range = All-get_or (Upto x) xs t blank (omega arith) s.0
sorted_at (x ∷ xs) s (suc n) (suc t) lt in_range = sorted_at xs s.1 n t (omega arith) (omega arith)

all_stage : (P : Row → Type 0) (f : List ℕ → Row) (s : List (List ℕ)) → ((a : List ℕ) → holds a s ≡ true → P (f a)) → AllByRecursion P (map f s)
all_stage P f [] h = tt
all_stage P f (a ∷ s) h = (
  h a (or_left (same_list a a) (holds a s) ((decides_same_list a a).1 refl)),
  all_stage P f s (λ b q. h b (or_right (same_list b a) (holds b s) q)),
)

-- the arcs of a row lead into the graph, to the stations where they should
pub record Led (g : List Row) (r : Row) : Type 0 where
  pub passed : (t : ℕ) → r.pass ≡ Some t → (t < length g) × ((at g t).item ≡ suc r.item) × ((at g t).copies ≡ 0)
  pub taken : (t : ℕ) → r.take ≡ Some t → (t < length g) × ((at g t).item ≡ r.item) × ((at g t).copies ≡ suc r.copies)

module _ (k : Meaning) where
  -- the node with amount a of a station
  stage_row : (w : List ℕ) (pass : List ℕ → Option ℕ) (i c b o : ℕ) (s : List (List ℕ)) (g front back : List Row)
      → length front ≡ o → g ≡ front ++ (item_rows k w pass i c b o s ++ back) → (a : List ℕ) → holds a s ≡ true
      → (o + place a s < length g) × In i c (at g (o + place a s))
  stage_row w pass i c b o s g front back long is a h = (
    omega (
      arith,
      long,
      ap length is ∙ length-append front (item_rows k w pass i c b o s ++ back),
      length-append (item_rows k w pass i c b o s) back,
      length_item_rows k w pass i c b o s,
      length_layer k w b s,
      index_lt same_list a s h,
    ),
    subst (λ (l : List Row). In i c (at l (o + place a s))) (sym is) (there b),
  )
    where
      there : (b : ℕ) → In i c (at (front ++ (item_rows k w pass i c b o s ++ back)) (o + place a s))
      there zero = let at_a = row_at front (λ z. row i c None (pass z)) s back o a long h in (ap (λ (r : Row). r.item) at_a, ap (λ (r : Row). r.copies) at_a)
      there (suc b) =
          let f : List ℕ → Row = row_taking k w pass i c (o + length s) (raised k w s) in
          let below = item_rows k w pass i (suc c) b (o + length s) (raised k w s) in
          let at_a = ap (λ (l : List Row). at (front ++ l) (o + place a s)) (append_assoc (map f s) below back) ∙ row_at front f s (below ++ back) o a long h in
          (ap (λ (r : Row). r.item) at_a, ap (λ (r : Row). r.copies) at_a)

  entry_row : (items : List Item) (i o : ℕ) (s : List (List ℕ)) (g front : List Row) → length front ≡ o → g ≡ front ++ rows_from k i o s items
      → (a : List ℕ) → holds a s ≡ true → (entry items o s a < length g) × In i 0 (at g (entry items o s a))
  entry_row [] i o s g front long is a h =
      let at_o = ap (λ (l : List Row). at l o) is ∙ get_or_at front (row i 0 None None) [] blank o long in (
        omega (arith, long, ap length is ∙ length-append front (row i 0 None None ∷ [])),
        (ap (λ (r : Row). r.item) at_o, ap (λ (r : Row). r.copies) at_o),
      )
  entry_row (x ∷ xs) i o s g front long is a h =
      let l = length (layer k x.weight x.most s) in
      stage_row x.weight (pass_end xs (o + l) (after k x s)) i 0 x.most o s g front (rows_from k (suc i) (o + l) (after k x s) xs) long is a h

  item_led : (w : List ℕ) (pass : List ℕ → Option ℕ) (i c b o : ℕ) (s : List (List ℕ)) (g front back : List Row)
      → length front ≡ o → g ≡ front ++ (item_rows k w pass i c b o s ++ back)
      → ((a : List ℕ) → holds a (layer k w b s) ≡ true → (t : ℕ) → pass a ≡ Some t → (t < length g) × In (suc i) 0 (at g t))
      → AllByRecursion (Led g) (item_rows k w pass i c b o s)
  item_led w pass i c zero o s g front back long is passes =
      all_stage (Led g) (λ z. row i c None (pass z)) s (λ a h. record {
        passed = λ t e. let p = passes a h t e in (p.0, p.1.0, p.1.1);
        taken = λ t e. absurd (some≢none t (sym e));
      })
  item_led w pass i c (suc b) o s g front back long is passes =
      let t = raised k w s in
      let f : List ℕ → Row = row_taking k w pass i c (o + length s) t in
      let below = item_rows k w pass i (suc c) b (o + length s) t in
      let is' = is ∙ ap (λ (l : List Row). front ++ l) (append_assoc (map f s) below back) ∙ sym (append_assoc front (map f s) (below ++ back)) in
      let long' = length-append front (map f s) ∙ omega (arith, long, length-map s f) in
      All-append (Led g) (map f s) below
      (all_stage (Led g) f s (λ a h. record {
        passed = λ u e. let p = passes a (has_append same_list a s (layer k w b t) ∙ or_left (holds a s) (holds a (layer k w b t)) h) u e in (p.0, p.1.0, p.1.1);
        taken = λ u e. taken_at w pass i c b o s g a (λ fit. stage_row w pass i (suc c) b (o + length s) t g (front ++ map f s) back long' is' (k.plus a w) (holds_raised k w a s fit h)) u e;
      }))
      (item_led w pass i (suc c) b (o + length s) t g (front ++ map f s) back long' is'
      (λ a h. passes a (has_append same_list a s (layer k w b t) ∙ or_right (holds a s) (holds a (layer k w b t)) h)))
    where
      taken_at : (w : List ℕ) (pass : List ℕ → Option ℕ) (i c b o : ℕ) (s : List (List ℕ)) (g : List Row) (a : List ℕ)
          → (k.fits (k.plus a w) ≡ true → (o + length s + place (k.plus a w) (raised k w s) < length g) × In i (suc c) (at g (o + length s + place (k.plus a w) (raised k w s))))
          → (u : ℕ) → take_end k w (o + length s) (raised k w s) a ≡ Some u → (u < length g) × ((at g u).item ≡ i) × ((at g u).copies ≡ suc c)
      taken_at w pass i c b o s g a there u e = go (k.fits (k.plus a w)) refl
        where
          go : (v : Bool) → k.fits (k.plus a w) ≡ v → (u < length g) × ((at g u).item ≡ i) × ((at g u).copies ≡ suc c)
          go true f = let p = there f in
              subst (λ (z : ℕ). (z < length g) × ((at g z).item ≡ i) × ((at g z).copies ≡ suc c)) (unsome _ u (rw f at e)) (p.0, p.1.0, p.1.1)
          go false f = absurd (some≢none u (sym (rw f at e)))

  from_led : (items : List Item) (i o : ℕ) (s : List (List ℕ)) (g front : List Row) → length front ≡ o → g ≡ front ++ rows_from k i o s items → AllByRecursion (Led g) (rows_from k i o s items)
  from_led [] i o s g front long is = (record { passed = λ t e. absurd (some≢none t (sym e)); taken = λ t e. absurd (some≢none t (sym e)) }, tt)
  from_led (x ∷ xs) i o s g front long is =
      let w = x.weight in
      let l = length (layer k w x.most s) in
      let t = after k x s in
      let first = item_rows k w (pass_end xs (o + l) t) i 0 x.most o s in
      let rest = rows_from k (suc i) (o + l) t xs in
      let long' = length-append front first ∙ omega (arith, long, length_item_rows k w (pass_end xs (o + l) t) i 0 x.most o s) in
      let is' = is ∙ sym (append_assoc front first rest) in
      All-append (Led g) first rest
      (item_led w (pass_end xs (o + l) t) i 0 x.most o s g front rest long is
      (λ a h u e. subst (λ (z : ℕ). (z < length g) × In (suc i) 0 (at g z)) (unsome (entry xs (o + l) t a) u e)
      (entry_row xs (suc i) (o + l) t g (front ++ first) long' is' a (has_distinct same_list decides_same_list a (layer k w x.most s) ∙ h))))
      (from_led xs (suc i) (o + l) t g (front ++ first) long' is')

  -- the rows of an item: in rising order of copies, each with a pass arc
  abbrev Of : ℕ → ℕ → Row → Type 0
  Of i c r = (r.item ≡ i) × (c ≤ r.copies) × (is_some r.pass ≡ true)

  item_of : (w : List ℕ) (pass : List ℕ → Option ℕ) → ((a : List ℕ) → is_some (pass a) ≡ true) → (i c b o : ℕ) (s : List (List ℕ)) → AllByRecursion (Of i c) (item_rows k w pass i c b o s) × Sorted (item_rows k w pass i c b o s)
  item_of w pass goes i c zero o s = (
    all_stage (Of i c) (λ z. row i c None (pass z)) s (λ a h. (refl, omega arith, goes a)),
    sorted_stage i c (map (λ z. row i c None (pass z)) s) (all_stage (In i c) (λ z. row i c None (pass z)) s (λ a h. (refl, refl))),
  )
  item_of w pass goes i c (suc b) o s =
      let f : List ℕ → Row = row_taking k w pass i c (o + length s) (raised k w s) in
      let below = item_rows k w pass i (suc c) b (o + length s) (raised k w s) in
      let ih = item_of w pass goes i (suc c) b (o + length s) (raised k w s) in
      let here : AllByRecursion (In i c) (map f s) = all_stage (In i c) f s (λ a h. (refl, refl)) in (
        All-append (Of i c) (map f s) below
            (all_stage (Of i c) f s (λ a h. (refl, omega arith, goes a)))
            (All-weaker (Of i (suc c)) (Of i c) (λ r h. (h.0, omega (arith, h.1), h.2)) below ih.0),
        sorted_append (In i c) (Of i (suc c)) (λ r q a h. (omega (arith, a.0, h.0), λ e. omega (arith, a.1, h.1))) (map f s) below here ih.0
            (sorted_stage i c (map f s) here) ih.1,
      )

  -- the rows from item i on: the target last, and before it the nodes with pass arcs
  abbrev Inner : ℕ → ℕ → Row → Type 0
  Inner i e r = (i ≤ r.item) × (r.item < e) × (is_some r.pass ≡ true)

  record Ends (i : ℕ) (items : List Item) (rows : List Row) : Type 0 where
    init : List Row
    is : rows ≡ init ++ row (i + length items) 0 None None ∷ []
    inner : AllByRecursion (Inner i (i + length items)) init
    sorted : Sorted rows

  from_ends : (items : List Item) (i o : ℕ) (s : List (List ℕ)) → Ends i items (rows_from k i o s items)
  from_ends [] i o s = record { init = []; is = λ j. row (zero_more j) 0 None None ∷ []; inner = tt; sorted = (tt, tt) }
    where
      zero_more : i ≡ i + 0
      zero_more = omega arith
  from_ends (x ∷ xs) i o s =
      let w = x.weight in
      let l = length (layer k w x.most s) in
      let t = after k x s in
      let first = item_rows k w (pass_end xs (o + l) t) i 0 x.most o s in
      let rest = rows_from k (suc i) (o + l) t xs in
      let more = from_ends xs (suc i) (o + l) t in
      let of = item_of w (pass_end xs (o + l) t) (λ a. refl) i 0 x.most o s in
      let last : suc i + length xs ≡ i + suc (length xs) = omega arith in
      let end : Row = row (suc i + length xs) 0 None None in
      record {
        init = first ++ more.init;
        is = ap (λ (q : List Row). first ++ q) more.is ∙ sym (append_assoc first more.init (end ∷ []))
            ∙ ap (λ (n : ℕ). (first ++ more.init) ++ row n 0 None None ∷ []) last;
        inner = All-append (Inner i (i + suc (length xs))) first more.init
            (All-weaker (Of i 0) (Inner i (i + suc (length xs))) (λ r h. (omega (arith, h.0), omega (arith, h.0), h.2)) first of.0)
            (All-weaker (Inner (suc i) (suc i + length xs)) (Inner i (i + suc (length xs))) (λ r h. (omega (arith, h.0), omega (arith, h.1), h.2)) more.init more.inner);
        sorted = sorted_append (Of i 0) (λ q. suc i ≤ q.item) (λ r q a h. (omega (arith, a.0, h), λ e. absurd (omega (arith, a.0, h, e)))) first rest of.0
            (subst (AllByRecursion (λ q. suc i ≤ q.item)) (sym more.is)
            (All-append (λ q. suc i ≤ q.item) more.init (end ∷ [])
            (All-weaker (Inner (suc i) (suc i + length xs)) (λ q. suc i ≤ q.item) (λ r h. h.0) more.init more.inner)
            (omega arith, tt)))
            of.1 more.sorted;
      }

  pub compiled_layered : (items : List Item) → Layered (length items) (compiled k items)
  compiled_layered items = record {
    some_node = some_rows k 1 0 (k.empty ∷ []) items;
    source = subst (λ (n : ℕ). In 1 0 (at g n)) (source_at items) (entry_row items 1 0 (k.empty ∷ []) g [] refl refl k.empty here).1;
    target = λ n last.
        ap (λ (q : List Row). at q n) ends.is
        ∙ get_or_at ends.init (row (1 + length items) 0 None None) [] blank n (omega (arith, last, long))
        ∙ ap (λ (i : ℕ). row i 0 None None) one_more;
    inner = λ n lt.
        let h = All-get_or (Inner 1 (1 + length items)) ends.init n blank (omega (arith, lt, long)) ends.inner in
        let is_n : at g n ≡ at ends.init n =
        ap (λ (q : List Row). at q n) ends.is ∙ get_or_append_left ends.init (row (1 + length items) 0 None None ∷ []) blank n (omega (arith, lt, long)) in
        (omega (arith, ap (λ (r : Row). r.item) is_n, h.1), ap (λ (r : Row). is_some r.pass) is_n ∙ h.2);
    passes = λ n t e. (All-get_or (Led g) g n blank (pass_in_range g n t e) led).passed t e;
    takes = λ n t e. (All-get_or (Led g) g n blank (take_in_range g n t e) led).taken t e;
    by_item = λ n t hn ht lt. elim (cases_lt n t) [
      | inl ok ↦ ok
      | inr le ↦ absurd (backwards n t hn le (λ e. omega (arith, lt, ap (λ (z : ℕ). (at g z).item) e)) (λ u. omega (arith, lt, u.0)))
    ];
    by_copies = λ n t hn ht same lt. elim (cases_lt n t) [
      | inl ok ↦ ok
      | inr le ↦ absurd (backwards n t hn le (λ e. omega (arith, lt, ap (λ (z : ℕ). (at g z).copies) e)) (λ u. omega (arith, lt, u.1 (sym same))))
    ];
  }
    where
      g : List Row
      g = compiled k items

      here : holds k.empty (k.empty ∷ []) ≡ true
      here = or_left (same_list k.empty k.empty) false ((decides_same_list k.empty k.empty).1 refl)

      source_at : (items : List Item) → entry items 0 (k.empty ∷ []) k.empty ≡ 0
      source_at [] = refl
      source_at (x ∷ xs) = rw ((decides_same_list k.empty k.empty).1 refl) refl

      one_more : 1 + length items ≡ suc (length items)
      one_more = omega arith

      ends : Ends 1 items g
      ends = from_ends items 1 0 (k.empty ∷ [])

      long : length g ≡ length ends.init + 1
      long = ap length ends.is ∙ length-append ends.init (row (1 + length items) 0 None None ∷ [])

      led : AllByRecursion (Led g) g
      led = from_led items 1 0 (k.empty ∷ []) g [] refl refl

      -- node t is not before node n, since neither their being one nor their order allows it
      backwards : (n t : ℕ) → n < length g → t ≤ n → (t ≡ n → ⊥) → (Upto (at g t) (at g n) → ⊥) → ⊥
      backwards n t hn le differ order = order (sorted_at g ends.sorted t n (omega (arith, le, differ)) hn)
