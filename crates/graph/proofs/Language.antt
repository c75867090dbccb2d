-- The paths of a compiled graph spell exactly the patterns.
use Rattle.std.proofs.Common.{◌≡◌, ℕ, zero, suc, ◌+◌, ◌<◌, ◌≤◌, Bool, true, false, cond, ◌&&◌, List, [], ◌∷◌, ◌++◌, map, length, None, filter, Option, sym, refl, ap, ◌∙◌, subst, arith, length-append}
use lib.ListN.{length-map}
use Rattle.std.proofs.lemmas.List.{append_assoc, get_or-append-add, get_or_append_left, get_or-map}
use Rattle.std.proofs.lemmas.Bool.{false≢true, or_left, or_right, eq-eqb, ne_eqb}
use Rattle.graph.specs.declared.Row.{Row}
use Rattle.packing.specs.Distinct.{has, same_list}
use Rattle.limits.specs.Meaning.{Meaning}
use Rattle.packing.specs.Packing.{Item, total, within, pattern, Packable}
use Rattle.graph.specs.Graph.{row, blank, at}
use Rattle.graph.specs.Compiled.{place, entry, pass_end, row_taking, raised, layer, after, take_end, item_rows, rows_from, compiled}
use Rattle.graph.specs.Laws.{SpellsJust}
use Rattle.packing.proofs.Distinct.{decides_same_list, has_append, has_distinct, has_map, index_lt, get_or_index}
use Rattle.graph.proofs.Paths.{given, accepts_item, accepts, path_accepts, accepts_path, unique_path}
use Rattle.graph.proofs.Sums.{adds, completes, completes_is, total_amount}

abbrev pub holds : List ℕ → List (List ℕ) → Bool
holds a s = has same_list a s

-- the row of the node with amount a, in a station that stands after `front`
pub row_at : (front : List Row) (f : List ℕ → Row) (s : List (List ℕ)) (back : List Row) (o : ℕ) (a : List ℕ)
    → length front ≡ o → holds a s ≡ true → at (front ++ (map f s ++ back)) (o + place a s) ≡ f a
row_at front f s back o a long h =
    let lt : place a s < length s = index_lt same_list a s h in
    let in_map : place a s < length (map f s) = rw length-map lt in
    ap (λ (n : ℕ). at (front ++ (map f s ++ back)) (n + place a s)) (sym long)
    ∙ get_or-append-add front (map f s ++ back) (place a s) blank
    ∙ get_or_append_left (map f s) back blank (place a s) in_map
    ∙ get_or-map f s (place a s) [] blank lt
    ∙ ap f (get_or_index same_list decides_same_list a s [] h)

holds_kept : (test : List ℕ → Bool) (a : List ℕ) (s : List (List ℕ)) → test a ≡ true → holds a s ≡ true → holds a (filter test s) ≡ true
holds_kept test a [] t h = absurd (false≢true h)
holds_kept test a (b ∷ s) t h = go (holds_kept test a s t) (same_list a b) refl (test b) refl
  where
    go : (holds a s ≡ true → holds a (filter test s) ≡ true) → (e : Bool) → same_list a b ≡ e → (u : Bool) → test b ≡ u
        → holds a (cond (test b) (b ∷ filter test s) (filter test s)) ≡ true
    go more true e true q = rw q (or_left (same_list a b) (holds a (filter test s)) e)
    go more true e false q = absurd (false≢true (sym q ∙ subst (λ (z : List ℕ). test z ≡ true) ((decides_same_list a b).0 e) t))
    go more false e true q = rw q (or_right (same_list a b) (holds a (filter test s)) (more (rw e at h)))
    go more false e false q = rw q (more (rw e at h))

module _ (k : Meaning) where
  -- a sum that fits stands in the station of one copy more
  pub holds_raised : (w a : List ℕ) (s : List (List ℕ)) → k.fits (k.plus a w) ≡ true → holds a s ≡ true → holds (k.plus a w) (raised k w s) ≡ true
  holds_raised w a s f h =
      has_distinct same_list decides_same_list (k.plus a w) (filter k.fits (map (λ b. k.plus b w) s))
      ∙ holds_kept k.fits (k.plus a w) (map (λ b. k.plus b w) s) f
      (has_map same_list decides_same_list same_list decides_same_list (λ b. k.plus b w) a s h)

  pub length_item_rows : (w : List ℕ) (pass : List ℕ → Option ℕ) (i c b o : ℕ) (s : List (List ℕ)) → length (item_rows k w pass i c b o s) ≡ length (layer k w b s)
  length_item_rows w pass i c zero o s = length-map s (λ a. row i c None (pass a))
  length_item_rows w pass i c (suc b) o s =
      let t = raised k w s in
      let here = map (row_taking k w pass i c (o + length s) t) s in
      let below = item_rows k w pass i (suc c) b (o + length s) t in
      length-append here below
      ∙ omega (arith, length-map s (row_taking k w pass i c (o + length s) t), length_item_rows w pass i (suc c) b (o + length s) t)
      ∙ sym (length-append s (layer k w b t))

  -- one item: n copies lead from amount a to the sum, where they fit, and then its pass arc on
  item_accepts : (w : List ℕ) (pass : List ℕ → Option ℕ) (i c b o : ℕ) (s : List (List ℕ)) (g front back : List Row)
      → length front ≡ o → g ≡ front ++ (item_rows k w pass i c b o s ++ back)
      → (test : ℕ → Bool) (goal : List ℕ → Bool) → ((a : List ℕ) → holds a (layer k w b s) ≡ true → given (pass a) test ≡ goal a)
      → (n : ℕ) (a : List ℕ) → holds a s ≡ true → accepts_item g n test (o + place a s) ≡ given (adds k w b n a) goal
  item_accepts w pass i c zero o s g front back long is test goal passes zero a h =
      let at_a = ap (λ (l : List Row). at l (o + place a s)) is ∙ row_at front (λ z. row i c None (pass z)) s back o a long h in
      rw at_a (passes a h)
  item_accepts w pass i c zero o s g front back long is test goal passes (suc n) a h =
      let at_a = ap (λ (l : List Row). at l (o + place a s)) is ∙ row_at front (λ z. row i c None (pass z)) s back o a long h in
      rw at_a refl
  item_accepts w pass i c (suc b) o s g front back long is test goal passes zero a h =
      let f : List ℕ → Row = row_taking k w pass i c (o + length s) (raised k w s) in
      let below = item_rows k w pass i (suc c) b (o + length s) (raised k w s) in
      let at_a = ap (λ (l : List Row). at l (o + place a s)) (is ∙ ap (λ (l : List Row). front ++ l) (append_assoc (map f s) below back)) ∙ row_at front f s (below ++ back) o a long h in
      rw at_a (passes a (has_append same_list a s (layer k w b (raised k w s)) ∙ or_left (holds a s) (holds a (layer k w b (raised k w s))) h))
  item_accepts w pass i c (suc b) o s g front back long is test goal passes (suc n) a h =
      let t = raised k w s in
      let f : List ℕ → Row = row_taking k w pass i c (o + length s) t in
      let below = item_rows k w pass i (suc c) b (o + length s) t in
      let is' = is ∙ ap (λ (l : List Row). front ++ l) (append_assoc (map f s) below back) in
      let at_a = ap (λ (l : List Row). at l (o + place a s)) is' ∙ row_at front f s (below ++ back) o a long h in
      rw at_a
      (taken w pass i c b o s g test goal n a
      (λ fit. item_accepts w pass i (suc c) b (o + length s) t g (front ++ map f s) back
      (length-append front (map f s) ∙ omega (arith, long, length-map s f))
      (is' ∙ sym (append_assoc front (map f s) (below ++ back)))
      test goal
      (λ z hz. passes z (has_append same_list z s (layer k w b t) ∙ or_right (holds z s) (holds z (layer k w b t)) hz))
      n (k.plus a w) (holds_raised w a s fit h)))
    where
      taken : (w : List ℕ) (pass : List ℕ → Option ℕ) (i c b o : ℕ) (s : List (List ℕ)) (g : List Row) (test : ℕ → Bool) (goal : List ℕ → Bool) (n : ℕ) (a : List ℕ)
          → (k.fits (k.plus a w) ≡ true → accepts_item g n test (o + length s + place (k.plus a w) (raised k w s)) ≡ given (adds k w b n (k.plus a w)) goal)
          → given (take_end k w (o + length s) (raised k w s) a) (accepts_item g n test) ≡ given (cond (k.fits (k.plus a w)) (adds k w b n (k.plus a w)) None) goal
      taken w pass i c b o s g test goal n a more = go (k.fits (k.plus a w)) refl
        where
          go : (u : Bool) → k.fits (k.plus a w) ≡ u
              → given (take_end k w (o + length s) (raised k w s) a) (accepts_item g n test) ≡ given (cond (k.fits (k.plus a w)) (adds k w b n (k.plus a w)) None) goal
          go true e = rw e (more e)
          go false e = rw e refl

  pub some_rows : (i o : ℕ) (s : List (List ℕ)) (items : List Item) → 1 ≤ length (rows_from k i o s items)
  some_rows i o s [] = omega arith
  some_rows i o s (x ∷ xs) =
      let l = length (layer k x.weight x.most s) in
      let first = item_rows k x.weight (pass_end xs (o + l) (after k x s)) i 0 x.most o s in
      omega (arith, length-append first (rows_from k (suc i) (o + l) (after k x s) xs), some_rows (suc i) (o + l) (after k x s) xs)

  pub length_layer : (w : List ℕ) (b : ℕ) (s : List (List ℕ)) → length s ≤ length (layer k w b s)
  length_layer w zero s = omega arith
  length_layer w (suc b) s = omega (arith, length-append s (layer k w b (raised k w s)))

  -- the rows from one item on: from amount a they accept what completes it
  from_accepts : (items : List Item) (i o : ℕ) (s : List (List ℕ)) (g front : List Row) → length front ≡ o → g ≡ front ++ rows_from k i o s items
      → (counts a : List ℕ) → holds a s ≡ true → accepts g counts (entry items o s a) ≡ completes k items a counts
  from_accepts [] i o s g front long is [] a h =
      eq-eqb (suc o) (length g) (omega (arith, long, ap length is ∙ length-append front (row i 0 None None ∷ [])))
  from_accepts [] i o s g front long is (zero ∷ counts) a h =
      rw (ap (λ (l : List Row). at l o) is ∙ ap (λ (n : ℕ). at (front ++ row i 0 None None ∷ []) n) (sym (omega (arith, long)))
      ∙ get_or-append-add front (row i 0 None None ∷ []) 0 blank) refl
  from_accepts [] i o s g front long is (suc n ∷ counts) a h =
      rw (ap (λ (l : List Row). at l o) is ∙ ap (λ (n : ℕ). at (front ++ row i 0 None None ∷ []) n) (sym (omega (arith, long)))
      ∙ get_or-append-add front (row i 0 None None ∷ []) 0 blank) refl
  from_accepts (x ∷ xs) i o s g front long is [] a h =
      let w = x.weight in
      let l = length (layer k w x.most s) in
      let first = item_rows k w (pass_end xs (o + l) (after k x s)) i 0 x.most o s in
      let rest = rows_from k (suc i) (o + l) (after k x s) xs in
      ne_eqb (suc (o + place a s)) (length g)
      (omega (
        arith,
        long,
        ap length is ∙ length-append front (first ++ rest),
        length-append first rest,
        length_item_rows w (pass_end xs (o + l) (after k x s)) i 0 x.most o s,
        some_rows (suc i) (o + l) (after k x s) xs,
        length_layer w x.most s,
        index_lt same_list a s h,
      ))
  from_accepts (x ∷ xs) i o s g front long is (n ∷ counts) a h =
      let w = x.weight in
      let l = length (layer k w x.most s) in
      let t = after k x s in
      let first = item_rows k w (pass_end xs (o + l) t) i 0 x.most o s in
      let rest = rows_from k (suc i) (o + l) t xs in
      item_accepts w (pass_end xs (o + l) t) i 0 x.most o s g front rest long is
      (accepts g counts) (λ z. completes k xs z counts)
      (λ z hz. from_accepts xs (suc i) (o + l) t g (front ++ first)
      (length-append front first ∙ omega (arith, long, length_item_rows w (pass_end xs (o + l) t) i 0 x.most o s))
      (is ∙ sym (append_assoc front first rest))
      counts z (has_distinct same_list decides_same_list z (layer k w x.most s) ∙ hz))
      n a h

  pub compiled_accepts : (items : List Item) → Packable k items → (counts : List ℕ) → accepts (compiled k items) counts 0 ≡ pattern k items counts
  compiled_accepts items p counts =
      ap (λ (n : ℕ). accepts (compiled k items) counts n) (sym (source items))
      ∙ from_accepts items 1 0 (k.empty ∷ []) (compiled k items) [] refl refl counts k.empty here
      ∙ completes_is k p.rules items k.empty counts p.weights p.rules.empty_amount p.rules.empty_fits
      ∙ ap (λ (z : List ℕ). within items counts && k.fits z) (p.rules.neutral (total k items counts) (total_amount k p.rules items counts p.weights))
    where
      here : holds k.empty (k.empty ∷ []) ≡ true
      here = or_left (same_list k.empty k.empty) false ((decides_same_list k.empty k.empty).1 refl)

      source : (items : List Item) → entry items 0 (k.empty ∷ []) k.empty ≡ 0
      source [] = refl
      source (x ∷ xs) = rw ((decides_same_list k.empty k.empty).1 refl) refl

-- a graph whose test is that of the patterns spells just these
pub spells_just : (g : List Row) (k : Meaning) (items : List Item) → ((counts : List ℕ) → accepts g counts 0 ≡ pattern k items counts) → SpellsJust g k items
spells_just g k items same counts = (
  (λ arcs path. sym (same counts) ∙ path_accepts path),
  λ h. let found = accepts_path g counts 0 (same counts ∙ h) in
      (found.0, found.1, λ others path. unique_path found.1 path),
)
