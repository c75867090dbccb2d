-- Where the nodes of each station stand in a compiled graph, and from which amounts theirs come.
use Rattle.std.proofs.Common.{◌≡◌, ℕ, zero, suc, ◌+◌, ◌-◌, ◌<◌, ◌≤◌, Bool, true, false, cond, ltb, List, [], ◌∷◌, ◌++◌, map, length, get_or, take, drop, None, filter, Option, sym, refl, ap, ◌∙◌, subst, inl, inr, arith, length-append}
use lib.ListN.{length-map}
use Rattle.std.proofs.lemmas.List.{get_or-append-add, get_or_append_left, get_or-map, get_or-take, length-take-le}
use Rattle.std.proofs.lemmas.Bool.{false≢true, lt-ltb, le-ltb, cases_lt, cases_eq}
use Rattle.limits.specs.Meaning.{Meaning}
use Rattle.packing.specs.Distinct.{distinct, same_list}
use Rattle.packing.specs.Packing.{Item}
use Rattle.packing.proofs.Distinct.{decides_same_list, has_distinct, has_get_or, index_lt, index_append, index_new, get_or_index}
use Rattle.graph.specs.declared.Row.{Row}
use Rattle.graph.specs.Graph.{row, blank, at}
use Rattle.graph.specs.Compiled.{place, pass_end, row_taking, raised, layer, after, take_end, item_rows, rows_from, loads_from}
use Rattle.graph.specs.Numbering.{no_item}
use Rattle.graph.proofs.Language.{holds, holds_raised, length_item_rows}
use Rattle.graph.proofs.Steps.{distinct_prefix, raised_prefix, stage}

ltb_suc : (m n : ℕ) → ltb m n ≡ ltb (suc m) (suc n)
ltb_suc m n = elim (cases_lt m n) [
  | inl lt ↦ lt-ltb m n lt ∙ sym (lt-ltb (suc m) (suc n) (omega arith))
  | inr ge ↦ le-ltb m n ge ∙ sym (le-ltb (suc m) (suc n) (omega arith))
]

-- what stands before something that is among the first is among the first
before_found : (x y : List ℕ) (t p more : List (List ℕ)) → t ≡ p ++ more → holds y p ≡ true → place x t < place y t → holds x p ≡ true
before_found x y t p more is hy lt = go (holds x p) refl
  where
    go : (b : Bool) → holds x p ≡ b → holds x p ≡ true
    go true e = e
    go false e = absurd (omega (
      arith,
      ap (place x) is ∙ index_new same_list x p more e,
      ap (place y) is ∙ index_append same_list y p more hy,
      index_lt same_list y p hy,
    ))

held_take : (s : List (List ℕ)) (j : ℕ) → j < length s → holds (get_or s j []) (take (suc j) s) ≡ true
held_take s j lt =
    subst (λ (z : List ℕ). holds z (take (suc j) s) ≡ true) (get_or-take (suc j) s j [] (omega arith))
    (has_get_or same_list decides_same_list (take (suc j) s) j [] (omega (arith, length-take-le (suc j) s lt)))

-- of a list without repetition, what stands before the element at j of the list first appears before it
pub distinct_before : (x : List ℕ) (s : List (List ℕ)) (j : ℕ) → j < length s → place x (distinct same_list s) < place (get_or s j []) (distinct same_list s)
    → (i : ℕ) × (i < j) × (get_or s i [] ≡ x)
distinct_before x s j lt less =
    let front = take (suc j) s in
    let p = distinct_prefix same_list (suc j) s in
    let hx : holds x front ≡ true =
    sym (has_distinct same_list decides_same_list x front)
    ∙ before_found x (get_or s j []) (distinct same_list s) (distinct same_list front) p.0 p.1
    (has_distinct same_list decides_same_list (get_or s j []) front ∙ held_take s j lt) less in
    let at_x : get_or s (place x front) [] ≡ x =
    sym (get_or-take (suc j) s (place x front) [] (omega (arith, index_lt same_list x front hx, length-take-le (suc j) s lt)))
    ∙ get_or_index same_list decides_same_list x front [] hx in
    (place x front, earlier (place x front) at_x (omega (arith, index_lt same_list x front hx, length-take-le (suc j) s lt)), at_x)
  where
    earlier : (i : ℕ) → get_or s i [] ≡ x → i < suc j → i < j
    earlier i e le = elim (cases_eq i j) [
      | inr ne ↦ omega (arith, le, λ (q : i ≡ j). ne q)
      | inl q ↦ absurd (omega (arith, less, ap (λ (z : List ℕ). place z (distinct same_list s)) (sym e ∙ ap (λ (z : ℕ). get_or s z []) q)))
    ]

module _ (k : Meaning) where
  -- an amount of the station of one copy more is a sum that fits
  sum_from : (w x : List ℕ) (s : List (List ℕ)) → holds x (filter k.fits (map (λ a. k.plus a w) s)) ≡ true
      → (j : ℕ) × (j < length s) × (k.plus (get_or s j []) w ≡ x) × (k.fits x ≡ true)
  sum_from w x [] h = absurd (false≢true h)
  sum_from w x (a ∷ s) h = go (sum_from w x s) (k.fits (k.plus a w)) refl (same_list x (k.plus a w)) refl
    where
      further : (j : ℕ) × (j < length s) × (k.plus (get_or s j []) w ≡ x) × (k.fits x ≡ true)
          → (j : ℕ) × (j < suc (length s)) × (k.plus (get_or (a ∷ s) j []) w ≡ x) × (k.fits x ≡ true)
      further (j, lt, e, f) = (suc j, omega arith, e, f)

      go : (holds x (filter k.fits (map (λ b. k.plus b w) s)) ≡ true → (j : ℕ) × (j < length s) × (k.plus (get_or s j []) w ≡ x) × (k.fits x ≡ true))
          → (u : Bool) → k.fits (k.plus a w) ≡ u → (v : Bool) → same_list x (k.plus a w) ≡ v
          → (j : ℕ) × (j < suc (length s)) × (k.plus (get_or (a ∷ s) j []) w ≡ x) × (k.fits x ≡ true)
      go more false e v q = further (more (rw e at h))
      go more true e true q = let is = (decides_same_list x (k.plus a w)).0 q in (0, omega arith, sym is, ap k.fits is ∙ e)
      go more true e false q = further (more (rw (e, q) at h))

  pub raised_from : (w x : List ℕ) (s : List (List ℕ)) → holds x (raised k w s) ≡ true → (j : ℕ) × (j < length s) × (k.plus (get_or s j []) w ≡ x) × (k.fits x ≡ true)
  raised_from w x s h = sum_from w x s (sym (has_distinct same_list decides_same_list x (filter k.fits (map (λ a. k.plus a w) s))) ∙ h)

  -- a sum that stands before that of the amount at j comes from an earlier amount
  pub raised_before : (w x : List ℕ) (s : List (List ℕ)) (j : ℕ) → j < length s → k.fits (k.plus (get_or s j []) w) ≡ true
      → place x (raised k w s) < place (k.plus (get_or s j []) w) (raised k w s) → (i : ℕ) × (i < j) × (k.plus (get_or s i []) w ≡ x) × (k.fits x ≡ true)
  raised_before w x s j lt fit less =
      let front = take (suc j) s in
      let y = k.plus (get_or s j []) w in
      let p = raised_prefix k w (suc j) s in
      let from = raised_from w x front
      (before_found x y (raised k w s) (raised k w front) p.0 p.1 (holds_raised k w (get_or s j []) front fit (held_take s j lt)) less) in
      let low : from.0 < suc j = omega (arith, from.1, length-take-le (suc j) s lt) in
      let sum : k.plus (get_or s from.0 []) w ≡ x = ap (λ (z : List ℕ). k.plus z w) (sym (get_or-take (suc j) s from.0 [] low)) ∙ from.2 in
      (from.0, earlier from.0 sum low, sum, from.3)
    where
      earlier : (i : ℕ) → k.plus (get_or s i []) w ≡ x → i < suc j → i < j
      earlier i e le = elim (cases_eq i j) [
        | inr ne ↦ omega (arith, le, λ (q : i ≡ j). ne q)
        | inl q ↦ absurd (omega (arith, less, ap (λ (z : List ℕ). place z (raised k w s)) (sym e ∙ ap (λ (z : ℕ). k.plus (get_or s z []) w) q)))
      ]

  -- where the station with d copies more begins, counted from the beginning of s
  abbrev pub begins : List ℕ → ℕ → List (List ℕ) → ℕ
  begins w zero s = 0
  begins w (suc d) s = length s + begins w d (raised k w s)

  -- the take arc from amount a of the station with d copies more, of b
  abbrev pub taken : List ℕ → ℕ → ℕ → List (List ℕ) → ℕ → List ℕ → Option ℕ
  taken w b o s d a = cond (ltb d b) (take_end k w (o + begins w (suc d) s) (stage k w (suc d) s) a) None

  -- the row of the j-th amount of that station
  pub item_row : (w : List ℕ) (pass : List ℕ → Option ℕ) (i c b o : ℕ) (s : List (List ℕ)) (d j : ℕ) → d ≤ b → j < length (stage k w d s)
      → at (item_rows k w pass i c b o s) (begins w d s + j) ≡ row i (c + d) (taken w b o s d (get_or (stage k w d s) j [])) (pass (get_or (stage k w d s) j []))
  item_row w pass i c zero o s zero j le lt =
      let f : List ℕ → Row = λ a. row i c None (pass a) in
      let a = get_or s j [] in
      let here : begins w 0 s + j ≡ j = omega arith in
      let copies : c ≡ c + 0 = omega arith in
      let last : None ≡ taken w 0 o s 0 a = sym (ap (λ (t : Bool). cond t (take_end k w (o + begins w 1 s) (stage k w 1 s) a) None) (le-ltb 0 0 le)) in
      ap (at (map f s)) here ∙ get_or-map f s j [] blank lt ∙ (λ z. row i (copies z) (last z) (pass a))
  item_row w pass i c (suc b) o s zero j le lt =
      let f : List ℕ → Row = row_taking k w pass i c (o + length s) (raised k w s) in
      let below = item_rows k w pass i (suc c) b (o + length s) (raised k w s) in
      let a = get_or s j [] in
      let here : begins w 0 s + j ≡ j = omega arith in
      let copies : c ≡ c + 0 = omega arith in
      let start : o + length s ≡ o + begins w 1 s = omega arith in
      let more : take_end k w (o + length s) (raised k w s) a ≡ taken w (suc b) o s 0 a =
      ap (λ (n : ℕ). take_end k w n (raised k w s) a) start
      ∙ sym (ap (λ (t : Bool). cond t (take_end k w (o + begins w 1 s) (stage k w 1 s) a) None) (lt-ltb 0 (suc b) (omega arith))) in
      ap (at (map f s ++ below)) here
      ∙ get_or_append_left (map f s) below blank j (omega (arith, lt, length-map s f))
      ∙ get_or-map f s j [] blank lt ∙ (λ z. row i (copies z) (more z) (pass a))
  item_row w pass i c zero o s (suc d) j le lt = absurd (omega arith)
  item_row w pass i c (suc b) o s (suc d) j le lt =
      let t = raised k w s in
      let f : List ℕ → Row = row_taking k w pass i c (o + length s) t in
      let below = item_rows k w pass i (suc c) b (o + length s) t in
      let a = get_or (stage k w d t) j [] in
      let there : begins w (suc d) s + j ≡ length (map f s) + (begins w d t + j) = omega (arith, length-map s f) in
      let copies : suc c + d ≡ c + suc d = omega arith in
      let start : o + length s + begins w (suc d) t ≡ o + begins w (suc (suc d)) s = omega arith in
      ap (at (map f s ++ below)) there
      ∙ get_or-append-add (map f s) below (begins w d t + j) blank
      ∙ item_row w pass i (suc c) b (o + length s) t d j (omega arith) lt
      ∙ (λ z. row i (copies z) (cond (ltb_suc d b z) (take_end k w (start z) (stage k w (suc d) t) a) None) (pass a))

  pub item_amount : (w : List ℕ) (b : ℕ) (s : List (List ℕ)) (d j : ℕ) → d ≤ b → j < length (stage k w d s)
      → (begins w d s + j < length (layer k w b s)) × (get_or (layer k w b s) (begins w d s + j) [] ≡ get_or (stage k w d s) j [])
  item_amount w zero s zero j le lt = let here : begins w 0 s + j ≡ j = omega arith in (omega arith, ap (λ (n : ℕ). get_or s n []) here)
  item_amount w (suc b) s zero j le lt =
      let here : begins w 0 s + j ≡ j = omega arith in
      let rest = layer k w b (raised k w s) in
      (omega (arith, lt, length-append s rest), ap (λ (n : ℕ). get_or (s ++ rest) n []) here ∙ get_or_append_left s rest [] j lt)
  item_amount w zero s (suc d) j le lt = absurd (omega arith)
  item_amount w (suc b) s (suc d) j le lt =
      let t = raised k w s in
      let rest = layer k w b t in
      let there : begins w (suc d) s + j ≡ length s + (begins w d t + j) = omega arith in
      let more = item_amount w b t d j (omega arith) lt in
      (omega (arith, more.0, length-append s rest), ap (λ (n : ℕ). get_or (s ++ rest) n []) there ∙ get_or-append-add s rest (begins w d t + j) [] ∙ more.1)

  -- every node of an item is in one of its stations
  pub item_cover : (w : List ℕ) (b : ℕ) (s : List (List ℕ)) (q : ℕ) → q < length (layer k w b s)
      → (d j : ℕ) × (d ≤ b) × (j < length (stage k w d s)) × (q ≡ begins w d s + j)
  item_cover w zero s q lt = (0, q, omega arith, lt, omega arith)
  item_cover w (suc b) s q lt = elim (cases_lt q (length s)) [
    | inl here ↦ (0, q, omega arith, here, omega arith)
    | inr past ↦
        let more = item_cover w b (raised k w s) (q - length s) (omega (arith, past, lt, length-append s (layer k w b (raised k w s)))) in
        (suc more.0, more.1, omega (arith, more.2), more.3, omega (arith, past, more.4))
  ]

  pub item_pass : (w : List ℕ) (pass : List ℕ → Option ℕ) (i c b o : ℕ) (s : List (List ℕ)) (q : ℕ) → q < length (layer k w b s)
      → (at (item_rows k w pass i c b o s) q).pass ≡ pass (get_or (layer k w b s) q [])
  item_pass w pass i c b o s q lt = go (item_cover w b s q lt)
    where
      go : (d j : ℕ) × (d ≤ b) × (j < length (stage k w d s)) × (q ≡ begins w d s + j) → (at (item_rows k w pass i c b o s) q).pass ≡ pass (get_or (layer k w b s) q [])
      go (d, j, le, hj, is) =
          ap (λ (n : ℕ). (at (item_rows k w pass i c b o s) n).pass) is
          ∙ ap (λ (r : Row). r.pass) (item_row w pass i c b o s d j le hj)
          ∙ sym (ap pass (ap (λ (n : ℕ). get_or (layer k w b s) n []) is ∙ (item_amount w b s d j le hj).1))

  -- the first station of the n-th item, from 0, where s is that of the first
  abbrev pub entering : List (List ℕ) → List Item → ℕ → List (List ℕ)
  entering s items zero = s
  entering s [] (suc n) = s
  entering s (x ∷ xs) (suc n) = entering (after k x s) xs n

  -- where its nodes begin
  abbrev pub starts : List (List ℕ) → List Item → ℕ → ℕ
  starts s items zero = 0
  starts s [] (suc n) = 0
  starts s (x ∷ xs) (suc n) = length (layer k x.weight x.most s) + starts (after k x s) xs n

  -- the amounts of its nodes
  abbrev pub amounts_of : List (List ℕ) → List Item → ℕ → List (List ℕ)
  amounts_of s items n = layer k (get_or items n no_item).weight (get_or items n no_item).most (entering s items n)

  pub entering_more : (items : List Item) (s : List (List ℕ)) (n : ℕ) → n < length items → entering s items (suc n) ≡ distinct same_list (amounts_of s items n)
  entering_more [] s n lt = absurd (omega arith)
  entering_more (x ∷ xs) s zero lt = refl
  entering_more (x ∷ xs) s (suc n) lt = entering_more xs (after k x s) n (omega arith)

  -- the rows of an item in the graph
  pub from_row : (items : List Item) (i o : ℕ) (s : List (List ℕ)) (n q : ℕ) → n < length items → q < length (amounts_of s items n)
      → at (rows_from k i o s items) (starts s items n + q)
      ≡ at (item_rows k (get_or items n no_item).weight (pass_end (drop (suc n) items) (o + starts s items (suc n)) (entering s items (suc n)))
      (i + n) 0 (get_or items n no_item).most (o + starts s items n) (entering s items n)) q
  from_row [] i o s n q hn hq = absurd (omega arith)
  from_row (x ∷ xs) i o s zero q hn hq =
      let w = x.weight in
      let l = length (layer k w x.most s) in
      let t = after k x s in
      let first = item_rows k w (pass_end xs (o + l) t) i 0 x.most o s in
      let here : starts s (x ∷ xs) 0 + q ≡ q = omega arith in
      let item : i ≡ i + 0 = omega arith in
      let from : o ≡ o + starts s (x ∷ xs) 0 = omega arith in
      let next : o + l ≡ o + starts s (x ∷ xs) 1 = omega arith in
      ap (at (first ++ rows_from k (suc i) (o + l) t xs)) here
      ∙ get_or_append_left first (rows_from k (suc i) (o + l) t xs) blank q (omega (arith, hq, length_item_rows k w (pass_end xs (o + l) t) i 0 x.most o s))
      ∙ (λ z. at (item_rows k w (pass_end xs (next z) t) (item z) 0 x.most (from z) s) q)
  from_row (x ∷ xs) i o s (suc n) q hn hq =
      let w = x.weight in
      let l = length (layer k w x.most s) in
      let t = after k x s in
      let first = item_rows k w (pass_end xs (o + l) t) i 0 x.most o s in
      let y = get_or xs n no_item in
      let there : starts s (x ∷ xs) (suc n) + q ≡ length first + (starts t xs n + q) = omega (arith, length_item_rows k w (pass_end xs (o + l) t) i 0 x.most o s) in
      let item : suc i + n ≡ i + suc n = omega arith in
      let from : o + l + starts t xs n ≡ o + starts s (x ∷ xs) (suc n) = omega arith in
      let next : o + l + starts t xs (suc n) ≡ o + starts s (x ∷ xs) (suc (suc n)) = omega arith in
      ap (at (first ++ rows_from k (suc i) (o + l) t xs)) there
      ∙ get_or-append-add first (rows_from k (suc i) (o + l) t xs) (starts t xs n + q) blank
      ∙ from_row xs (suc i) (o + l) t n q (omega arith) hq
      ∙ (λ z. at (item_rows k y.weight (pass_end (drop (suc n) xs) (next z) (entering t xs (suc n))) (item z) 0 y.most (from z) (entering t xs n)) q)

  pub from_amount : (items : List Item) (s : List (List ℕ)) (n q : ℕ) → n < length items → q < length (amounts_of s items n)
      → (starts s items n + q < length (loads_from k s items)) × (get_or (loads_from k s items) (starts s items n + q) [] ≡ get_or (amounts_of s items n) q [])
  from_amount [] s n q hn hq = absurd (omega arith)
  from_amount (x ∷ xs) s zero q hn hq =
      let l = layer k x.weight x.most s in
      let rest = loads_from k (after k x s) xs in
      let here : starts s (x ∷ xs) 0 + q ≡ q = omega arith in
      (omega (arith, hq, length-append l rest), ap (λ (p : ℕ). get_or (l ++ rest) p []) here ∙ get_or_append_left l rest [] q hq)
  from_amount (x ∷ xs) s (suc n) q hn hq =
      let l = layer k x.weight x.most s in
      let t = after k x s in
      let rest = loads_from k t xs in
      let there : starts s (x ∷ xs) (suc n) + q ≡ length l + (starts t xs n + q) = omega arith in
      let more = from_amount xs t n q (omega arith) hq in
      (omega (arith, more.0, length-append l rest), ap (λ (p : ℕ). get_or (l ++ rest) p []) there ∙ get_or-append-add l rest (starts t xs n + q) [] ∙ more.1)

  -- every node but the target is one of an item's
  pub from_cover : (items : List Item) (s : List (List ℕ)) (p : ℕ) → p < length (loads_from k s items)
      → (n q : ℕ) × (n < length items) × (q < length (amounts_of s items n)) × (p ≡ starts s items n + q)
  from_cover [] s p lt = absurd (omega arith)
  from_cover (x ∷ xs) s p lt = elim (cases_lt p (length (layer k x.weight x.most s))) [
    | inl here ↦ (0, p, omega arith, here, omega arith)
    | inr past ↦
        let l = layer k x.weight x.most s in
        let t = after k x s in
        let more = from_cover xs t (p - length l) (omega (arith, past, lt, length-append l (loads_from k t xs))) in
        (suc more.0, more.1, omega (arith, more.2), more.3, omega (arith, past, more.4))
  ]
