-- The search for a node's class: from row to row, and where it may stop.
use Rattle.std.proofs.Common.{◌≡◌, ℕ, suc, ◌+◌, ◌-◌, ◌<◌, ◌≤◌, Bool, true, false, cond, ◌&&◌, eqb, Some, Option, List, [], ◌∷◌, find, take_while, length, get_or, drop, set, sym, refl, ap, ◌∙◌, inl, inr, arith}
use Rattle.std.proofs.lemmas.List.{drop-set, get_or-drop, length-drop}
use Rattle.std.proofs.lemmas.List.Sums.{take_while-cons}
use Rattle.std.specs.List.{zip}
use Rattle.std.specs.Option.{option_map_or}
use Rattle.std.proofs.lemmas.Bool.{cases_lt, eq-eqb, false≢true}
use Rattle.graph.specs.declared.Row.{Row}
use Rattle.graph.specs.Graph.{blank, at, Layered}
use Rattle.graph.specs.Reduced.{led, same_row, class, joins, classed, classes}
use Rattle.graph.proofs.Joined.{same_row_from, led_same}
use Rattle.graph.proofs.Reduce.{arcs_ahead}
use Rattle.graph.proofs.Steps.{classes_more}
use Rattle.reduce.specs.Reducing.{node_class, to}

-- whether two rows are of nodes of one station
abbrev pub same_station : Row → Row → Bool
same_station r q = eqb r.item q.item && eqb r.copies q.copies

rows_differ : (r q : Row) → (r ≡ q → ⊥) → same_row r q ≡ false
rows_differ r q ne = go (same_row r q) refl
  where
    go : (b : Bool) → same_row r q ≡ b → same_row r q ≡ false
    go true h = absurd (ne (same_row_from r q h))
    go false h = h

joins_none : (f : ℕ → ℕ) (r : Row) (qs : List Row) (cs : List ℕ) (d : ℕ)
    → ((j : ℕ) → j < length qs → r ≡ led f (get_or qs j blank) → ⊥) → joins f r qs cs d ≡ d
joins_none f r [] cs d never = refl
joins_none f r (q ∷ qs) [] d never = refl
joins_none f r (q ∷ qs) (c ∷ cs) d never =
    ap (λ (b : Bool). cond b c (joins f r qs cs d)) (rows_differ r (led f q) (never 0 (omega arith)))
    ∙ joins_none f r qs cs d (λ j lt. never (suc j) (omega arith))

joins_same : (f h : ℕ → ℕ) (r : Row) (qs : List Row) (cs : List ℕ) (d : ℕ)
    → ((j : ℕ) → led f (get_or qs j blank) ≡ led h (get_or qs j blank)) → joins f r qs cs d ≡ joins h r qs cs d
joins_same f h r [] cs d e = refl
joins_same f h r (q ∷ qs) [] d e = refl
joins_same f h r (q ∷ qs) (c ∷ cs) d e =
    ap (λ (p : Row). cond (same_row r p) c (joins f r qs cs d)) (e 0)
    ∙ ap (λ (n : ℕ). cond (same_row r (led h q)) c n) (joins_same f h r qs cs d (λ j. e (suc j)))

-- the label of the first pair whose row equals r, once its arcs lead to classes
abbrev pub found : (ℕ → ℕ) → Row → ℕ → List (Row × ℕ) → ℕ
found f r d ps = option_map_or (λ p. p.1) (find (λ p. same_row r (led f p.0)) ps) d

-- the search may stop at a row that does not stay, if no row from there on equals r
pub search_is : (f : ℕ → ℕ) (r : Row) (stays : Row → Bool) (qs : List Row) (cs : List ℕ) (d : ℕ)
    → ((j k : ℕ) → j ≤ k → k < length qs → stays (get_or qs j blank) ≡ false → r ≡ led f (get_or qs k blank) → ⊥)
    → found f r d (take_while (λ p. stays p.0) (zip qs cs)) ≡ joins f r qs cs d
search_is f r stays [] cs d never = refl
search_is f r stays (q ∷ qs) [] d never = refl
search_is f r stays (q ∷ qs) (c ∷ cs) d never =
    ap (found f r d) (take_while-cons (λ p. stays p.0) (q, c) (zip qs cs))
    ∙ go (search_is f r stays qs cs d (λ j k le lt. never (suc j) (suc k) (omega arith) (omega arith))) (stays q) refl
  where
    left : List (Row × ℕ)
    left = take_while (λ p. stays p.0) (zip qs cs)

    here : found f r d left ≡ joins f r qs cs d → (b : Bool)
        → option_map_or (λ p. p.1) (cond b (Some (q, c)) (find (λ p. same_row r (led f p.0)) left)) d ≡ cond b c (joins f r qs cs d)
    here more true = refl
    here more false = more

    go : found f r d left ≡ joins f r qs cs d → (b : Bool) → stays q ≡ b
        → found f r d (cond (stays q) ((q, c) ∷ left) []) ≡ joins f r (q ∷ qs) (c ∷ cs) d
    go more true h = rw h (here more (same_row r (led f q)))
    go more false h = rw h (sym (joins_none f r (q ∷ qs) (c ∷ cs) d (λ k lt. never 0 k (omega arith) lt h)))

module _ (m : ℕ) (g : List Row) (st : Layered m g) where
  items_rise : (u v : ℕ) → u ≤ v → v < length g → (at g u).item ≤ (at g v).item
  items_rise u v le lt = elim (cases_lt (at g v).item (at g u).item) [
    | inl less ↦ absurd (omega (arith, le, st.by_item v u lt (omega arith) less))
    | inr ge ↦ ge
  ]

  copies_rise : (u v : ℕ) → u ≤ v → v < length g → (at g u).item ≡ (at g v).item → (at g u).copies ≤ (at g v).copies
  copies_rise u v le lt e = elim (cases_lt (at g v).copies (at g u).copies) [
    | inl less ↦ absurd (omega (arith, le, st.by_copies v u lt (omega arith) (sym e) less))
    | inr ge ↦ ge
  ]

  -- a station lies between two nodes of another one
  station_kept : (n t v : ℕ) → n ≤ t → t ≤ v → v < length g → (at g n).item ≡ (at g v).item → (at g n).copies ≡ (at g v).copies
      → ((at g n).item ≡ (at g t).item) × ((at g n).copies ≡ (at g t).copies)
  station_kept n t v nt tv lt item copies =
      let same : (at g n).item ≡ (at g t).item = omega (arith, items_rise n t nt (omega arith), items_rise t v tv lt) in (
        same,
        omega (arith, copies_rise n t nt (omega arith) same, copies_rise t v tv lt (sym same ∙ item)),
      )

  -- no row from the first one of another station on equals that of node n
  never : (f : ℕ → ℕ) (n : ℕ) (j k : ℕ) → j ≤ k → k < length (drop (n + 1) g) → same_station (get_or (drop (n + 1) g) j blank) (at g n) ≡ false
      → led f (at g n) ≡ led f (get_or (drop (n + 1) g) k blank) → ⊥
  never f n j k le hk other e =
      let kept : (at g (n + 1 + k)) ≡ get_or (drop (n + 1) g) k blank = sym (get_or-drop (n + 1) g k blank) in
      let item : (at g n).item ≡ (at g (n + 1 + k)).item = ap (λ (r : Row). r.item) (e ∙ ap (led f) (sym kept)) in
      let copies : (at g n).copies ≡ (at g (n + 1 + k)).copies = ap (λ (r : Row). r.copies) (e ∙ ap (led f) (sym kept)) in
      let same = station_kept n (n + 1 + j) (n + 1 + k) (omega arith) (omega arith) (omega (arith, hk, length-drop (n + 1) g)) item copies in
      false≢true (sym other ∙ ap (λ (r : Row). same_station r (at g n)) (get_or-drop (n + 1) g j blank) ∙ rw (eq-eqb _ _ (sym same.0), eq-eqb _ _ (sym same.1)) refl)

  -- so the class of node n is that of the first pair that the search finds
  pub class_found : (xs : List ℕ) (n c : ℕ) (o : Option (Row × ℕ))
      → o ≡ find (λ p. same_row (led (to xs) (at g n)) (led (to xs) p.0)) (take_while (λ p. same_station p.0 (at g n)) (zip (drop (n + 1) g) (drop (n + 1) xs)))
      → c ≡ option_map_or (λ p. p.1) o n → c ≡ node_class xs g n
  class_found xs n c o o_is c_is =
      c_is ∙ ap (λ (p : Option (Row × ℕ)). option_map_or (λ q. q.1) p n) o_is
      ∙ search_is (to xs) (led (to xs) (at g n)) (λ q. same_station q (at g n)) (drop (n + 1) g) (drop (n + 1) xs) n (never (to xs) n)

  class_to : (xs : List ℕ) (n t : ℕ) → n < t → to xs t ≡ class (suc n) (drop (n + 1) xs) t
  class_to xs n t lt =
      sym (get_or-drop (n + 1) xs (t - suc n) t ∙ ap (λ (i : ℕ). get_or xs i t) (let e : n + 1 + (t - suc n) ≡ t = omega arith in e))

  led_to : (xs : List ℕ) (n j : ℕ) → n ≤ j → led (to xs) (at g j) ≡ led (class (suc n) (drop (n + 1) xs)) (at g j)
  led_to xs n j le =
      let up = arcs_ahead m g st in
      led_same (to xs) (class (suc n) (drop (n + 1) xs)) (at g j)
      (λ t e. class_to xs n t (omega (arith, (up j t).0 e)))
      (λ t e. class_to xs n t (omega (arith, (up j t).1 e)))

  -- one node more, from the last one back
  pub class_added : (xs : List ℕ) (n c : ℕ) → n < length g → length xs ≡ length g → drop (n + 1) xs ≡ classes (n + 1) (drop (n + 1) g)
      → c ≡ node_class xs g n → drop n (set xs n c) ≡ classes n (drop n g)
  class_added xs n c lt long known is =
      let cs = drop (n + 1) xs in
      let f = class (suc n) cs in
      let rest = drop (n + 1) g in
      let alike : (j : ℕ) → led (to xs) (get_or rest j blank) ≡ led f (get_or rest j blank) =
      λ j. ap (led (to xs)) (get_or-drop (n + 1) g j blank) ∙ led_to xs n (n + 1 + j) (omega arith) ∙ sym (ap (led f) (get_or-drop (n + 1) g j blank)) in
      let next : n + 1 ≡ suc n = omega arith in
      let c_is : c ≡ joins f (led f (at g n)) rest cs n =
      is ∙ ap (λ (r : Row). joins (to xs) r rest cs n) (led_to xs n n (omega arith)) ∙ joins_same (to xs) f (led f (at g n)) rest cs n alike in
      drop-set xs n c (omega (arith, long))
      ∙ ap (λ (x : ℕ). x ∷ cs) c_is
      ∙ ap (λ (l : List ℕ). classed n (at g n) rest l) (known ∙ ap (λ (k : ℕ). classes k rest) next)
      ∙ sym (classes_more g n lt)
