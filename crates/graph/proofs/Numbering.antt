-- The compiled graph keeps the rule of numbering.
-- A node is known from its station and its amount: `number` says where the station begins, and which place the amount has in it.
use Rattle.std.proofs.Common.{◌≡◌, ℕ, zero, suc, ◌+◌, ◌-◌, ◌<◌, ◌≤◌, Bool, true, false, cond, ltb, List, [], ◌∷◌, ◌++◌, map, length, get_or, drop, Some, None, filter, Option, sym, refl, ap, ◌∙◌, subst, inl, inr, arith}
use Rattle.std.specs.Option.{option_map}
use Rattle.std.specs.Bool.{then_some}
use Rattle.std.proofs.lemmas.List.{drop_more}
use Rattle.std.proofs.lemmas.Bool.{ltb-true, lt-ltb, cases_lt}
use Rattle.limits.specs.Meaning.{Meaning}
use Rattle.packing.specs.Distinct.{same_list}
use Rattle.packing.specs.Packing.{Item}
use Rattle.packing.proofs.Distinct.{decides_same_list, has_distinct, has_get_or, index_lt, index_le, get_or_index, index_get_or}
use Rattle.packing.proofs.Options.{some≢none, unsome}
use Rattle.graph.specs.declared.Row.{Row}
use Rattle.graph.specs.Graph.{row, at, Layered}
use Rattle.graph.specs.Compiled.{place, entry, pass_end, raised, layer, after, loads_from, compiled, loads}
use Rattle.graph.specs.Numbering.{no_item, item_at, Arc, OneStation, one_more, CompiledStepped}
use Rattle.graph.proofs.Language.{holds, holds_raised}
use Rattle.graph.proofs.Reduce.{is_some, pass_in_range, take_in_range}
use Rattle.graph.proofs.Steps.{stage, stage_more}
use Rattle.graph.proofs.Laws.{compiles_layered}
use Rattle.graph.proofs.Stations.{distinct_before, raised_from, raised_before, begins, item_row, item_amount, item_cover, item_pass, entering, starts, amounts_of, entering_more, from_row, from_amount, from_cover, taken}

module _ (k : Meaning) (items : List Item) where
  abbrev g : List Row
  g = compiled k items

  abbrev amount : ℕ → List ℕ
  amount n = get_or (loads k items) n []

  abbrev source_stage : List (List ℕ)
  source_stage = k.empty ∷ []

  -- the weight of the i-th item, from 0
  abbrev weight : ℕ → List ℕ
  weight i = (get_or items i no_item).weight

  abbrev most : ℕ → ℕ
  most i = (get_or items i no_item).most

  -- the amounts of the i-th item with c copies taken
  abbrev station : ℕ → ℕ → List (List ℕ)
  station i c = stage k (weight i) c (entering k source_stage items i)

  -- all amounts of the i-th item
  abbrev all_of : ℕ → List (List ℕ)
  all_of i = amounts_of k source_stage items i

  abbrev start : ℕ → ℕ
  start i = starts k source_stage items i

  -- the node of a station that has amount a
  abbrev number : ℕ → ℕ → List ℕ → ℕ
  number i c a = start i + begins k (weight i) c (entering k source_stage items i) + place a (station i c)

  -- each amount of a station stands there once
  once : (i c j : ℕ) → i < length items → j < length (station i c) → place (get_or (station i c) j []) (station i c) ≡ j
  once i (suc c) j hi hj = again (stage_more k (weight i) c (entering k source_stage items i))
    where
      again : station i (suc c) ≡ raised k (weight i) (station i c) → place (get_or (station i (suc c)) j []) (station i (suc c)) ≡ j
      again e = subst (λ (s : List (List ℕ)). j < length s → place (get_or s j []) s ≡ j) (sym e)
          (index_get_or same_list decides_same_list (filter k.fits (map (λ a. k.plus a (weight i)) (station i c))) j []) hj
  once (suc i) zero j hi hj =
      subst (λ (s : List (List ℕ)). j < length s → place (get_or s j []) s ≡ j) (sym (entering_more k items source_stage i (omega arith)))
      (index_get_or same_list decides_same_list (all_of i) j []) hj
  once zero zero zero hi hj = rw ((decides_same_list k.empty k.empty).1 refl) refl
  once zero zero (suc j) hi hj = absurd (omega arith)

  -- Amount a stands in station (i + 1, c), and has node n.
  record Seat (i c : ℕ) (a : List ℕ) (n : ℕ) : Type 0 where
    known : i < length items
    within : c ≤ most i
    held : holds a (station i c) ≡ true
    is : n ≡ number i c a

  -- the node among those of its item
  at_item : (i c : ℕ) (a : List ℕ) → number i c a ≡ start i + (begins k (weight i) c (entering k source_stage items i) + place a (station i c))
  at_item i c a = omega arith

  seat_amount : (i c n : ℕ) (a : List ℕ) → Seat i c a n → (n < length (loads k items)) × (amount n ≡ a)
  seat_amount i c n a seat =
      let s = entering k source_stage items i in
      let lt = index_lt same_list a (station i c) seat.held in
      let in_Item = item_amount k (weight i) (most i) s c (place a (station i c)) seat.within lt in
      let whole = from_amount k items source_stage i (begins k (weight i) c s + place a (station i c)) seat.known in_Item.0 in (
        omega (arith, whole.0, seat.is),
        ap amount (seat.is ∙ at_item i c a) ∙ whole.1 ∙ in_Item.1 ∙ get_or_index same_list decides_same_list a (station i c) [] seat.held,
      )

  abbrev take_of : ℕ → ℕ → List ℕ → Option ℕ
  take_of i c a = cond (ltb c (most i)) (cond (k.fits (k.plus a (weight i))) (Some (number i (suc c) (k.plus a (weight i)))) None) None

  seat_row : (i c n : ℕ) (a : List ℕ) → Seat i c a n → ((at g n).item ≡ suc i) × ((at g n).copies ≡ c) × ((at g n).take ≡ take_of i c a)
  seat_row i c n a seat =
      let s = entering k source_stage items i in
      let w = weight i in
      let j = place a (station i c) in
      let lt = index_lt same_list a (station i c) seat.held in
      let in_Item = item_amount k w (most i) s c j seat.within lt in
      let pass = pass_end (drop (suc i) items) (0 + starts k source_stage items (suc i)) (entering k source_stage items (suc i)) in
      let is_row : at g n ≡ row (1 + i) (0 + c) (taken k w (most i) (0 + start i) s c (get_or (station i c) j [])) (pass (get_or (station i c) j [])) =
      ap (at g) (seat.is ∙ at_item i c a)
      ∙ from_row k items 1 0 source_stage i (begins k w c s + j) seat.known in_Item.0
      ∙ item_row k w pass (1 + i) 0 (most i) (0 + start i) s c j seat.within lt in
      let from : 0 + start i ≡ start i = omega arith in
      let found : get_or (station i c) j [] ≡ a = get_or_index same_list decides_same_list a (station i c) [] seat.held in (
        ap (λ (r : Row). r.item) is_row ∙ omega arith,
        ap (λ (r : Row). r.copies) is_row ∙ omega arith,
        ap (λ (r : Row). r.take) is_row ∙ (λ z. taken k w (most i) (from z) s c (found z)),
      )

  -- every node but the target has its seat
  seat : (n : ℕ) → n < length (loads k items) → Seat ((at g n).item - 1) (at g n).copies (amount n) n
  seat n lt = go (from_cover k items source_stage n lt)
    where
      moved : (i c : ℕ) (a : List ℕ) → Seat i c a n → Seat ((at g n).item - 1) (at g n).copies (amount n) n
      moved i c a s =
          let r = seat_row i c n a s in
          let item : i ≡ (at g n).item - 1 = omega (arith, r.0) in
          subst (λ (z : ℕ). Seat z (at g n).copies (amount n) n) item
          (subst (λ (z : ℕ). Seat i z (amount n) n) (sym r.1) (subst (λ (z : List ℕ). Seat i c z n) (sym (seat_amount i c n a s).1) s))

      go : (i q : ℕ) × (i < length items) × (q < length (all_of i)) × (n ≡ start i + q) → Seat ((at g n).item - 1) (at g n).copies (amount n) n
      go (i, q, hi, hq, is) =
          let s = entering k source_stage items i in
          let in_Item = item_cover k (weight i) (most i) s q hq in
          let c = in_Item.0 in
          let j = in_Item.1 in
          moved i c (get_or (station i c) j []) (record {
            known = hi;
            within = in_Item.2;
            held = has_get_or same_list decides_same_list (station i c) j [] in_Item.3;
            is = omega (arith, is, in_Item.4, once i c j hi in_Item.3);
          })

  abbrev shape : Layered (length items) g
  shape = (compiles_layered k items).0

  long : length g ≡ suc (length (loads k items))
  long = (compiles_layered k items).1

  -- the seat of one copy more
  next_seat : (i c n : ℕ) (a : List ℕ) → Seat i c a n → c < most i → k.fits (k.plus a (weight i)) ≡ true
      → Seat i (suc c) (k.plus a (weight i)) (number i (suc c) (k.plus a (weight i)))
  next_seat i c n a s lt fit = record {
    known = s.known;
    within = lt;
    held = subst (λ (l : List (List ℕ)). holds (k.plus a (weight i)) l ≡ true) (sym (stage_more k (weight i) c (entering k source_stage items i)))
        (holds_raised k (weight i) a (station i c) fit s.held);
    is = refl;
  }

  take_at : (i c n : ℕ) (a x : List ℕ) → Seat i c a n → c < most i → k.plus a (weight i) ≡ x → k.fits x ≡ true → (at g n).take ≡ Some (number i (suc c) x)
  take_at i c n a x s lt sum fit =
      (seat_row i c n a s).2
      ∙ ap (λ (t : Bool). cond t (cond (k.fits (k.plus a (weight i))) (Some (number i (suc c) (k.plus a (weight i)))) None) None) (lt-ltb c (most i) lt)
      ∙ ap (λ (y : List ℕ). cond (k.fits y) (Some (number i (suc c) y)) None) sum
      ∙ ap (λ (t : Bool). cond t (Some (number i (suc c) x)) None) fit

  -- what is known from an arc that is there
  take_back : (i c t : ℕ) (a : List ℕ) → take_of i c a ≡ Some t → (c < most i) × (k.fits (k.plus a (weight i)) ≡ true) × (t ≡ number i (suc c) (k.plus a (weight i)))
  take_back i c t a e = go (ltb c (most i)) refl (k.fits (k.plus a (weight i))) refl
    where
      go : (u : Bool) → ltb c (most i) ≡ u → (v : Bool) → k.fits (k.plus a (weight i)) ≡ v
          → (c < most i) × (k.fits (k.plus a (weight i)) ≡ true) × (t ≡ number i (suc c) (k.plus a (weight i)))
      go true p true q = (ltb-true c (most i) p, q, sym (unsome (number i (suc c) (k.plus a (weight i))) t (rw (p, q) at e)))
      go true p false q = absurd (some≢none t (sym (rw (p, q) at e)))
      go false p v q = absurd (some≢none t (sym (rw p at e)))

  -- the q-th node of an item before the last passes on to its amount
  pass_at : (i q : ℕ) → suc i < length items → q < length (all_of i) → (at g (start i + q)).pass ≡ Some (number (suc i) 0 (get_or (all_of i) q []))
  pass_at i q hi hq =
      let s = entering k source_stage items i in
      let t = entering k source_stage items (suc i) in
      let a = get_or (all_of i) q [] in
      let o = 0 + starts k source_stage items (suc i) in
      let next : o + place a t ≡ number (suc i) 0 a = omega arith in
      ap (λ (r : Row). r.pass) (from_row k items 1 0 source_stage i q (omega arith) hq)
      ∙ item_pass k (weight i) (pass_end (drop (suc i) items) o t) (1 + i) 0 (most i) (0 + start i) s q hq
      ∙ ap (λ (l : List Item). Some (entry l o t a)) (drop_more items (suc i) no_item hi)
      ∙ ap Some next

  -- the place of a node among those of its item
  seat_place : (i c n : ℕ) (a : List ℕ) → Seat i c a n → (q : ℕ) × (q < length (all_of i)) × (n ≡ start i + q) × (get_or (all_of i) q [] ≡ a)
  seat_place i c n a s =
      let e = entering k source_stage items i in
      let in_Item = item_amount k (weight i) (most i) e c (place a (station i c)) s.within (index_lt same_list a (station i c) s.held) in (
        begins k (weight i) c e + place a (station i c),
        in_Item.0,
        s.is ∙ at_item i c a,
        in_Item.1 ∙ get_or_index same_list decides_same_list a (station i c) [] s.held,
      )

  seat_pass : (i c n : ℕ) (a : List ℕ) → Seat i c a n → suc i < length items → (at g n).pass ≡ Some (number (suc i) 0 a)
  seat_pass i c n a s hi =
      let p = seat_place i c n a s in
      ap (λ (z : ℕ). (at g z).pass) p.2 ∙ pass_at i p.0 hi p.1 ∙ ap (λ (z : List ℕ). Some (number (suc i) 0 z)) p.3

  -- the seat at the next item
  entry_seat : (i c n : ℕ) (a : List ℕ) → Seat i c a n → suc i < length items → Seat (suc i) 0 a (number (suc i) 0 a)
  entry_seat i c n a s hi =
      let p = seat_place i c n a s in
      record {
        known = hi;
        within = omega arith;
        held = ap (holds a) (entering_more k items source_stage i s.known) ∙ has_distinct same_list decides_same_list a (all_of i)
            ∙ subst (λ (z : List ℕ). holds z (all_of i) ≡ true) p.3 (has_get_or same_list decides_same_list (all_of i) p.0 [] p.1);
        is = refl;
      }

  -- a node with an arc is not the target
  arc_inner : (n t : ℕ) → Arc g n t → n < length (loads k items)
  arc_inner n t arc = elim (cases_lt n (length (loads k items))) [
    | inl lt ↦ lt
    | inr ge ↦ absurd (none ge arc)
  ]
    where
      end : length (loads k items) ≤ n → n < length g → at g n ≡ row (suc (length items)) 0 None None
      end ge lt = shape.target n (omega (arith, ge, lt, long))

      none : length (loads k items) ≤ n → Arc g n t → ⊥
      none ge (inl e) = some≢none t (sym e ∙ ap (λ (r : Row). r.take) (end ge (take_in_range g n t e)))
      none ge (inr e) = some≢none t (sym e ∙ ap (λ (r : Row). r.pass) (end ge (pass_in_range g n t e)))

  takes : (n : ℕ) → n < length (loads k items) → option_map amount (at g n).take ≡ one_more k (item_at items (at g n).item) (at g n).copies (amount n)
  takes n lt =
      ap (option_map amount) (seat_row i c n a s).2
      ∙ go (ltb c (most i)) (k.fits sum) (λ p q. (seat_amount i (suc c) (number i (suc c) sum) sum (next_seat i c n a s (ltb-true c (most i) p) q)).1)
    where
      i : ℕ
      i = (at g n).item - 1

      c : ℕ
      c = (at g n).copies

      a : List ℕ
      a = amount n

      sum : List ℕ
      sum = k.plus a (weight i)

      s : Seat i c a n
      s = seat n lt

      go : (u v : Bool) → (u ≡ true → v ≡ true → amount (number i (suc c) sum) ≡ sum)
          → option_map amount (cond u (cond v (Some (number i (suc c) sum)) None) None) ≡ cond u (then_some v sum) None
      go true true e = ap Some (e refl refl)
      go true false e = refl
      go false v e = refl

  passes : (n t : ℕ) → (at g n).item < length items → (at g n).pass ≡ Some t → amount t ≡ amount n
  passes n t low e =
      let lt = arc_inner n t (inr e) in
      let i = (at g n).item - 1 in
      let c = (at g n).copies in
      let s = seat n lt in
      let hi : suc i < length items = omega (arith, low, (seat_row i c n (amount n) s).0) in
      let to : t ≡ number (suc i) 0 (amount n) = unsome t (number (suc i) 0 (amount n)) (sym e ∙ seat_pass i c n (amount n) s hi) in
      ap amount to ∙ (seat_amount (suc i) 0 (number (suc i) 0 (amount n)) (amount n) (entry_seat i c n (amount n) s hi)).1

  -- an arc leads to every seat but that of the source
  arc_to : (i c t : ℕ) (a : List ℕ) → Seat i c a t → 0 < t → (n : ℕ) × Arc g n t
  arc_to i (suc c) t a s pos =
      let from = raised_from k (weight i) a (station i c)
      (subst (λ (l : List (List ℕ)). holds a l ≡ true) (stage_more k (weight i) c (entering k source_stage items i)) s.held) in
      let b = get_or (station i c) from.0 [] in
      let before : Seat i c b (number i c b) =
      record { known = s.known; within = omega (arith, s.within); held = has_get_or same_list decides_same_list (station i c) from.0 [] from.1; is = refl } in
      (number i c b, inl (take_at i c (number i c b) b a before s.within from.2 from.3 ∙ ap Some (sym s.is)))
  arc_to (suc i) zero t a s pos =
      let held : holds a (all_of i) ≡ true =
      sym (has_distinct same_list decides_same_list a (all_of i)) ∙ sym (ap (holds a) (entering_more k items source_stage i (omega (arith, s.known)))) ∙ s.held in
      let q = place a (all_of i) in (
        start i + q,
        inr (pass_at i q s.known (index_lt same_list a (all_of i) held)
            ∙ ap (λ (z : List ℕ). Some (number (suc i) 0 z)) (get_or_index same_list decides_same_list a (all_of i) [] held) ∙ ap Some (sym s.is)),
      )
  arc_to zero zero t a s pos = absurd (omega (arith, s.is, index_lt same_list a source_stage s.held))

  reached : (t : ℕ) → 0 < t → t < length g → (n : ℕ) × Arc g n t
  reached t pos lt = elim (cases_lt t (length (loads k items))) [
    | inl inner ↦ arc_to ((at g t).item - 1) (at g t).copies t (amount t) (seat t inner) pos
    | inr ge ↦
        let last : suc (t - 1) < length g = omega (arith, lt, pos) in
        let to = is_some (at g (t - 1)).pass (shape.inner (t - 1) last).1 in
        let ends = shape.passes (t - 1) to.0 to.1 in
        let ahead = shape.by_item (t - 1) to.0 (omega (arith, last)) ends.0 (omega (arith, ends.1)) in
        let is : to.0 ≡ t = omega (arith, ahead, ends.0, ge, lt, long) in
        (t - 1, inr (to.1 ∙ ap Some is))
  ]

  -- the seat of a node, at a station that is known
  seat_at : (n i c : ℕ) → n < length (loads k items) → (at g n).item ≡ suc i → (at g n).copies ≡ c → Seat i c (amount n) n
  seat_at n i c lt item copies =
      let low : (at g n).item - 1 ≡ i = omega (arith, item) in
      subst (λ (z : ℕ). Seat z c (amount n) n) low (subst (λ (z : ℕ). Seat ((at g n).item - 1) z (amount n) n) copies (seat n lt))

  in_order : (s t v : ℕ) → s < t → OneStation g s t → Arc g v t → (u : ℕ) × (u < v) × Arc g u s
  in_order s t v lt same (inl e) =
      let i = (at g v).item - 1 in
      let c = (at g v).copies in
      let a = amount v in
      let x = amount s in
      let l = station i c in
      let ends = shape.takes v t e in
      let hv = seat v (arc_inner v t (inl e)) in
      let back = take_back i c t a (sym (seat_row i c v a hv).2 ∙ e) in
      let hs = seat_at s i (suc c) (omega (arith, lt, ends.0, long)) (same.0 ∙ ends.1 ∙ (seat_row i c v a hv).0) (same.1 ∙ ends.2) in
      let j = place a l in
      let hj : j < length l = index_lt same_list a l hv.held in
      let found : get_or l j [] ≡ a = get_or_index same_list decides_same_list a l [] hv.held in
      let sum : k.plus (get_or l j []) (weight i) ≡ k.plus a (weight i) = ap (λ (z : List ℕ). k.plus z (weight i)) found in
      let less : place x (station i (suc c)) < place (k.plus a (weight i)) (station i (suc c)) = omega (arith, lt, hs.is, back.2) in
      let first = raised_before k (weight i) x l j hj (ap k.fits sum ∙ back.1)
      (subst (λ (z : List (List ℕ)). place x z < place (k.plus (get_or l j []) (weight i)) z) (stage_more k (weight i) c (entering k source_stage items i))
      (subst (λ (z : List ℕ). place x (station i (suc c)) < place z (station i (suc c))) (sym sum) less)) in
      let b = get_or l first.0 [] in
      let hb : first.0 < length l = omega (arith, first.1, hj) in
      let u : Seat i c b (number i c b) = record { known = hv.known; within = hv.within; held = has_get_or same_list decides_same_list l first.0 [] hb; is = refl } in (
        number i c b,
        omega (arith, hv.is, first.1, index_le same_list decides_same_list b l first.0 [] hb refl),
        inl (take_at i c (number i c b) b x u back.0 first.2 first.3 ∙ ap Some (sym hs.is)),
      )
  in_order s t v lt same (inr e) =
      let i = (at g v).item - 1 in
      let c = (at g v).copies in
      let a = amount v in
      let x = amount s in
      let ends = shape.passes v t e in
      let hv = seat v (arc_inner v t (inr e)) in
      let lt_s : s < length (loads k items) = omega (arith, lt, ends.0, long) in
      let item : (at g s).item ≡ suc (suc i) = same.0 ∙ ends.1 ∙ ap suc (seat_row i c v a hv).0 in
      let hs = seat_at s (suc i) 0 lt_s item (same.1 ∙ ends.2) in
      let to : t ≡ number (suc i) 0 a = unsome t (number (suc i) 0 a) (sym e ∙ seat_pass i c v a hv hs.known) in
      let p = seat_place i c v a hv in
      let less : place x (station (suc i) 0) < place a (station (suc i) 0) = omega (arith, lt, hs.is, to) in
      let first = distinct_before x (all_of i) p.0 p.1
      (subst (λ (z : List (List ℕ)). place x z < place (get_or (all_of i) p.0 []) z) (entering_more k items source_stage i hv.known)
      (subst (λ (z : List ℕ). place x (station (suc i) 0) < place z (station (suc i) 0)) (sym p.3) less)) in (
        start i + first.0,
        omega (arith, p.2, first.1),
        inr (pass_at i first.0 hs.known (omega (arith, first.1, p.1)) ∙ ap (λ (z : List ℕ). Some (number (suc i) 0 z)) first.2 ∙ ap Some (sym hs.is)),
      )

source_empty : (k : Meaning) (items : List Item) → 0 < length (loads k items) → get_or (loads k items) 0 [] ≡ k.empty
source_empty k [] lt = absurd (omega arith)
source_empty k (x ∷ xs) lt = go x.most (loads_from k (after k x (k.empty ∷ [])) xs)
  where
    go : (b : ℕ) (rest : List (List ℕ)) → get_or (layer k x.weight b (k.empty ∷ []) ++ rest) 0 [] ≡ k.empty
    go zero rest = refl
    go (suc b) rest = refl

pub compiled_stepped : CompiledStepped
compiled_stepped k items = record {
  layered = (compiles_layered k items).0;
  one_amount = (compiles_layered k items).1;
  source = source_empty k items;
  distinct = λ n t hn ht same amounts.
      (seat k items n hn).is ∙ (λ z. number k items (same.0 z - 1) (same.1 z) (amounts z)) ∙ sym (seat k items t ht).is;
  takes = takes k items;
  passes = passes k items;
  reached = reached k items;
  in_order = in_order k items;
}
