-- The rule of numbering leaves just one graph.
-- Node by node in rising order: graphs that agree on all nodes before n have the same arcs from them, and so the same node n.
use Rattle.std.proofs.Common.{◌≡◌, ℕ, zero, suc, ◌<◌, ◌≤◌, List, [], length, get_or, Some, None, Option, sym, refl, ap, ◌∙◌, subst, inl, inr, arith}
use Rattle.std.specs.Option.{option_map}
use Rattle.std.proofs.lemmas.List.{ext_get_or}
use Rattle.std.proofs.lemmas.Bool.{cases_lt, cases_eq, cases_order}
use Rattle.limits.specs.Meaning.{Meaning}
use Rattle.packing.specs.Packing.{Item}
use Rattle.packing.proofs.Options.{some≢none, unsome}
use Rattle.graph.specs.declared.Row.{Row}
use Rattle.graph.specs.Graph.{row, blank, at}
use Rattle.graph.specs.Numbering.{item_at, Arc, OneStation, one_more, Stepped, NumberingFixed}
use Rattle.graph.proofs.Reduce.{is_some, mapped_some, pass_in_range, take_in_range}

-- node n of one graph and node t of another have the same station and the same amount
record Alike (g : List Row) (a : List (List ℕ)) (n : ℕ) (h : List Row) (b : List (List ℕ)) (t : ℕ) : Type 0 where
  item : (at g n).item ≡ (at h t).item
  copies : (at g n).copies ≡ (at h t).copies
  amount : get_or a n [] ≡ get_or b t []

alike_back : (g h : List Row) (a b : List (List ℕ)) (n t : ℕ) → Alike g a n h b t → Alike h b t g a n
alike_back g h a b n t e = record { item = sym e.item; copies = sym e.copies; amount = sym e.amount }

-- node u is in both graphs, and alike, or in neither
record Agree (g h : List Row) (a b : List (List ℕ)) (u : ℕ) : Type 0 where
  there : u < length a → u < length b
  back : u < length b → u < length a
  alike : u < length a → Alike g a u h b u

agree_back : (g h : List Row) (a b : List (List ℕ)) (u : ℕ) → Agree g h a b u → Agree h g b a u
agree_back g h a b u e = record { there = e.back; back = e.there; alike = λ lt. alike_back g h a b u u (e.alike (e.back lt)) }

module _ (k : Meaning) (items : List Item) where
  -- a node of an item has an amount
  has_amount : (g : List Row) (a : List (List ℕ)) → Stepped k items g a → (n : ℕ) → n < length g → (at g n).item ≤ length items → n < length a
  has_amount g a st n lt le = elim (cases_lt n (length a)) [
    | inl ok ↦ ok
    | inr ge ↦ absurd (omega (arith, ap (λ (r : Row). r.item) (st.layered.target n (omega (arith, st.one_amount)))))
  ]

  item_low : (g : List Row) (a : List (List ℕ)) → Stepped k items g a → (n : ℕ) → n < length a → (at g n).item ≤ length items
  item_low g a st n lt = (st.layered.inner n (omega (arith, st.one_amount))).0

  -- an arc to a station comes from before all of its nodes
  arc_before : (g : List Row) (a : List (List ℕ)) → Stepped k items g a → (v n t : ℕ) → n < length g → OneStation g n t → Arc g v t → v < n
  arc_before g a st v n t lt same (inl e) =
      let to = st.layered.takes v t e in
      st.layered.by_copies v n (take_in_range g v t e) lt (omega (arith, to.1, same.0)) (omega (arith, to.2, same.1))
  arc_before g a st v n t lt same (inr e) =
      let to = st.layered.passes v t e in
      st.layered.by_item v n (pass_in_range g v t e) lt (omega (arith, to.1, same.0))

  one_more_alike : (g h : List Row) (a b : List (List ℕ)) (n t : ℕ) → Alike g a n h b t → one_more k (item_at items (at g n).item) (at g n).copies (get_or a n []) ≡ one_more k (item_at items (at h t).item) (at h t).copies (get_or b t [])
  one_more_alike g h a b n t e =
      λ i. one_more k (item_at items (e.item i)) (e.copies i) (e.amount i)

  -- from nodes that are alike, arcs lead to nodes that are alike
  carried : (g h : List Row) (a b : List (List ℕ)) → Stepped k items g a → Stepped k items h b → (n t x : ℕ) → n < length a → t < length b → Alike g a n h b t
      → x < length a → Arc g n x → (y : ℕ) × (y < length b) × Arc h t y × Alike g a x h b y
  carried g h a b st sh n t x hn ht same hx (inl e) =
      let f : ℕ → List ℕ = λ z. get_or b z [] in
      let to = mapped_some f (at h t).take (get_or a x [])
      (sh.takes t ht ∙ sym (one_more_alike g h a b n t same) ∙ sym (st.takes n hn) ∙ ap (option_map (λ z. get_or a z [])) e) in
      let ends = st.layered.takes n x e in
      let ends' = sh.layered.takes t to.0 to.1 in (
        to.0,
        has_amount h b sh to.0 ends'.0 (omega (arith, ends'.1, item_low h b sh t ht)),
        inl to.1,
        record { item = ends.1 ∙ same.item ∙ sym ends'.1; copies = ends.2 ∙ ap suc same.copies ∙ sym ends'.2; amount = sym to.2 },
      )
  carried g h a b st sh n t x hn ht same hx (inr e) =
      let to = is_some (at h t).pass (sh.layered.inner t (omega (arith, sh.one_amount))).1 in
      let ends = st.layered.passes n x e in
      let ends' = sh.layered.passes t to.0 to.1 in
      let low : (at g n).item < length items = omega (arith, ends.1, item_low g a st x hx) in
      let low' : (at h t).item < length items = omega (arith, low, same.item) in (
        to.0,
        has_amount h b sh to.0 ends'.0 (omega (arith, ends'.1, low')),
        inr to.1,
        record {
          item = ends.1 ∙ ap suc same.item ∙ sym ends'.1;
          copies = ends.2 ∙ sym ends'.2;
          amount = st.passes n x low e ∙ same.amount ∙ sym (sh.passes t to.0 low' to.1);
        },
      )

  -- an arc from a node on which the graphs agree leads to the node that is alike
  moved : (g h : List Row) (a b : List (List ℕ)) → Stepped k items g a → Stepped k items h b → (v n t : ℕ) → Agree g h a b v
      → n < length a → t < length b → v < n → Alike g a n h b t → Arc g v n → Arc h v t
  moved g h a b st sh v n t agree hn ht lt same arc =
      let hv : v < length a = omega arith in
      let to = carried g h a b st sh v v n hv (agree.there hv) (agree.alike hv) hn arc in
      let one : to.0 ≡ t = sh.distinct to.0 t to.1 ht (sym to.3.item ∙ same.item, sym to.3.copies ∙ same.copies) (sym to.3.amount ∙ same.amount) in
      subst (λ (z : ℕ). Arc h v z) one to.2

  -- node n has one that is alike, and not before it, in a graph that agrees on all nodes before n
  found : (g h : List Row) (a b : List (List ℕ)) → Stepped k items g a → Stepped k items h b → (n : ℕ) → ((u : ℕ) → u < n → Agree g h a b u)
      → 0 < n → n < length a → (t : ℕ) × (n ≤ t) × (t < length b) × Alike g a n h b t
  found g h a b st sh n agree pos hn = go (st.reached n pos (omega (arith, st.one_amount)))
    where
      go : (v : ℕ) × Arc g v n → (t : ℕ) × (n ≤ t) × (t < length b) × Alike g a n h b t
      go (v, arc) =
          let lt : v < n = arc_before g a st v n n (omega (arith, st.one_amount)) (refl, refl) arc in
          let hv : v < length a = omega arith in
          let to = carried g h a b st sh v v n hv ((agree v lt).there hv) ((agree v lt).alike hv) hn arc in
          (to.0, late to.0 to.1 to.3, to.1, to.3)
        where
          late : (t : ℕ) → t < length b → Alike g a n h b t → n ≤ t
          late t ht same = elim (cases_lt t n) [
            | inr le ↦ le
            | inl lt ↦
                let at_t = (agree t lt).alike ((agree t lt).back ht) in
                absurd (omega (
                  arith,
                  st.distinct n t hn ((agree t lt).back ht) (same.item ∙ sym at_t.item, same.copies ∙ sym at_t.copies) (same.amount ∙ sym at_t.amount),
                ))
          ]

  -- nodes in order stand in the order of their stations
  in_station : (g : List Row) (a : List (List ℕ)) → Stepped k items g a → (n t : ℕ) → n < t → t < length g
      → ((at g n).item ≤ (at g t).item) × ((at g n).item ≡ (at g t).item → (at g n).copies ≤ (at g t).copies)
  in_station g a st n t lt ht = (
    elim (cases_lt (at g t).item (at g n).item) [ inr le ↦ le | inl less ↦ absurd (omega (arith, st.layered.by_item t n ht (omega arith) less)) ],
    λ same. elim (cases_lt (at g t).copies (at g n).copies) [
      | inr le ↦ le
      | inl less ↦ absurd (omega (arith, st.layered.by_copies t n ht (omega arith) (sym same) less))
    ],
  )

  -- Two nodes of a station can't stand at n and later in one graph, and the other way round in the other: the first arc to the
  -- one would come before the first arc to the other, and after it.
  no_crossing : (g h : List Row) (a b : List (List ℕ)) → Stepped k items g a → Stepped k items h b → (n s t : ℕ) → ((u : ℕ) → u < n → Agree g h a b u)
      → n < s → s < length a → n < t → t < length b → Alike g a n h b t → Alike h b n g a s → OneStation g n s → OneStation h n t
      → (d v : ℕ) → v < d → Arc g v n → ⊥
  no_crossing g h a b st sh n s t agree ns hs nt ht same back in_g in-h zero v lt arc = absurd (omega arith)
  no_crossing g h a b st sh n s t agree ns hs nt ht same back in_g in-h (suc d) v lt arc =
      let low : v < n = arc_before g a st v n n (omega (arith, st.one_amount)) (refl, refl) arc in
      let first = sh.in_order n t v nt in-h (moved g h a b st sh v n t (agree v low) (omega arith) ht low same arc) in
      let low' : first.0 < n = arc_before h b sh first.0 n n (omega (arith, sh.one_amount)) (refl, refl) first.2 in
      let next = st.in_order n s first.0 ns in_g
      (moved h g b a sh st first.0 n s (agree_back g h a b first.0 (agree first.0 low')) (omega arith) hs low' back first.2) in
      no_crossing g h a b st sh n s t agree ns hs nt ht same back in_g in-h d next.0 (omega (arith, first.1, next.1)) next.2

  -- so the graphs agree on node n, if it is in one of them
  agree_next : (g h : List Row) (a b : List (List ℕ)) → Stepped k items g a → Stepped k items h b → (n : ℕ) → ((u : ℕ) → u < n → Agree g h a b u)
      → n < length a → (n < length b) × Alike g a n h b n
  agree_next g h a b st sh zero agree hn =
      let source = st.layered.source in
      let source' = sh.layered.source in
      let hn' : 0 < length b = has_amount h b sh 0 sh.layered.some_node (omega (arith, source.0, source'.0, item_low g a st 0 hn)) in (
        hn',
        record { item = source.0 ∙ sym source'.0; copies = source.1 ∙ sym source'.1; amount = st.source hn ∙ sym (sh.source hn') },
      )
  agree_next g h a b st sh (suc m) agree hn =
      let to = found g h a b st sh n agree (omega arith) hn in
      let hn' : n < length b = omega (arith, to.1, to.2) in
      let from = found h g b a sh st n (λ u lt. agree_back g h a b u (agree u lt)) (omega arith) hn' in
      (hn', go to from hn')
    where
      n : ℕ
      n = suc m

      crossed : (t : ℕ) → n < t → t < length b → Alike g a n h b t → (s : ℕ) → n < s → s < length a → Alike h b n g a s → n < length b → ⊥
      crossed t nt ht same s ns hs back hn' =
          let one = in_station g a st n s ns (omega (arith, st.one_amount)) in
          let two = in_station h b sh n t nt (omega (arith, sh.one_amount)) in
          let item : (at g n).item ≡ (at g s).item = omega (arith, one.0, two.0, same.item, back.item) in
          let item' : (at h n).item ≡ (at h t).item = omega (arith, one.0, two.0, same.item, back.item) in
          let copies : (at g n).copies ≡ (at g s).copies = omega (arith, one.1 item, two.1 item', same.copies, back.copies) in
          let copies' : (at h n).copies ≡ (at h t).copies = omega (arith, one.1 item, two.1 item', same.copies, back.copies) in
          let arc = st.reached n (omega arith) (omega (arith, st.one_amount)) in
          no_crossing g h a b st sh n s t agree ns hs nt ht same back (item, copies) (item', copies') (suc arc.0) arc.0 (omega arith) arc.1

      go : (t : ℕ) × (n ≤ t) × (t < length b) × Alike g a n h b t → (s : ℕ) × (n ≤ s) × (s < length a) × Alike h b n g a s → n < length b → Alike g a n h b n
      go (t, nt, ht, same) (s, ns, hs, back) hn' = elim (cases_eq t n) [
        | inl e ↦ subst (λ (z : ℕ). Alike g a n h b z) e same
        | inr differ ↦ elim (cases_eq s n) [
          | inl e ↦ alike_back h g b a n n (subst (λ (z : ℕ). Alike h b n g a z) e back)
          | inr other ↦ absurd (crossed t (omega (arith, nt, λ (e : t ≡ n). differ e)) ht same s (omega (arith, ns, λ (e : s ≡ n). other e)) hs back hn')
        ]
      ]

  agree_all : (g h : List Row) (a b : List (List ℕ)) → Stepped k items g a → Stepped k items h b → (d n : ℕ) → n < d → Agree g h a b n
  agree_all g h a b st sh zero n lt = absurd (omega arith)
  agree_all g h a b st sh (suc d) n lt =
      let before : (u : ℕ) → u < n → Agree g h a b u = λ u less. agree_all g h a b st sh d u (omega arith) in
      record {
        there = λ hn. (agree_next g h a b st sh n before hn).0;
        back = λ hn. (agree_next h g b a sh st n (λ u less. agree_back g h a b u (before u less)) hn).0;
        alike = λ hn. (agree_next g h a b st sh n before hn).1;
      }

  module _ (g h : List Row) (a b : List (List ℕ)) (st : Stepped k items g a) (sh : Stepped k items h b) where
    agree : (n : ℕ) → Agree g h a b n
    agree n = agree_all g h a b st sh (suc n) n (omega arith)

    same_length : length a ≡ length b
    same_length = elim (cases_order (length a) (length b)) [
      | inl e ↦ e
      | inr rest ↦ elim rest [
        | inl less ↦ absurd (omega (arith, (agree (length a)).back less))
        | inr more ↦ absurd (omega (arith, (agree (length b)).there more))
      ]
    ]

    same_amounts : a ≡ b
    same_amounts = ext_get_or [] a b same_length (λ n lt. ((agree n).alike lt).amount)

    -- a node of one graph and a node of the other, of one station and with one amount, have the same number
    same_number : (x y : ℕ) → x < length g → y < length h → (at g x).item ≡ (at h y).item → (at g x).copies ≡ (at h y).copies
        → ((at g x).item ≤ length items → get_or a x [] ≡ get_or b y []) → x ≡ y
    same_number x y hx hy item copies amount = elim (cases_lt x (length a)) [
      | inl lt ↦
          let low = item_low g a st x lt in
          let other = (agree y).alike ((agree y).back (has_amount h b sh y hy (omega (arith, low, item)))) in
          st.distinct x y lt ((agree y).back (has_amount h b sh y hy (omega (arith, low, item))))
          (item ∙ sym other.item, copies ∙ sym other.copies) (amount low ∙ sym other.amount)
      | inr ge ↦ elim (cases_lt y (length b)) [
        | inl lt ↦ absurd (omega (arith, ge, has_amount g a st x hx (omega (arith, item, item_low h b sh y lt))))
        | inr ge' ↦ omega (arith, hx, hy, ge, ge', same_length, st.one_amount, sh.one_amount)
      ]
    ]

    same_take : (n : ℕ) → n < length a → Alike g a n h b n → (at g n).take ≡ (at h n).take
    same_take n hn same = go (at g n).take (at h n).take refl refl
        (st.takes n hn ∙ one_more_alike g h a b n n same ∙ sym (sh.takes n ((agree n).there hn)))
      where
        go : (o p : Option ℕ) → (at g n).take ≡ o → (at h n).take ≡ p → option_map (λ t. get_or a t []) (at g n).take ≡ option_map (λ t. get_or b t []) (at h n).take → o ≡ p
        go None None eo ep e = refl
        go None (Some y) eo ep e = absurd (some≢none (get_or b y []) (sym (rw (eo, ep) at e)))
        go (Some x) None eo ep e = absurd (some≢none (get_or a x []) (rw (eo, ep) at e))
        go (Some x) (Some y) eo ep e =
            let p = st.layered.takes n x eo in
            let q = sh.layered.takes n y ep in
            ap Some (same_number x y p.0 q.0 (p.1 ∙ same.item ∙ sym q.1) (p.2 ∙ ap suc same.copies ∙ sym q.2)
            (λ low. unsome (get_or a x []) (get_or b y []) (rw (eo, ep) at e)))

    same_pass : (n : ℕ) → n < length a → Alike g a n h b n → (at g n).pass ≡ (at h n).pass
    same_pass n hn same =
        let to = is_some (at g n).pass (st.layered.inner n (omega (arith, st.one_amount))).1 in
        let to' = is_some (at h n).pass (sh.layered.inner n (omega (arith, (agree n).there hn, sh.one_amount))).1 in
        let p = st.layered.passes n to.0 to.1 in
        let q = sh.layered.passes n to'.0 to'.1 in
        to.1
        ∙ ap Some (same_number to.0 to'.0 p.0 q.0 (p.1 ∙ ap suc same.item ∙ sym q.1) (p.2 ∙ sym q.2)
        (λ low. st.passes n to.0 (omega (arith, p.1, low)) to.1 ∙ same.amount ∙ sym (sh.passes n to'.0 (omega (arith, p.1, same.item, low)) to'.1)))
        ∙ sym to'.1

    same_row : (n : ℕ) → n < length g → at g n ≡ at h n
    same_row n lt = elim (cases_lt n (length a)) [
      | inl hn ↦
          let same = (agree n).alike hn in
          let taken = same_take n hn same in
          let passed = same_pass n hn same in
          λ i. row (same.item i) (same.copies i) (taken i) (passed i)
      | inr ge ↦ st.layered.target n (omega (arith, st.one_amount)) ∙ sym (sh.layered.target n (omega (arith, same_length, st.one_amount, sh.one_amount)))
    ]

    same_graph : g ≡ h
    same_graph = ext_get_or blank g h (omega (arith, same_length, st.one_amount, sh.one_amount)) same_row

pub numbering_fixed : NumberingFixed
numbering_fixed k items g h amounts others st sh = (same_graph k items g h amounts others st sh, same_amounts k items g h amounts others st sh)
