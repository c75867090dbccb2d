-- The rule of joining fixes the joined graph, and its numbering.
use Rattle.std.proofs.Common.{◌≡◌, ℕ, zero, suc, ◌+◌, ◌<◌, ◌≤◌, ◌⊎◌, List, length, Some, None, Option, sym, refl, ap, ◌∙◌, inl, inr, arith}
use Rattle.std.specs.Option.{option_map}
use Rattle.std.proofs.lemmas.List.{ext_get_or}
use Rattle.std.proofs.lemmas.Bool.{cases_lt, cases_eq, cases_order}
use Rattle.graph.specs.declared.Row.{Row}
use Rattle.graph.specs.Graph.{row, blank, at, Layered}
use Rattle.graph.specs.Reduced.{led}
use Rattle.graph.specs.Laws.{Joins, JoinsFix}
use Rattle.packing.proofs.Options.{some≢none, unsome}
use Rattle.graph.proofs.Joined.{led_same}
use Rattle.graph.proofs.Reduce.{arcs_ahead}

-- the lowest of the numbers below b at which f is y, if there is one
first_below : (f : ℕ → ℕ) (y b : ℕ) → ((v : ℕ) → v < b → f v ≡ y → ⊥) ⊎ ((u : ℕ) × (u < b) × (f u ≡ y) × ((v : ℕ) → v < u → f v ≡ y → ⊥))
first_below f y zero = inl (λ v lt. absurd (omega arith))
first_below f y (suc b) = go (first_below f y b)
  where
    last : ((v : ℕ) → v < b → f v ≡ y → ⊥) → (f b ≡ y → ⊥) → (v : ℕ) → v < suc b → f v ≡ y → ⊥
    last none ne v lt e = elim (cases_lt v b) [ inl below ↦ none v below e | inr ge ↦ ne (ap f (sym (same v lt ge)) ∙ e) ]
      where
        same : (v : ℕ) → v < suc b → b ≤ v → v ≡ b
        same v lt ge = omega arith

    go : ((v : ℕ) → v < b → f v ≡ y → ⊥) ⊎ ((u : ℕ) × (u < b) × (f u ≡ y) × ((v : ℕ) → v < u → f v ≡ y → ⊥))
        → ((v : ℕ) → v < suc b → f v ≡ y → ⊥) ⊎ ((u : ℕ) × (u < suc b) × (f u ≡ y) × ((v : ℕ) → v < u → f v ≡ y → ⊥))
    go (inr (u, lt, e, none)) = inr (u, omega arith, e, none)
    go (inl none) = elim (cases_eq (f b) y) [ inl e ↦ inr (b, omega arith, e, none) | inr ne ↦ inl (last none ne) ]

module _ (m : ℕ) (g : List Row) (st : Layered m g) where
  -- arcs that one numbering leads to the same node, so does another, if it does so for the higher nodes
  same_arc : (f f' : ℕ → ℕ) (o p : Option ℕ) → ((a b : ℕ) → o ≡ Some a → p ≡ Some b → f a ≡ f b → f' a ≡ f' b) → option_map f o ≡ option_map f p → option_map f' o ≡ option_map f' p
  same_arc f f' None None h e = refl
  same_arc f f' None (Some b) h e = absurd (some≢none (f b) (sym e))
  same_arc f f' (Some a) None h e = absurd (some≢none (f a) e)
  same_arc f f' (Some a) (Some b) h e = ap Some (h a b refl refl (unsome (f a) (f b) e))

  joined_both : (h h' : List Row) (new new' : ℕ → ℕ) → Joins g h new → Joins g h' new' → (d n t : ℕ) → n < length g → t < length g
      → length g ≤ n + d → length g ≤ t + d → new n ≡ new t → new' n ≡ new' t
  joined_both h h' new new' j j' zero n t hn ht dn dt e = absurd (omega arith)
  joined_both h h' new new' j j' (suc d) n t hn ht dn dt e =
      let rows : led new (at g n) ≡ led new (at g t) = sym (j.rows n hn) ∙ ap (at h) e ∙ j.rows t ht in
      let up = arcs_ahead m g st in
      let item = ap (λ (r : Row). r.item) rows in
      let copies = ap (λ (r : Row). r.copies) rows in
      let taken = same_arc new new' (at g n).take (at g t).take
      (λ a b ea eb. joined_both h h' new new' j j' d a b (st.takes n a ea).0 (st.takes t b eb).0 (omega (arith, (up n a).0 ea)) (omega (arith, (up t b).0 eb)))
      (ap (λ (r : Row). r.take) rows) in
      let passed = same_arc new new' (at g n).pass (at g t).pass
      (λ a b ea eb. joined_both h h' new new' j j' d a b (st.passes n a ea).0 (st.passes t b eb).0 (omega (arith, (up n a).1 ea)) (omega (arith, (up t b).1 eb)))
      (ap (λ (r : Row). r.pass) rows) in
      j'.joined n t hn ht (λ i. row (item i) (copies i) (taken i) (passed i))

  -- a number below that of a lowest node is that of a lower node
  below : (h : List Row) (new : ℕ → ℕ) → Joins g h new → (n v : ℕ) → n < length g → v < new n → (u : ℕ) × (u < n) × (new u ≡ v)
  below h new j n v hn lt = go (first_below new v (length g)) (j.onto v (omega (arith, j.in_range n hn)))
    where
      go : ((u : ℕ) → u < length g → new u ≡ v → ⊥) ⊎ ((u : ℕ) × (u < length g) × (new u ≡ v) × ((w : ℕ) → w < u → new w ≡ v → ⊥))
          → (u : ℕ) × (u < length g) × (new u ≡ v) → (u : ℕ) × (u < n) × (new u ≡ v)
      go (inl none) (u, hu, e) = absurd (none u hu e)
      go (inr (u, hu, e, none)) other = elim (cases_order u n) [
        | inl same ↦ absurd (omega (arith, lt, e, ap new same))
        | inr rest ↦ elim rest [
          | inl less ↦ (u, less, e)
          | inr more ↦ absurd (omega (arith, lt, e, j.in_order n u more hu (λ w hw q. none w hw (q ∙ e))))
        ]
      ]

  not_less : (h h' : List Row) (new new' : ℕ → ℕ) → Joins g h new → Joins g h' new' → (n : ℕ) → n < length g → ((u : ℕ) → u < n → new u ≡ new' u)
      → ((u : ℕ) → u < n → new u ≡ new n → ⊥) → new n < new' n → ⊥
  not_less h h' new new' j j' n hn ih first lt =
      let b = below h' new' j' n (new n) hn lt in
      first b.0 b.1 (ih b.0 b.1 ∙ b.2)

  same_numbers : (h h' : List Row) (new new' : ℕ → ℕ) → Joins g h new → Joins g h' new' → (b n : ℕ) → n < b → n < length g → new n ≡ new' n
  same_numbers h h' new new' j j' zero n lt hn = absurd (omega arith)
  same_numbers h h' new new' j j' (suc b) n lt hn = go (λ u hu. same_numbers h h' new new' j j' b u (omega arith) (omega arith)) (first_below new (new n) n)
    where
      go : ((u : ℕ) → u < n → new u ≡ new' u) → ((u : ℕ) → u < n → new u ≡ new n → ⊥) ⊎ ((u : ℕ) × (u < n) × (new u ≡ new n) × ((v : ℕ) → v < u → new v ≡ new n → ⊥)) → new n ≡ new' n
      go ih (inr (u, hu, e, none)) =
          sym e ∙ ih u hu ∙ joined_both h h' new new' j j' (length g) u n (omega arith) hn (omega arith) (omega arith) e
      go ih (inl first) =
          let first' : (u : ℕ) → u < n → new' u ≡ new' n → ⊥ =
          λ u hu e. first u hu (joined_both h' h new' new j' j (length g) u n (omega arith) hn (omega arith) (omega arith) e) in
          elim (cases_order (new n) (new' n)) [
            | inl same ↦ same
            | inr rest ↦ elim rest [
              | inl less ↦ absurd (not_less h h' new new' j j' n hn ih first less)
              | inr more ↦ absurd (not_less h' h new' new j' j n hn (λ u hu. sym (ih u hu)) first' more)
            ]
          ]

  no_longer : (h h' : List Row) (new new' : ℕ → ℕ) → Joins g h new → Joins g h' new' → length h < length h' → ⊥
  no_longer h h' new new' j j' lt =
      let o = j'.onto (length h) lt in
      omega (arith, j.in_range o.0 o.1, same_numbers h h' new new' j j' (suc o.0) o.0 (omega arith) o.1, o.2)

  pub one_reduction : (h h' : List Row) (new new' : ℕ → ℕ) → Joins g h new → Joins g h' new' → h ≡ h'
  one_reduction h h' new new' j j' = ext_get_or blank h h' long each
    where
      same : (n : ℕ) → n < length g → new n ≡ new' n
      same n hn = same_numbers h h' new new' j j' (suc n) n (omega arith) hn

      long : length h ≡ length h'
      long = elim (cases_order (length h) (length h')) [
        | inl e ↦ e
        | inr rest ↦ elim rest [ inl less ↦ absurd (no_longer h h' new new' j j' less) | inr more ↦ absurd (no_longer h' h new' new j' j more) ]
      ]

      each : (v : ℕ) → v < length h → at h v ≡ at h' v
      each v lt =
          let o = j.onto v lt in
          let u = o.0 in
          ap (at h) (sym o.2) ∙ j.rows u o.1
          ∙ led_same new new' (at g u) (λ t e. same t (st.takes u t e).0) (λ t e. same t (st.passes u t e).0)
          ∙ sym (j'.rows u o.1) ∙ ap (at h') (sym (same u o.1) ∙ o.2)

pub joins_fix : JoinsFix
joins_fix m g h h' new new' st j j' = one_reduction m g st h h' new new' j j'
