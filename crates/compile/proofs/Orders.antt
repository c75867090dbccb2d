-- Items with which nothing is wrong, one by one.
use Rattle.std.proofs.Common.{◌≡◌, ℕ, zero, suc, ◌+◌, ◌<◌, ◌≤◌, Bool, true, false, cond, ◌&&◌, ◌||◌, not, eqb, ltb, leb, ◌⊎◌, List, [], ◌∷◌, ◌++◌, length, get_or, Some, None, Ok, Option, sym, refl, ap, ◌∙◌, inl, inr, arith}
use lib.ListN.{length-map}
use Rattle.std.specs.List.{position, position_from}
use Rattle.std.specs.Option.{option_map}
use Rattle.std.proofs.lemmas.Iterator.Adapters.{position_from-zero}
use Rattle.std.proofs.lemmas.List.{get_or-map, get_or_append_left, get_or_at}
use Rattle.std.proofs.lemmas.Bool.{false≢true, and_parts, or_parts, eqb-true, eqb-false, ltb-false, le-ltb}
use Rattle.limits.specs.Meaning.{Meaning}
use Rattle.packing.specs.declared.Item.{Item as Given}
use Rattle.packing.specs.Problem.{Order, fits_alone, fair, unfair, flaw, weight_of, item_of}
use Rattle.packing.specs.Given.{fields_of, order_of, orders_of}
use Rattle.packing.proofs.Options.{some≢none}
use Rattle.packing.proofs.Orders.{finds_flaws}
use Rattle.compile.specs.declared.weighed.Weighed.{Weighed}
use Rattle.compile.specs.Items.{Weighs}
use Rattle.compile.specs.Build.{items_of}
use Rattle.compile.specs.Checks.{verdict}
use Rattle.compile.proofs.Begun.{packed}

unfair_none : (k : Meaning) (orders : List Order) (i j : ℕ) (d : Order) → unfair k i orders ≡ None → j < length orders → fair k (get_or orders j d) ≡ true
unfair_none k [] i j d e lt = absurd (omega arith)
unfair_none k (x ∷ orders) i j d e lt = go (fair k x) refl e j lt (λ m. unfair_none k orders (suc i) m d)
  where
    go : (b : Bool) → fair k x ≡ b → cond b (unfair k (suc i) orders) (Some i) ≡ None → (j : ℕ) → j < length (x ∷ orders)
        → ((m : ℕ) → unfair k (suc i) orders ≡ None → m < length orders → fair k (get_or orders m d) ≡ true) → fair k (get_or (x ∷ orders) j d) ≡ true
    go true h e zero lt more = h
    go true h e (suc j) lt more = more j e (omega arith)
    go false h e j lt more = absurd (some≢none i e)

-- what is not refused has no flaw
pub passed : (o : Option ℕ) → Ok tt ≡ verdict o → o ≡ None
passed None e = refl
passed (Some i) e = let z : ◌≡◌ {A = ℕ} 0 1 = cc in absurd (omega arith)

-- items, taken apart into the last one and those before it
pub inner_is : (its inner : List Given) (last d : Given) (i : ℕ) → its ≡ inner ++ last ∷ [] → i < length inner → get_or its i d ≡ get_or inner i d
inner_is its inner last d i e lt = rw e (get_or_append_left inner (last ∷ []) d i lt)

pub last_is : (its inner : List Given) (last d : Given) (i : ℕ) → its ≡ inner ++ last ∷ [] → length inner ≡ i → get_or its i d ≡ last
last_is its inner last d i e long = rw e (get_or_at inner last [] d i long)

module _ (k : Meaning) where
  -- an item with which something is wrong
  abbrev pub wrong : Given → Bool
  wrong x = not (fair k (order_of x))

  unfair_first : (i : ℕ) (its : List Given) → unfair k i (orders_of its) ≡ position_from wrong i its
  unfair_first i [] = refl
  unfair_first i (x ∷ its) =
      let next : suc i ≡ i + 1 = omega arith in
      go (fair k (order_of x)) (ap (λ (n : ℕ). unfair k n (orders_of its)) next ∙ unfair_first (i + 1) its)
    where
      go : (b : Bool) {o p : Option ℕ} → o ≡ p → cond b o (Some i) ≡ cond (not b) (Some i) p
      go true e = e
      go false e = refl

  later : (i : ℕ) (its : List Given) → position_from wrong (i + 1) its ≡ option_map (λ n. n + 1) (position_from wrong i its)
  later i [] = refl
  later i (x ∷ its) = go (wrong x) _ _ (later (i + 1) its)
    where
      go : (b : Bool) (o p : Option ℕ) → o ≡ option_map (λ n. n + 1) p → cond b (Some (i + 1)) o ≡ option_map (λ n. n + 1) (cond b (Some i) p)
      go true o p e = refl
      go false o p e = e

module _ (k : Meaning) (its : List Given) where
  number : length (orders_of its) ≡ length its
  number = length-map its order_of

  pub number_of_items : length (items_of k its) ≡ length its
  number_of_items = length-map (orders_of its) (item_of k) ∙ number

  order_at : (i : ℕ) (d : Given) (e : Order) → i < length its → get_or (orders_of its) i e ≡ order_of (get_or its i d)
  order_at i d e lt = get_or-map order_of its i d e lt

  -- none of them, or too many
  pub wrong_number : (none : Bool) → none ≡ eqb (length its) 0 → (none ≡ true) ⊎ ((none ≡ false) × (64 < length its)) → flaw k (orders_of its) ≡ Some 0
  wrong_number none is (inl h) = (finds_flaws k (orders_of its)).by_number (inl (number ∙ eqb-true (length its) 0 (sym is ∙ h)))
  wrong_number none is (inr h) = (finds_flaws k (orders_of its)).by_number (inr (omega (arith, number, h.1)))

  -- and the first with which something is wrong is looked for if there are some, and not too many
  pub first_wrong : (none : Bool) → none ≡ eqb (length its) 0 → none ≡ false → length its ≤ 64 → (o : Option ℕ) → o ≡ position (wrong k) its
      → flaw k (orders_of its) ≡ option_map (λ n. n + 1) o
  first_wrong none is some few o e =
      number_right (eqb (length (orders_of its)) 0) (ltb 64 (length (orders_of its)))
      (ap (λ (n : ℕ). eqb n 0) (number) ∙ sym is ∙ some) (le-ltb 64 (length (orders_of its)) (omega (arith, number)))
      ∙ unfair_first k 1 its ∙ ap (λ (i : ℕ). position_from (wrong k) i its) one ∙ later k 0 its
      ∙ ap (option_map (λ n. n + 1)) (sym (e ∙ position_from-zero (wrong k) its))
    where
      one : 1 ≡ 0 + 1
      one = omega arith

      number_right : (a b : Bool) → a ≡ false → b ≡ false → cond (a || b) (Some 0) (unfair k 1 (orders_of its)) ≡ unfair k 1 (orders_of its)
      number_right a b p q = rw (p, q) refl

  -- nothing is wrong
  module _ (sound : flaw k (orders_of its) ≡ None) where
    parts : (length its ≡ 0 → ⊥) × (length its ≤ 64) × (unfair k 1 (orders_of its) ≡ None)
    parts = go (eqb (length (orders_of its)) 0 || ltb 64 (length (orders_of its))) refl sound
      where
        go : (b : Bool) → (eqb (length (orders_of its)) 0 || ltb 64 (length (orders_of its))) ≡ b → cond b (Some 0) (unfair k 1 (orders_of its)) ≡ None
            → (length its ≡ 0 → ⊥) × (length its ≤ 64) × (unfair k 1 (orders_of its) ≡ None)
        go true h e = absurd (some≢none 0 e)
        go false h e =
            let p = or_parts (eqb (length (orders_of its)) 0) (ltb 64 (length (orders_of its))) h in
            (λ z. eqb-false (length (orders_of its)) 0 p.0 (number ∙ z), omega (arith, ltb-false 64 (length (orders_of its)) p.1, number), e)

    pub some_item : 0 < length its
    some_item = let p = parts.0 in omega arith

    pub few_items : length its ≤ 64
    few_items = parts.1

    -- the item at place j
    module _ (j : ℕ) (d given : Given) (lt : j < length its) (read : get_or its j d ≡ given) where
      -- it has a weight
      pub has_weight : None ≡ k.weight (fields_of given) → ⊥
      has_weight e =
          let h : fair k (order_of given) ≡ true =
          ap (λ (x : Given). fair k (order_of x)) (sym read) ∙ ap (fair k) (sym (order_at j d (order_of given) lt)) ∙ unfair_none k (orders_of its) 1 j (order_of given) parts.2 (omega (arith, number)) in
          false≢true (ap (fits_alone k) e ∙ (and_parts (leb 1 given.demand && leb given.demand 4095) (fits_alone k (k.weight (fields_of given))) h).1)

      -- and counts as the item of that weight
      pub item_at : {L : Type 0} (f : L → List ℕ) (i : ℕ) (x : Weighed L) → Weighs f k given i x → get_or (items_of k its) j (packed f x) ≡ packed f x
      item_at f i x h =
          get_or-map (item_of k) (orders_of its) j (order_of given) (packed f x) (omega (arith, number))
          ∙ ap (item_of k) (order_at j d (order_of given) lt ∙ ap order_of read) ∙ ap (λ (o : Option (List ℕ)). record { weight = weight_of k o; most = given.demand }) (sym h.weight)
          ∙ ap (λ (n : ℕ). record { weight = f x.weight; most = n }) (sym h.most)
