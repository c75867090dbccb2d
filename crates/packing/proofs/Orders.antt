-- Items with which nothing is wrong can be compiled.
use Rattle.std.proofs.Common.{◌≡◌, ℕ, suc, ◌+◌, ◌<◌, ◌≤◌, Bool, true, false, cond, ◌&&◌, ◌||◌, eqb, ltb, leb, ◌⊎◌, List, [], ◌∷◌, ◌++◌, length, IfSome, Some, None, Option, refl, ap, ◌∙◌, inl, inr, arith, length-append}
use Rattle.std.proofs.lemmas.Bool.{false≢true, and_parts, or_parts, or_left, or_right, or_from, eqb-false, eq-eqb, ne_eqb, lt-ltb, le-ltb}
use Rattle.std.specs.List.{AllByRecursion}
use Rattle.limits.specs.Meaning.{Meaning, Rules}
use Rattle.packing.specs.Packing.{sound, Packable}
use Rattle.packing.specs.Problem.{Order, fits_alone, fair, unfair, flaw, weight_of, items}
use Rattle.packing.specs.Laws.{OrdersPackable, FindsFlaws}
use Rattle.packing.proofs.Options.{some≢none}

module _ (k : Meaning) (rules : Rules k) where
  weighs : (o : Option (List ℕ)) → fits_alone k o ≡ true → IfSome o (λ a. k.amount a ≡ true) → (k.amount (weight_of k o) ≡ true) × (k.fits (weight_of k o) ≡ true)
  weighs None f c = absurd (false≢true f)
  weighs (Some w) f c = (c, f)

  unfair_none : (orders : List Order) (i : ℕ) → unfair k i orders ≡ None → sound k (items k orders) ≡ true
  unfair_none [] i e = refl
  unfair_none (x ∷ orders) i e = go (fair k x) refl e (unfair_none orders (suc i))
    where
      go : (b : Bool) → fair k x ≡ b → cond b (unfair k (suc i) orders) (Some i) ≡ None → (unfair k (suc i) orders ≡ None → sound k (items k orders) ≡ true)
          → sound k (items k (x ∷ orders)) ≡ true
      go true h d more =
          let alone = (and_parts (leb 1 x.demand && leb x.demand 4095) (fits_alone k (k.weight x.fields)) h).1 in
          let w = weighs (k.weight x.fields) alone (rules.weight_amount x.fields) in
          rw (w.0, w.1, more d) refl
      go false h d more = absurd (some≢none i d)

pub orders_packable : OrdersPackable
orders_packable k orders rules e = go (eqb (length orders) 0 || ltb 64 (length orders)) refl e
  where
    go : (b : Bool) → (eqb (length orders) 0 || ltb 64 (length orders)) ≡ b → cond b (Some 0) (unfair k 1 orders) ≡ None → Packable k (items k orders) × (1 ≤ length orders)
    go true h d = absurd (some≢none 0 d)
    go false h d = (record { rules = rules; weights = unfair_none k rules orders 1 d }, some_item (or_parts (eqb (length orders) 0) (ltb 64 (length orders)) h).0)
      where
        some_item : eqb (length orders) 0 ≡ false → 1 ≤ length orders
        some_item n = omega (arith, eqb-false (length orders) 0 n)

-- the lowest item that is not fair
module _ (k : Meaning) where
  unfair_at : (before : List Order) (x : Order) (rest : List Order) (i : ℕ) → AllByRecursion (λ y. fair k y ≡ true) before → fair k x ≡ false
      → unfair k i (before ++ x ∷ rest) ≡ Some (i + length before)
  unfair_at [] x rest i h bad = ap (λ (b : Bool). cond b (unfair k (suc i) rest) (Some i)) bad ∙ ap Some (omega arith)
  unfair_at (y ∷ before) x rest i h bad =
      ap (λ (b : Bool). cond b (unfair k (suc i) (before ++ x ∷ rest)) (Some i)) h.0 ∙ unfair_at before x rest (suc i) h.1 bad ∙ ap Some (omega arith)

  all_fair : (orders : List Order) (i : ℕ) → AllByRecursion (λ y. fair k y ≡ true) orders → unfair k i orders ≡ None
  all_fair [] i h = refl
  all_fair (y ∷ orders) i h = ap (λ (b : Bool). cond b (unfair k (suc i) orders) (Some i)) h.0 ∙ all_fair orders (suc i) h.1

  module _ (orders : List Order) where
    by_test : (b : Bool) → (eqb (length orders) 0 || ltb 64 (length orders)) ≡ b → flaw k orders ≡ cond b (Some 0) (unfair k 1 orders)
    by_test b e = ap (λ (b : Bool). cond b (Some 0) (unfair k 1 orders)) e

    in_range : 1 ≤ length orders → length orders ≤ 64 → flaw k orders ≡ unfair k 1 orders
    in_range low high =
        by_test false (or_from (eqb (length orders) 0) (ltb 64 (length orders)) (ne_eqb (length orders) 0 (λ e. omega arith)) (le-ltb 64 (length orders) high))

    out_of_range : (length orders ≡ 0) ⊎ (64 < length orders) → flaw k orders ≡ Some 0
    out_of_range (inl e) = by_test true (or_left (eqb (length orders) 0) (ltb 64 (length orders)) (eq-eqb (length orders) 0 e))
    out_of_range (inr h) = by_test true (or_right (eqb (length orders) 0) (ltb 64 (length orders)) (lt-ltb 64 (length orders) h))

pub finds_flaws : FindsFlaws
finds_flaws k orders = record {
  by_number = out_of_range k orders;
  lowest = λ before x rest is high h bad.
      in_range k orders (omega (arith, ap length is ∙ length-append before (x ∷ rest))) high ∙ ap (unfair k 1) is ∙ unfair_at k before x rest 1 h bad ∙ ap Some (omega arith);
  nothing = λ low high h. in_range k orders low high ∙ all_fair k orders 1 h;
}
