-- The inflow of every node, arc by arc.
use Rattle.std.proofs.Common.{◌≡◌, ℕ, zero, suc, ◌+◌, ◌-◌, ◌*◌, ◌<◌, ◌≤◌, Bool, true, false, cond, ◌⊎◌, List, length, get_or, set, replicate, Some, None, sym, ap, ◌∙◌, inl, inr, arith, length-set}
use lib.ListN.{length-replicate}
use Rattle.std.proofs.lemmas.List.{get_or-replicate, get_or-set_same, get_or-set_other}
use Rattle.std.proofs.lemmas.Bool.{cases_eq, cases_Bool, cond-true, cond-false, eq-eqb, ne_eqb}
use Rattle.graph.specs.declared.Row.{Row}
use Rattle.graph.specs.Graph.{at, tail, takes, head}
use Rattle.flow.specs.Arcs.{is, numbers}
use Rattle.flow.specs.Flow.{on, carried, inflow}
use Rattle.flow.specs.Job.{limit}
use Rattle.flow.specs.Scans.{Inflows, Upward}
use Rattle.flow.proofs.Shape.{Forward, option_cases}
use Rattle.flow.proofs.Loops.{carried_more}
use Rattle.flow.proofs.Scanning.{cond_le}

-- in a layered graph arcs lead to higher numbers
pub upward : {m : ℕ} {g : List Row} → Forward m g → Upward g
upward {m} {g} s a k e = go (cases_Bool (takes a))
  where
    go : (takes a ≡ true) ⊎ (takes a ≡ false) → (tail a < k) × (k < length g)
    go (inl t) = let to = s.take_to (tail a) k (sym (cond-true (takes a) (at g (tail a)).take (at g (tail a)).pass t) ∙ e) in (to.0, to.1)
    go (inr t) = let to = s.pass_to (tail a) k (sym (cond-false (takes a) (at g (tail a)).take (at g (tail a)).pass t) ∙ e) in (to.0, to.1)

module _ (g : List Row) (f : List ℕ) where
  pub none_in : Inflows g f 0 (replicate 65535 0)
  none_in = record { long = length-replicate {A = ℕ} 65535 0; told = λ v lt. get_or-replicate 65535 v 0 0 lt }

  -- an arc that is there brings its flow to where it leads
  pub in_some : (a k : ℕ) (xs : List ℕ) → Inflows g f a xs → Some k ≡ head g a → k < 65535 → Inflows g f (a + 1) (set xs k (get_or xs k 0 + on f a))
  in_some a k xs h leads low = record {
    long = length-set xs k _ ∙ h.long;
    told = λ v lt. at_node v lt (cases_eq v k);
  }
    where
      at_node : (v : ℕ) → v < 65535 → (v ≡ k) ⊎ (v ≡ k → ⊥) → get_or (set xs k (get_or xs k 0 + on f a)) v 0 ≡ carried f (numbers (λ b. is (head g b) v) (a + 1))
      at_node v lt (inl e) =
          let brings : cond (is (head g a) v) (on f a) 0 ≡ on f a = ap (λ o. cond (is o v) (on f a) 0) (sym leads) ∙ ap (λ b. cond b (on f a) 0) (eq-eqb k v (sym e)) in
          let read : get_or (set xs k (get_or xs k 0 + on f a)) v 0 ≡ get_or xs v 0 + on f a =
          ap (λ i. get_or (set xs k (get_or xs k 0 + on f a)) i 0) e ∙ get_or-set_same xs k _ 0 (omega (arith, h.long)) ∙ ap (λ i. get_or xs i 0 + on f a) (sym e) in
          omega (arith, read, h.told v lt, carried_more f (λ b. is (head g b) v) a, brings)
      at_node v lt (inr ne) =
          let off : cond (is (head g a) v) (on f a) 0 ≡ 0 = ap (λ o. cond (is o v) (on f a) 0) (sym leads) ∙ ap (λ b. cond b (on f a) 0) (ne_eqb k v (λ e. ne (sym e))) in
          omega (arith, get_or-set_other xs k v (get_or xs k 0 + on f a) 0 ne, h.told v lt, carried_more f (λ b. is (head g b) v) a, off)

  -- it stays far below what fits
  pub in_limited : ((a : ℕ) → on f a ≤ limit) → (p : ℕ → Bool) (n : ℕ) → carried f (numbers p n) ≤ limit * n
  in_limited few p zero = omega arith
  in_limited few p (suc n) =
      let more : carried f (numbers p (suc n)) ≡ carried f (numbers p n) + cond (p n) (on f n) 0 = ap (λ k. carried f (numbers p k)) (let e : suc n ≡ n + 1 = omega arith in e) ∙ carried_more f p n in
      omega (arith, more, in_limited few p n, cond_le (p n) (on f n) limit (few n))

  module _ (up : Upward g) (v : ℕ) where
    -- no arc from v on leads to v
    leads_past : (a : ℕ) → 2 * v ≤ a → is (head g a) v ≡ false
    leads_past a le = go (option_cases (head g a))
      where
        go : (head g a ≡ None) ⊎ ((k : ℕ) × (head g a ≡ Some k)) → is (head g a) v ≡ false
        go (inl e) = ap (λ o. is o v) e
        go (inr (k, e)) = ap (λ o. is o v) e ∙ ne_eqb k v (λ same. omega (arith, (up a k e).0))

    from : (d : ℕ) → carried f (numbers (λ a. is (head g a) v) (2 * v + d)) ≡ carried f (numbers (λ a. is (head g a) v) (2 * v))
    from zero = ap (λ n. carried f (numbers (λ a. is (head g a) v) n)) (let e : 2 * v + 0 ≡ 2 * v = omega arith in e)
    from (suc d) =
        ap (λ n. carried f (numbers (λ a. is (head g a) v) n)) (let e : 2 * v + suc d ≡ (2 * v + d) + 1 = omega arith in e)
        ∙ carried_more f (λ a. is (head g a) v) (2 * v + d)
        ∙ ap (λ b. carried f (numbers (λ a. is (head g a) v) (2 * v + d)) + cond b (on f (2 * v + d)) 0) (leads_past (2 * v + d) (omega arith))
        ∙ (let e : carried f (numbers (λ a. is (head g a) v) (2 * v + d)) + 0 ≡ carried f (numbers (λ a. is (head g a) v) (2 * v + d)) = omega arith in e)
        ∙ from d

    -- so the arcs below v bring all of its inflow
    pub in_whole : v < length g → (xs : List ℕ) → v < 65535 → Inflows g f (2 * v) xs → get_or xs v 0 ≡ inflow g f v
    in_whole lt xs low h =
        let d : (d : ℕ) × (2 * v + d ≡ 2 * length g) = (2 * length g - 2 * v, omega arith) in
        h.told v low ∙ sym (from d.0) ∙ ap (λ n. carried f (numbers (λ a. is (head g a) v) n)) d.1
