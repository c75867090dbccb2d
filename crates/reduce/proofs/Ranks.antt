-- Ranks by first appearance, from value to value.
use Rattle.std.proofs.Common.{◌≡◌, ℕ, suc, ◌+◌, ◌-◌, ◌<◌, ◌≤◌, Bool, true, false, cond, ◌||◌, eqb, ◌≢◌, List, [], ◌∷◌, ◌++◌, All, length, map, get_or, take, drop, set, sym, refl, ap, ◌∙◌, inl, inr, arith, length-append, length-set}
use Rattle.std.proofs.lemmas.Grind.{common_steps}
use Rattle.std.proofs.lemmas.List.{get_or-set_same, get_or-set_other}
use Rattle.std.proofs.lemmas.List.Elements.{All-get_or}
use Rattle.std.proofs.lemmas.List.Edits.{map_over_more}
use Rattle.std.proofs.lemmas.Bool.{cases_eq, ne_eqb}
use Rattle.std.proofs.lemmas.Bool.Decides.{Decides-eqb}
use Rattle.packing.specs.Distinct.{has, index, noted, distinct}
use Rattle.packing.proofs.Distinct.{has_noted, index_append, index_new, or_false, same_self}
use Rattle.graph.proofs.Steps.{distinct_more, place_found}

-- what the cell of v holds, once the values of ds were seen
abbrev cell : ℕ → List ℕ → ℕ
cell v ds = cond (has eqb v ds) (suc (index eqb v ds)) 0

has_self : (x : ℕ) (ds : List ℕ) → has eqb x (noted eqb ds x) ≡ true
has_self x ds =
    has_noted eqb x ds x Decides-eqb
    ∙ rw (same_self eqb Decides-eqb x) (elim (has eqb x ds) as (λ (b : Bool). (b || true) ≡ true) [ true ↦ refl | false ↦ refl ])

-- the cells of other values stay as they are
cell_other : (v x : ℕ) (ds : List ℕ) → v ≢ x → cell v (noted eqb ds x) ≡ cell v ds
cell_other v x ds ne = go (has eqb x ds) (has eqb v ds) refl refl
  where
    still : has eqb v (noted eqb ds x) ≡ has eqb v ds
    still = has_noted eqb v ds x Decides-eqb ∙ rw (ne_eqb v x ne) (or_false (has eqb v ds))

    go : (b q : Bool) → has eqb x ds ≡ b → has eqb v ds ≡ q → cell v (noted eqb ds x) ≡ cell v ds
    go true q h e = ap (λ (b : Bool). cell v (cond b ds (ds ++ x ∷ []))) h
    go false true h e = rw (still, e) (ap suc (ap (λ (b : Bool). index eqb v (cond b ds (ds ++ x ∷ []))) h ∙ index_append eqb v ds (x ∷ []) e))
    go false false h e = rw (still, e) refl

module _ (e : List ℕ) where
  abbrev seen : ℕ → List ℕ
  seen i = distinct eqb (take i e)

  abbrev rank_of : ℕ → ℕ
  rank_of x = index eqb x (distinct eqb e)

  -- the first i values were replaced by their ranks, and the numbers tell the values seen
  pub record Ranking (values numbers : List ℕ) (count i : ℕ) : Type 0 where
    pub count_is : count ≡ length (seen i)
    pub few : count ≤ i
    pub ranked : values ≡ map rank_of (take i e) ++ drop i e
    pub cells : (v : ℕ) → v < length numbers → get_or numbers v 0 ≡ cell v (seen i)

  module _ (n : ℕ) (room : All (λ v. v < n) e) (values numbers : List ℕ) (count i : ℕ) (r : Ranking values numbers count i)
      (wide : length numbers ≡ n) (lt : i < length e) where
    abbrev x : ℕ
    x = get_or values i 0

    value_is : get_or e i 0 ≡ x
    value_is = grind (arith, common_steps, r.ranked)

    within : x < length numbers
    within = omega (arith, value_is, wide, All-get_or (λ v. v < n) e i 0 lt room)

    next : seen (i + 1) ≡ noted eqb (seen i) x
    next = distinct_more eqb e i 0 lt ∙ ap (noted eqb (seen i)) value_is

    -- the value's number is 1 more than its rank
    numbered : (number top : ℕ) → number ≡ suc (index eqb x (seen (i + 1))) → top ≡ length (seen (i + 1)) → top ≤ i + 1
        → Ranking (set values i (number - 1)) (set numbers x number) top (i + 1)
    numbered number top number_is top_is few = record {
      count_is = top_is;
      few = few;
      ranked =
          ap (set values i) (let rank : number - 1 ≡ rank_of x = omega (arith, number_is, place_found eqb x (i + 1) e has_x) in rank)
          ∙ map_over_more rank_of e values i x lt r.ranked (let same : x ≡ get_or values i x = grind (arith, common_steps, r.ranked) in same);
      cells = λ v hv. elim (cases_eq v x) [
        | inl same ↦
            ap (λ (k : ℕ). get_or (set numbers x number) k 0) same ∙ get_or-set_same numbers x number 0 within ∙ number_is
            ∙ sym (ap (λ (b : Bool). cond b (suc (index eqb x (seen (i + 1)))) 0) has_x) ∙ ap (λ (k : ℕ). cell k (seen (i + 1))) (sym same)
        | inr ne ↦
            get_or-set_other numbers x v number 0 ne ∙ r.cells v (omega (arith, hv, length-set numbers x number))
            ∙ sym (cell_other v x (seen i) ne) ∙ ap (cell v) (sym next)
      ];
    }
      where
        has_x : has eqb x (seen (i + 1)) ≡ true
        has_x = ap (has eqb x) next ∙ has_self x (seen i)

    -- a value with a number was seen,
    pub ranking_again : get_or numbers x 0 ≢ 0 → Ranking (set values i (get_or numbers x 0 - 1)) (set numbers x (get_or numbers x 0)) count (i + 1)
    ranking_again held = go (has eqb x (seen i)) refl
      where
        go : (b : Bool) → has eqb x (seen i) ≡ b → Ranking (set values i (get_or numbers x 0 - 1)) (set numbers x (get_or numbers x 0)) count (i + 1)
        go true h =
            let known : seen i ≡ seen (i + 1) = sym (next ∙ ap (λ (b : Bool). cond b (seen i) (seen i ++ x ∷ [])) h) in
            numbered (get_or numbers x 0) count
            (r.cells x within ∙ ap (λ (b : Bool). cond b (suc (index eqb x (seen i))) 0) h ∙ ap (λ (ds : List ℕ). suc (index eqb x ds)) known)
            (r.count_is ∙ ap length known) (omega (arith, r.few))
        go false h = absurd (held (r.cells x within ∙ ap (λ (b : Bool). cond b (suc (index eqb x (seen i))) 0) h))

    -- and one without a number is new
    pub ranking_new : get_or numbers x 0 ≡ 0 → Ranking (set values i (count + 1 - 1)) (set numbers x (count + 1)) (count + 1) (i + 1)
    ranking_new held = go (has eqb x (seen i)) refl
      where
        go : (b : Bool) → has eqb x (seen i) ≡ b → Ranking (set values i (count + 1 - 1)) (set numbers x (count + 1)) (count + 1) (i + 1)
        go true h = absurd (omega (arith, held, r.cells x within ∙ ap (λ (b : Bool). cond b (suc (index eqb x (seen i))) 0) h))
        go false h =
            let grown : seen i ++ x ∷ [] ≡ seen (i + 1) = sym (next ∙ ap (λ (b : Bool). cond b (seen i) (seen i ++ x ∷ [])) h) in
            let last : index eqb x (seen i ++ x ∷ []) ≡ length (seen i) =
            index_new eqb x (seen i) (x ∷ []) h ∙ ap (λ (b : Bool). length (seen i) + cond b 0 1) (same_self eqb Decides-eqb x) ∙ omega arith in
            numbered (count + 1) (count + 1) (omega (arith, last, ap (index eqb x) grown, r.count_is))
            (omega (arith, length-append (seen i) (x ∷ []), ap length grown, r.count_is)) (omega (arith, r.few))
