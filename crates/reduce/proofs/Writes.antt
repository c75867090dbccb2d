-- Rows written at their new numbers.
use Rattle.std.proofs.Common.{◌≡◌, ℕ, zero, suc, ◌+◌, ◌-◌, ◌<◌, ◌≤◌, Bool, true, false, cond, eqb, ◌≢◌, List, [], ◌∷◌, ◌++◌, length, get_or, take, set, sym, refl, ap, ◌∙◌, subst, inl, inr, arith, length-set, length-append}
use lib.ListN.{length-map}
use Rattle.std.proofs.lemmas.List.{ext_get_or, get_or-map, get_or-take, get_or-set_same, get_or-set_other, get_or_default, length-take-le}
use Rattle.std.proofs.lemmas.Bool.{cases_eq, cases_lt}
use Rattle.std.proofs.lemmas.Bool.Decides.{Decides-eqb}
use Rattle.lists.specs.declared.list.List.{List as Grown}
use Rattle.lists.specs.Entries.{entries, spare, SameMemory}
use Rattle.graph.specs.declared.Row.{Row}
use Rattle.packing.specs.Distinct.{has, index, distinct, noted, noted_all}
use Rattle.graph.specs.Graph.{blank, at, Layered}
use Rattle.graph.specs.Laws.{Joins}
use Rattle.graph.specs.Reduced.{led, classes, renumbered, reduced}
use Rattle.packing.proofs.Distinct.{has_get_or, has_distinct, index_lt}
use Rattle.graph.proofs.Joined.{led_same, all_joined, length_classes}
use Rattle.graph.proofs.Reduce.{arcs_ahead, reduced_joins}
use Rattle.graph.proofs.Steps.{place_found}
use Rattle.reduce.specs.Reducing.{to, ranks, written}

pub written_more : (n : ℕ) (numbers : List ℕ) (g : List Row)
    → written (n + 1) numbers g ≡ set (written n numbers g) (to numbers n) (led (to numbers) (at (written n numbers g) n))
written_more n numbers g = ap (λ (k : ℕ). written k numbers g) (let e : n + 1 ≡ suc n = omega arith in e)

pub length_written : (n : ℕ) (numbers : List ℕ) (g : List Row) → length (written n numbers g) ≡ length g
length_written zero numbers g = refl
length_written (suc n) numbers g = length-set (written n numbers g) (to numbers n) _ ∙ length_written n numbers g

-- the rows of the first n nodes were written
pub record Writing (before after : Grown Row) (numbers : List ℕ) (n : ℕ) : Type 0 where
  pub rows : entries after ≡ written n numbers (entries before)
  pub long : length (entries after) ≡ length (entries before)
  pub spared : spare after ≡ spare before
  pub memory : SameMemory after before

pub writing_step : (before after next : Grown Row) (numbers : List ℕ) (n : ℕ) (row : Row) (read : List Row) → Writing before after numbers n → n < length numbers
    → read ≡ entries after → row ≡ led (to numbers) (at read n) → entries next ≡ set (entries after) (get_or numbers n 0) row → spare next ≡ spare after
    → SameMemory next after → Writing before next numbers (n + 1)
writing_step before after next numbers n row read w lt read_is row_is entries-are spared memory = record {
  rows =
      entries-are
      ∙ ap (set (entries after) (get_or numbers n 0)) (row_is ∙ ap (λ (l : List Row). led (to numbers) (at l n)) read_is)
      ∙ ap (λ (k : ℕ). set (entries after) k (led (to numbers) (at (entries after) n))) (get_or_default numbers n 0 n lt)
      ∙ ap (λ (l : List Row). set l (to numbers n) (led (to numbers) (at l n))) w.rows
      ∙ sym (written_more n numbers (entries before));
  long = ap length entries-are ∙ length-set (entries after) (get_or numbers n 0) row ∙ w.long;
  spared = spared ∙ w.spared;
  memory = memory ∙ w.memory;
}

length_noted_le : (x : ℕ) (ds : List ℕ) → length (noted eqb ds x) ≤ suc (length ds)
length_noted_le x ds = go (has eqb x ds)
  where
    go : (b : Bool) → length (cond b ds (ds ++ x ∷ [])) ≤ suc (length ds)
    go true = omega arith
    go false = omega (arith, length-append ds (x ∷ []))

length_noted_all_le : (seen xs : List ℕ) → length (noted_all eqb seen xs) ≤ length seen + length xs
length_noted_all_le seen [] = omega arith
length_noted_all_le seen (x ∷ xs) = omega (arith, length_noted_all_le (noted eqb seen x) xs, length_noted_le x seen)

-- there are no more distinct values than values
distinct_le : (xs : List ℕ) → length (distinct eqb xs) ≤ length xs
distinct_le xs = omega (arith, length_noted_all_le [] xs)

-- a value's rank is no higher than its place
rank_le : (xs : List ℕ) (i : ℕ) → i < length xs → index eqb (get_or xs i 0) (distinct eqb xs) ≤ i
rank_le xs i lt =
    let front = take (i + 1) xs in
    let x = get_or xs i 0 in
    let long = length-take-le (i + 1) xs (omega arith) in
    let here : has eqb x (distinct eqb front) ≡ true =
    has_distinct eqb Decides-eqb x front
    ∙ subst (λ (v : ℕ). has eqb v front ≡ true) (get_or-take (i + 1) xs i 0 (omega arith)) (has_get_or eqb Decides-eqb front i 0 (omega (arith, long))) in
    omega (arith, place_found eqb x (i + 1) xs here, index_lt eqb x (distinct eqb front) here, distinct_le front, long)

module _ (m : ℕ) (g : List Row) (st : Layered m g) where
  abbrev cs : List ℕ
  cs = classes 0 g

  abbrev numbers : List ℕ
  numbers = ranks cs

  abbrev new : ℕ → ℕ
  new t = renumbered cs t

  joins : Joins g (reduced g) new
  joins = reduced_joins m g st

  rank_new : (t : ℕ) → t < length g → index eqb (get_or cs t 0) (distinct eqb cs) ≡ new t
  rank_new t lt =
      ap (λ (c : ℕ). index eqb c (distinct eqb cs))
      (get_or_default cs t 0 t (omega (arith, length_classes 0 g)) ∙ ap (λ (k : ℕ). get_or cs k t) (let e : t ≡ t - 0 = omega arith in e))

  to_new : (t : ℕ) → t < length g → to numbers t ≡ new t
  to_new t lt = get_or-map (λ c. index eqb c (distinct eqb cs)) cs t 0 t (omega (arith, length_classes 0 g)) ∙ rank_new t lt

  new_le : (t : ℕ) → t < length g → new t ≤ t
  new_le t lt = omega (arith, rank_le cs t (omega (arith, length_classes 0 g)), rank_new t lt)

  led_new : (n : ℕ) → led (to numbers) (at g n) ≡ led new (at g n)
  led_new n = led_same (to numbers) new (at g n) (λ t e. to_new t (st.takes n t e).0) (λ t e. to_new t (st.passes n t e).0)

  -- the rows still to be read are as they were, and those written are the reduced graph's
  written_so_far : (n : ℕ) → n ≤ length g
      → ((t : ℕ) → n ≤ t → t < length g → at (written n numbers g) t ≡ at g t)
      × ((u : ℕ) → u < n → at (written n numbers g) (new u) ≡ at (reduced g) (new u))
  written_so_far zero le = (λ t ge lt. refl, λ u lt. absurd (omega arith))
  written_so_far (suc n) le = go (written_so_far n (omega arith))
    where
      go : ((t : ℕ) → n ≤ t → t < length g → at (written n numbers g) t ≡ at g t)
          × ((u : ℕ) → u < n → at (written n numbers g) (new u) ≡ at (reduced g) (new u))
          → ((t : ℕ) → suc n ≤ t → t < length g → at (written (suc n) numbers g) t ≡ at g t)
          × ((u : ℕ) → u < suc n → at (written (suc n) numbers g) (new u) ≡ at (reduced g) (new u))
      go (later, ready) =
          let es = written n numbers g in
          let p = to numbers n in
          let r = led (to numbers) (at es n) in
          let hn : n < length g = omega (arith, le) in
          let place : p ≡ new n = to_new n hn in
          let r_is : r ≡ at (reduced g) (new n) = ap (led (to numbers)) (later n (omega arith) hn) ∙ led_new n ∙ sym (joins.rows n hn) in (
            (λ t ge lt.
                let off : t ≢ p = λ e. absurd (omega (arith, e, ge, place, new_le n hn)) in
                get_or-set_other es p t r blank off ∙ later t (omega arith) lt),
            (λ u lt. elim (cases_eq (new u) (new n)) [
              | inl e ↦
                  ap (at (set es p r)) (e ∙ sym place)
                  ∙ get_or-set_same es p r blank (omega (arith, place, new_le n hn, length_written n numbers g))
                  ∙ r_is ∙ ap (at (reduced g)) (sym e)
              | inr ne ↦
                  let off : new u ≢ p = λ e. ne (e ∙ place) in
                  get_or-set_other es p (new u) r blank off
                  ∙ ready u (elim (cases_lt u n) [ inl less ↦ less | inr ge ↦ absurd (ne (ap new (let e : u ≡ n = omega arith in e))) ])
            ]),
          )

  pub written_all : take (length (distinct eqb cs)) (written (length g) numbers g) ≡ reduced g
  written_all =
      let es = written (length g) numbers g in
      let k = length (distinct eqb cs) in
      let few : k ≤ length g = omega (arith, distinct_le cs, length_classes 0 g) in
      let long = length-take-le k es (omega (arith, few, length_written (length g) numbers g)) in
      let long_reduced : length (reduced g) ≡ k = length-map (distinct eqb cs) (λ c. led new (at g c)) in
      let ready = (written_so_far (length g) (omega arith)).1 in
      ext_get_or blank (take k es) (reduced g) (long ∙ sym long_reduced)
      (λ v hv.
      let o = joins.onto v (omega (arith, hv, long, long_reduced)) in
      get_or-take k es v blank (omega (arith, hv, long)) ∙ ap (at es) (sym o.2) ∙ ready o.0 o.1 ∙ ap (at (reduced g)) o.2)

  pub length_reduced : length (reduced g) ≡ length (distinct eqb cs)
  length_reduced = length-map (distinct eqb cs) (λ c. led new (at g c))

  -- a class is a node
  pub class_within : (i : ℕ) → i < length g → get_or cs i 0 < length g
  class_within i lt = let j = all_joined 0 g (arcs_ahead m g st) i lt in omega (arith, j.class_is, j.in_range)

-- reduction adds no node
pub reduced_le : (g : List Row) → length (reduced g) ≤ length g
reduced_le g = omega (arith, length-map (distinct eqb (classes 0 g)) (λ c. led (renumbered (classes 0 g)) (at g c)), distinct_le (classes 0 g), length_classes 0 g)
