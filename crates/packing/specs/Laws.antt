-- What is promised of the list of patterns, and of the checks on items.
use Rattle.std.specs.Prelude.{◌≡◌, ℕ, suc, ◌<◌, ◌≤◌, true, false, cond, ◌⊎◌, List, ◌∷◌, ◌++◌, length, Some, None}
use Rattle.std.specs.List.{AllByRecursion}
use Rattle.limits.specs.Meaning.{Meaning, Rules}
use Rattle.packing.specs.Distinct.{occurrences, same_list}
use Rattle.packing.specs.Packing.{Item, pattern, patterns, Packable}
use Rattle.packing.specs.Problem.{Order, fair, flaw, items}

-- the list of patterns has each pattern once, and no other list of counts
abbrev pub ListsPatterns : Type 0
ListsPatterns = (k : Meaning) (items : List Item) (counts : List ℕ) → occurrences same_list counts (patterns k items) ≡ cond (pattern k items counts) 1 0

-- What is wrong with orders is found in order: a wrong number of items, then the lowest item that is not fair.
pub record FindsFlaw (k : Meaning) (orders : List Order) : Type 0 where
  pub by_number : (length orders ≡ 0) ⊎ (64 < length orders) → flaw k orders ≡ Some 0
  pub lowest : (before : List Order) (x : Order) (rest : List Order) → orders ≡ before ++ x ∷ rest → length orders ≤ 64 →
      AllByRecursion (λ y. fair k y ≡ true) before → fair k x ≡ false → flaw k orders ≡ Some (suc (length before))
  pub nothing : 1 ≤ length orders → length orders ≤ 64 → AllByRecursion (λ y. fair k y ≡ true) orders → flaw k orders ≡ None

-- of every kind and all orders
abbrev pub FindsFlaws : Type 0
FindsFlaws = (k : Meaning) (orders : List Order) → FindsFlaw k orders

-- items with which nothing is wrong are sound, and there is at least one
abbrev pub OrdersPackable : Type 0
OrdersPackable = (k : Meaning) (orders : List Order) → Rules k → flaw k orders ≡ None → Packable k (items k orders) × (1 ≤ length orders)
