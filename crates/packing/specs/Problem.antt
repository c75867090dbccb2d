-- A packing problem as it is given, what is wrong with it, and its packings.
use Rattle.std.specs.Prelude.{◌≡◌, ℕ, zero, suc, ◌+◌, ◌*◌, ◌≤◌, Bool, true, false, cond, ◌&&◌, ◌||◌, List, [], ◌∷◌, map, length, Some, None, Option, ◌==◌, nat_le, nat_lt, slice_index}
use Rattle.std.specs.List.{AllByRecursion}
use Rattle.limits.specs.Meaning.{Meaning}
use Rattle.packing.specs.Packing.{Item, pattern}

-- an item as it is given: its fields, and how many of it are to be packed
pub record Order : Type 0 where
  pub fields : List ℕ
  pub demand : ℕ

-- a kind of limit, and the items, counted from 1
pub record Problem : Type 0 where
  pub kind : Meaning
  pub orders : List Order

-- how many of each item are asked for
abbrev pub demands : List Order → List ℕ
demands orders = map (λ x. x.demand) orders

-- What is wrong with a problem.
abbrev pub fits_alone : Meaning → Option (List ℕ) → Bool
fits_alone k None = false
fits_alone k (Some w) = k.fits w

-- the demand is in its range, and the fields have a weight, which fits alone
abbrev pub fair : Meaning → Order → Bool
fair k x = (nat_le 1 x.demand && nat_le x.demand 4095) && fits_alone k (k.weight x.fields)

-- the first item, from item i on, with which something is wrong
abbrev pub unfair : Meaning → ℕ → List Order → Option ℕ
unfair k i [] = None
unfair k i (x ∷ orders) = cond (fair k x) (unfair k (suc i) orders) (Some i)

-- the lowest item with which something is wrong; 0 for no items, or more than 64
abbrev pub flaw : Meaning → List Order → Option ℕ
flaw k orders = cond (length orders == 0 || nat_lt 64 (length orders)) (Some 0) (unfair k 1 orders)

-- What is packed. In one bin there are at most as many of an item as are asked for.
abbrev pub weight_of : Meaning → Option (List ℕ) → List ℕ
weight_of k None = k.empty
weight_of k (Some w) = w

-- an item by its weight and its most copies in a bin
abbrev pub item_of : Meaning → Order → Item
item_of k x = record { weight = weight_of k (k.weight x.fields); most = x.demand }

-- all items, by weight and most copies
abbrev pub items : Meaning → List Order → List Item
items k orders = map (item_of k) orders

-- whether counts are a pattern of the problem
abbrev pub is_pattern : Problem → List ℕ → Bool
is_pattern p counts = pattern p.kind (items p.kind p.orders) counts

-- counts that are a pattern of the problem
abbrev pub Pattern : Problem → List ℕ → Type 0
Pattern p counts = is_pattern p counts ≡ true

-- the entry of item i in a list with one entry for each item
abbrev pub entry : List ℕ → ℕ → ℕ
entry xs zero = 0
entry xs (suc k) = slice_index xs k

-- a pattern and how many bins are packed by it
pub record Bin : Type 0 where
  pub counts : List ℕ
  pub times : ℕ

-- how many bins these are
abbrev pub times_of : List Bin → ℕ
times_of [] = 0
times_of (b ∷ bins) = b.times + times_of bins

-- the copies of item i in these bins
abbrev pub copies_in : List Bin → ℕ → ℕ
copies_in [] i = 0
copies_in (b ∷ bins) i = b.times * entry b.counts i + copies_in bins i

-- a packing in z bins
pub record Packing (p : Problem) (bins : List Bin) (z : ℕ) : Type 0 where
  pub patterns : AllByRecursion (λ b. Pattern p b.counts) bins
  pub used : AllByRecursion (λ b. 1 ≤ b.times) bins
  pub total : times_of bins ≡ z
  pub covers : (i : ℕ) → 1 ≤ i → i ≤ length p.orders → entry (demands p.orders) i ≤ copies_in bins i
