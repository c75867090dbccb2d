-- Items read one to a line.
use Rattle.std.proofs.Common.{◌≡◌, ℕ, suc, ◌+◌, ◌-◌, ◌<◌, List, [], ◌∷◌, ◌++◌, drop, refl, ap, arith}
use Rattle.std.proofs.lemmas.List.{map_push}
use Rattle.packing.specs.declared.Item.{Item}
use Rattle.texts.specs.Entries.{entry_of, entries_in, names_in}
use Rattle.texts.specs.Grammar.{and_then, item_at, items_at, names_of}

-- the names of items as they are read
names_same : (items : List Item) → names_of (entries_in items) ≡ names_in items
names_same [] = refl
names_same (i ∷ is) = ap (λ ns. i.name.now ∷ ns) (names_same is)

-- one item more of n, where i are read, after those in a table
pub items_step : (count line n i : ℕ) (ls : List (List ℕ)) (items : List Item) → i < n → items_at count line (n - i) ls (entries_in items) ≡ and_then (item_at count line (names_in items) ls) (λ e. items_at count (line + 1) (n - (i + 1)) (drop 1 ls) (entries_in items ++ e ∷ []))
unfolding items_at
items_step count line n i ls items h =
    let more : n - i ≡ suc (n - (i + 1)) = omega arith in
    rw more (ap (λ ns. and_then (item_at count line ns ls) (λ e. items_at count (line + 1) (n - (i + 1)) (drop 1 ls) (entries_in items ++ e ∷ []))) (names_same items))

-- the items of a table with one item more
pub entries_push : (items : List Item) (i : Item) → entries_in (items ++ i ∷ []) ≡ entries_in items ++ entry_of i ∷ []
entries_push items i = map_push entry_of items i
