-- What looking up or adding a node leaves.
use Rattle.std.specs.Prelude.{◌≡◌, ℕ, suc, ◌+◌, cond, true, false, List, [], ◌∷◌, ◌++◌, length, take, drop, Some, None, Option}
use Rattle.lists.specs.Entries.{entries}
use Rattle.graph.specs.declared.Row.{Row}
use Rattle.packing.specs.Distinct.{has, index, noted, same_list}
use Rattle.compile.specs.declared.draft.Draft.{Draft}
use Rattle.compile.specs.Drafts.{Short, amounts}

-- which node from `from` on has amount x
abbrev pub Found : List ℕ → ℕ → List (List ℕ) → Option ℕ → Type 0
Found x from xs None = has same_list x (drop from xs) ≡ false
Found x from xs (Some n) = (has same_list x (drop from xs) ≡ true) × (n ≡ from + index same_list x (drop from xs))

-- Node n has amount x in the station that begins at `from`; if there was none, it is new and has row q.
-- xs and ys are the amounts before and after, rs and qs the rows.
pub record Noted (rs qs : List Row) (xs ys : List (List ℕ)) (from : ℕ) (x : List ℕ) (q : Row) (n : ℕ) : Type 0 where
  pub amounts : ys ≡ take from xs ++ noted same_list (drop from xs) x
  pub rows : qs ≡ cond (has same_list x (drop from xs)) rs (rs ++ q ∷ [])
  pub place : n ≡ from + index same_list x (noted same_list (drop from xs) x)

-- The answer is that node; none if there was none, and there is no room for a new one.
abbrev pub Reached : {L : Type 0} → (L → List ℕ) → ℕ → List ℕ → Row → Draft L → Draft L → Option ℕ → Type 0
Reached f from x q b c None = (has same_list x (drop from (amounts f b)) ≡ false) × Short b (suc (length (entries b.loads)))
Reached f from x q b c (Some n) = Noted (entries b.rows) (entries c.rows) (amounts f b) (amounts f c) from x q n
