-- How a graph grows as it is built, and when the memory for it is too small.
use Rattle.std.specs.Prelude.{◌≡◌, ℕ, List, [], ◌∷◌, ◌++◌, map, length}
use Rattle.lists.specs.Entries.{entries}
use Rattle.graph.specs.declared.Row.{Row}
use Rattle.compile.specs.declared.draft.Draft.{Draft}
use Rattle.compile.specs.Growth.{Grew, ShortOf}

module _ {L : Type 0} where
  -- the amounts of the nodes
  abbrev pub amounts : (L → List ℕ) → Draft L → List (List ℕ)
  amounts f b = map f (entries b.loads)

  -- rows and loads grew
  pub record GrewBoth (b c : Draft L) : Type 0 where
    pub rows : Grew b.rows c.rows
    pub loads : Grew b.loads c.loads

  -- it has no room for n nodes
  abbrev pub Short : Draft L → ℕ → Type 0
  Short b n = ShortOf b.rows b.loads n

  -- c is b with a node added, as node n
  pub record Added (b c : Draft L) (q : Row) (x : L) (n : ℕ) : Type 0 where
    pub place : n ≡ length (entries b.loads)
    pub rows : entries c.rows ≡ entries b.rows ++ q ∷ []
    pub loads : entries c.loads ≡ entries b.loads ++ x ∷ []
