-- The line of a bin.
use Rattle.std.specs.Prelude.{ℕ, cond, List, [], ◌∷◌, ◌++◌, codes, decimal, ◌==◌}
use Rattle.packing.specs.declared.Item.{Item}

-- an item in a bin: its name and its count, each after a space; nothing if the count is 0
abbrev pub part : List ℕ → ℕ → List ℕ
part name count = cond (count == 0) [] (32 ∷ (name ++ (codes " " ++ decimal count)))

-- each item with its count, in order
abbrev pub parts : List Item → List ℕ → List ℕ
parts [] counts = []
parts (i ∷ items) [] = []
parts (i ∷ items) (c ∷ counts) = part i.name.now c ++ parts items counts

-- the times, the items in the bin, and a line feed
abbrev pub line : ℕ → List Item → List ℕ → List ℕ
line times items counts = decimal times ++ (parts items counts ++ (10 ∷ []))
