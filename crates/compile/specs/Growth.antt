-- How lists over lent memory grow, and when two memories are too small.
use Rattle.std.specs.Prelude.{◌≡◌, ℕ, ◌+◌, ◌-◌, ◌≤◌, length, drop}
use Rattle.lists.specs.declared.list.List.{List as Grown}
use Rattle.lists.specs.Entries.{entries, spare, SameMemory}

module _ {T : Type 0} where
  -- the most entries that the memory holds
  abbrev pub capacity : Grown T → ℕ
  capacity l = length (entries l) + length (spare l)

  -- m is l with some entries changed and others added; the cells that are still spare keep their content
  pub record Grew (l m : Grown T) : Type 0 where
    pub longer : length (entries l) ≤ length (entries m)
    pub rest : spare m ≡ drop (length (entries m) - length (entries l)) (spare l)
    pub room : capacity m ≡ capacity l
    pub memory : SameMemory m l

-- not both memories hold n entries
abbrev pub ShortOf : {S T : Type 0} → Grown S → Grown T → ℕ → Type 0
ShortOf r l n = n ≤ capacity r → n ≤ capacity l → ⊥
