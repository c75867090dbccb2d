-- Models with their texts written out.
use Rattle.std.specs.Prelude.{◌≡◌, ℕ, true, [], ◌∷◌, map, codes}
use Rattle.flow.specs.Cases.{graph_of_five}
use Rattle.flow.specs.Arcs.{numbers}
use Rattle.flow.specs.Model.{Constraint, Label.Node, Relation.Equal, Variable.X, model, plus}
use Rattle.flow.specs.Text.{constraint, entries, listed, text}

-- a row of the first n arcs
abbrev row_of : ℕ → Constraint
row_of n = record { label = Node 1; terms = plus (numbers (λ a. true) n); relation = Equal; right = 0 }

-- a whole model, and rows and lists at the breaks of lines
pub record Samples : Type 0 where
  -- a board of 3 and two rails of 2, in a length of 5
  pub boards_text : text (model graph_of_five (1 ∷ 2 ∷ []))
      ≡ codes "Minimize\n obj: z\nSubject To\n n0: x0 + x1 - z = 0\n n1: x2 - x1 = 0\n n2: x4 + x5 - x0 = 0\n n3: x6 + x7 - x2 = 0\n n4: x8 + x9 - x5 = 0\n n5: x10 - x7 = 0\n n6: x12 - x9 = 0\n d1: x1 >= 1\n d2: x5 + x7 + x9 >= 2\nGenerals\n z x0 x1 x2 x4 x5 x6 x7\n x8 x9 x10 x12\nEnd\n"
  -- the line breaks after each eighth entry that another follows
  pub eight : constraint (row_of 8) ≡ codes " n1: x0 + x1 + x2 + x3 + x4 + x5 + x6 + x7 = 0\n"
  pub nine : constraint (row_of 9) ≡ codes " n1: x0 + x1 + x2 + x3 + x4 + x5 + x6 + x7\n + x8 = 0\n"
  pub sixteen : constraint (row_of 16)
      ≡ codes " n1: x0 + x1 + x2 + x3 + x4 + x5 + x6 + x7\n + x8 + x9 + x10 + x11 + x12 + x13 + x14 + x15 = 0\n"
  pub seventeen : constraint (row_of 17)
      ≡ codes " n1: x0 + x1 + x2 + x3 + x4 + x5 + x6 + x7\n + x8 + x9 + x10 + x11 + x12 + x13 + x14 + x15\n + x16 = 0\n"
  pub eight_listed : entries listed 0 (map X (numbers (λ a. true) 8)) ≡ codes " x0 x1 x2 x3 x4 x5 x6 x7"
  pub nine_listed : entries listed 0 (map X (numbers (λ a. true) 9)) ≡ codes " x0 x1 x2 x3 x4 x5 x6 x7\n x8"
