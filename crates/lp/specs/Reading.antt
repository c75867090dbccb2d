-- A model read back from its text, word by word from the last to the first.
use Rattle.std.specs.Prelude.{◌≡◌, ℕ, ◌^◌, ◌<◌, ◌≤◌, Bool, cond, ◌&&◌, ◌||◌, List, [], ◌∷◌, map, length, ◌==◌, nat_le}
use Rattle.std.specs.Str.Parse.{digits_value}
use Rattle.std.specs.List.{AllByRecursion}
use Rattle.graph.specs.declared.Row.{Row}
use Rattle.flow.specs.Model.{Variable, Variable.Z, Variable.X, Term, Term.Plus, Term.Minus, Relation, Relation.Equal, Relation.AtLeast, Label, Label.Node, Label.Item, Constraint, Model, model}
use Rattle.flow.specs.Text.{text}

-- a space, a line feed or a colon
abbrev pub separates : ℕ → Bool
separates c = c == 32 || (c == 10 || c == 58)

-- one byte more at the start of the first piece
abbrev pub onto : ℕ → List (List ℕ) → List (List ℕ)
onto c [] = (c ∷ []) ∷ []
onto c (w ∷ ws) = (c ∷ w) ∷ ws

-- what stands between the separators
abbrev pub pieces : List ℕ → List (List ℕ)
pieces [] = [] ∷ []
pieces (c ∷ bytes) = cond (separates c) ([] ∷ pieces bytes) (onto c (pieces bytes))

-- what was read of a text from some word on: rows, variables, and of the row at hand its terms, its relation and its right side
pub record Reading : Type 0 where
  pub rows : List Constraint
  pub variables : List Variable
  pub terms : List Term
  pub relation : Relation
  pub right : ℕ

-- nothing was read
abbrev pub unread : Reading
unread = record { rows = []; variables = []; terms = []; relation = Equal; right = 0 }

-- the row at hand with these terms
abbrev pub with_terms : List Term → Reading → Reading
with_terms ts s = record { rows = s.rows; variables = s.variables; terms = ts; relation = s.relation; right = s.right }

-- the row at hand with one term more in front
abbrev pub with_term : Term → Reading → Reading
with_term t s = with_terms (t ∷ s.terms) s

-- the first term with the other sign
abbrev pub negated : List Term → List Term
negated [] = []
negated (Plus x ∷ ts) = Minus x ∷ ts
negated (Minus x ∷ ts) = Plus x ∷ ts

-- the row at hand with this relation
abbrev pub related : Relation → Reading → Reading
related r s = record { rows = s.rows; variables = s.variables; terms = s.terms; relation = r; right = s.right }

-- the row at hand with this right side
abbrev pub numbered : ℕ → Reading → Reading
numbered n s = record { rows = s.rows; variables = s.variables; terms = s.terms; relation = s.relation; right = n }

-- the row at hand begins here
abbrev pub labelled : Label → Reading → Reading
labelled l s =
    let c : Constraint = record { label = l; terms = s.terms; relation = s.relation; right = s.right } in
    record { rows = c ∷ s.rows; variables = s.variables; terms = []; relation = s.relation; right = s.right }

-- the variable of a term
abbrev pub variable_of : Term → Variable
variable_of (Plus x) = x
variable_of (Minus x) = x

-- the list of variables begins here
abbrev pub listing : Reading → Reading
listing s = record { rows = s.rows; variables = map variable_of s.terms; terms = []; relation = s.relation; right = s.right }

-- a word by its first byte, one of x z - = > n d G; any other says nothing
abbrev pub letter : ℕ → List ℕ → Reading → Reading
letter c ds s =
    cond (c == 120) (with_term (Plus (X (digits_value 10 ds))) s)
    (cond (c == 122) (with_term (Plus Z) s)
    (cond (c == 45) (with_terms (negated s.terms) s)
    (cond (c == 61) (related Equal s)
    (cond (c == 62) (related AtLeast s)
    (cond (c == 110) (labelled (Node (digits_value 10 ds)) s)
    (cond (c == 100) (labelled (Item (digits_value 10 ds)) s)
    (cond (c == 71) (listing s) s)))))))

-- a decimal digit
abbrev pub digit : ℕ → Bool
digit c = nat_le 48 c && nat_le c 57

-- one word more, which stands before what was read
abbrev pub word : List ℕ → Reading → Reading
word [] s = s
word (c ∷ ds) s = cond (digit c) (numbered (digits_value 10 (c ∷ ds)) s) (letter c ds s)

-- what the words say, from the last back
abbrev pub read_words : List (List ℕ) → Reading
read_words [] = unread
read_words (w ∷ ws) = word w (read_words ws)

-- the model that a text tells
abbrev pub reads : List ℕ → Model
reads bytes = record { rows = (read_words (pieces bytes)).rows; variables = (read_words (pieces bytes)).variables }

-- Numbers of at most 64 bits.
abbrev pub WithinVariable : Variable → Type 0
WithinVariable Z = Unit {0}
WithinVariable (X a) = a < 2 ^ 64

-- a label of a number of at most 64 bits
abbrev pub WithinLabel : Label → Type 0
WithinLabel (Node n) = n < 2 ^ 64
WithinLabel (Item i) = i < 2 ^ 64

-- a row of such numbers
pub record WithinRow (c : Constraint) : Type 0 where
  pub label : WithinLabel c.label
  pub terms : AllByRecursion (λ t. WithinVariable (variable_of t)) c.terms
  pub right : c.right < 2 ^ 64

-- a model of such numbers
pub record Within (m : Model) : Type 0 where
  pub rows : AllByRecursion WithinRow m.rows
  pub variables : AllByRecursion WithinVariable m.variables

-- the text of a model tells the whole model
abbrev pub ReadsBack : Type 0
ReadsBack = (m : Model) → Within m → reads (text m) ≡ m

-- so two models with the same text are the same
abbrev pub TextsDistinguish : Type 0
TextsDistinguish = (m n : Model) → Within m → Within n → text m ≡ text n → m ≡ n

-- and the text of a graph's model tells that model
abbrev pub GraphsReadBack : Type 0
GraphsReadBack = (g : List Row) (demands : List ℕ) → length g ≤ 65535 → length demands ≤ 64 → AllByRecursion (λ b. b ≤ 4095) demands → reads (text (model g demands)) ≡ model g demands
