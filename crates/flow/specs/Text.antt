-- The text of a model.
use Rattle.std.specs.Prelude.{ℕ, suc, ◌%◌, Bool, cond, ◌&&◌, List, [], ◌∷◌, ◌++◌, codes, decimal, ◌==◌, nat_lt}
use Rattle.std.specs.List.{flat_map}
use Rattle.flow.specs.Model.{Variable, Variable.Z, Variable.X, Term, Term.Plus, Term.Minus, Relation, Relation.Equal, Relation.AtLeast, Label, Label.Node, Label.Item, Constraint, Model}

-- `z`, or `x` with the number of the arc
abbrev pub variable : Variable → List ℕ
variable Z = codes "z"
variable (X a) = codes "x" ++ decimal a

-- a variable of a list
abbrev pub listed : ℕ → Variable → List ℕ
listed k x = codes " " ++ variable x

-- the term of a row that follows k others
abbrev pub term : ℕ → Term → List ℕ
term k (Plus x) = cond (k == 0) (codes " ") (codes " + ") ++ variable x
term k (Minus x) = codes " - " ++ variable x

-- k entries fill their lines: the line breaks after each eighth that another follows
abbrev pub full : ℕ → Bool
full k = nat_lt 0 k && k % 8 == 0

-- what stands before an entry that follows k others
abbrev pub break : ℕ → List ℕ
break k = cond (full k) (codes "\n") []

-- entries that follow k others
abbrev pub entries : {A : Type 0} → (ℕ → A → List ℕ) → ℕ → List A → List ℕ
entries shown k [] = []
entries shown k (x ∷ xs) = break k ++ (shown k x ++ entries shown (suc k) xs)

-- ` n` or ` d` with its number, and a colon
abbrev pub label : Label → List ℕ
label (Node n) = codes " n" ++ (decimal n ++ codes ":")
label (Item i) = codes " d" ++ (decimal i ++ codes ":")

-- the relation, between spaces
abbrev pub relation : Relation → List ℕ
relation Equal = codes " = "
relation AtLeast = codes " >= "

-- a row of the text
abbrev pub constraint : Constraint → List ℕ
constraint c = label c.label ++ (entries term 0 c.terms ++ (relation c.relation ++ (decimal c.right ++ codes "\n")))

-- the whole text
unfoldable pub text : Model → List ℕ
text m =
    codes "Minimize\n obj: z\nSubject To\n"
    ++ (flat_map constraint m.rows ++ (codes "Generals\n" ++ (entries listed 0 m.variables ++ codes "\nEnd\n")))
