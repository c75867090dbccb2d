-- Where the steps from a node lead, and rows with an arc led.
use Rattle.std.specs.Prelude.{ℕ, List, Some, Option}
use Rattle.limits.specs.Meaning.{Meaning, joined}
use Rattle.graph.specs.declared.Row.{Row}
use Rattle.graph.specs.Graph.{row}
use Rattle.compile.specs.declared.step.Step.{Step}
use Rattle.compile.specs.declared.step.Step.TheVariants.{Take, Pass}

-- a row with its take arc led to node n
abbrev pub taking : ℕ → Row → Row
taking n r = row r.item r.copies (Some n) r.pass

-- a row with its pass arc led to node n
abbrev pub passing : ℕ → Row → Row
passing n r = row r.item r.copies r.take (Some n)

-- a row with the arc of the step led to node n
abbrev pub putting : {L : Type 0} → Step L → ℕ → Row → Row
putting (Take w) = taking
putting Pass = passing

-- the amount to which the step leads from amount a, if that fits
abbrev pub stepped : {L : Type 0} → (L → List ℕ) → Meaning → Step L → List ℕ → Option (List ℕ)
stepped f k (Take w) = λ a. joined k a (f w)
stepped f k Pass = λ a. Some a
