-- The answer of the check on items.
use Rattle.std.specs.Prelude.{ℕ, Some, None, Ok, Err, Option, Result}
use Rattle.refusal.specs.declared.Refusal.{Refusal}
use Rattle.refusal.specs.declared.Refusal.TheVariants.{BadItem}

-- an item with which something is wrong is refused
abbrev pub verdict : Option ℕ → Result (Unit {0}) Refusal
verdict None = Ok tt
verdict (Some i) = Err (BadItem i)
