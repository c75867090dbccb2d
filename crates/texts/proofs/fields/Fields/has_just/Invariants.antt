use Rattle.std.proofs.Common.{◌≡◌, ◌-◌}
use Rattle.texts.specs.Grammar.{just}
use Rattle.texts.specs.Parts.{words_left}
use Rattle.texts.proofs.fields.Fields.has_just.Given as goal

abbrev pub invariant-loop : goal.invariant-loop
invariant-loop l = just (l.n - l.counter) (words_left l.self) ≡ just l.n (words_left l.initial.self)
