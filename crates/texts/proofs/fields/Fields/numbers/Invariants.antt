use Rattle.std.proofs.Common.{◌≡◌, ◌+◌, ◌-◌, [], length, take}
use Rattle.texts.specs.Grammar.{numbers_at}
use Rattle.texts.specs.Parts.{words_left, Moved}
use Rattle.texts.proofs.fields.Fields.numbers.Given as goal

abbrev pub invariant-loop-value : goal.invariant-loop-value
invariant-loop-value l = record {
  moved : Moved l.value-index l.initial.self l.self;
  read : numbers_at l.self.line (l.self.number + 1) (length l.initial.values - l.value-index) (words_left l.self) (take l.value-index l.values) ≡ numbers_at l.initial.self.line (l.initial.self.number + 1) (length l.initial.values) (words_left l.initial.self) [];
}
