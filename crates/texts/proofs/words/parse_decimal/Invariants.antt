use Rattle.std.proofs.Common.{◌≡◌, ◌≤◌, drop}
use Rattle.texts.specs.Words.{number_from, number_of}
use Rattle.texts.proofs.words.parse_decimal.Given as goal

abbrev pub invariant-loop-b : goal.invariant-loop-b
invariant-loop-b l = record {
  small : l.n ≤ 1000000000;
  rest : number_from l.n (drop l.b-index l.bytes) ≡ number_of l.bytes;
}
