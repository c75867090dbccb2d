use Rattle.reduce.proofs.Ranks.{Ranking}
use Rattle.reduce.proofs.rank.Given as goal

abbrev pub invariant-loop-value : goal.invariant-loop-value
invariant-loop-value l = Ranking l.fn.values l.values l.numbers l.count l.value-index
