use Rattle.compile.proofs.Rounds.{Round}
use Rattle.compile.proofs.draft.Draft.stations.Given as goal

abbrev pub invariant-loop-copies : goal.invariant-loop-copies
invariant-loop-copies g l = let k = g.K.Kind in Round k.amount (k.meaning l.kind) l.item l.low l.initial.self l.self l.copies l.from
