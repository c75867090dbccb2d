use Rattle.compile.proofs.Turns.{Turn}
use Rattle.compile.proofs.draft.Draft.arcs.Given as goal

abbrev pub invariant-loop-n : goal.invariant-loop-n
invariant-loop-n g l = let k = g.K.Kind in Turn k.amount (k.meaning l.kind) l.step l.row l.low l.initial.self l.self l.n
