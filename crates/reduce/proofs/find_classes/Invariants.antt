use Rattle.std.proofs.Common.{◌≡◌, drop}
use Rattle.graph.specs.Reduced.{classes}
use Rattle.reduce.proofs.find_classes.Given as goal

abbrev pub invariant-loop-n : goal.invariant-loop-n
invariant-loop-n l = drop l.n l.labels ≡ classes l.n (drop l.n l.rows)
