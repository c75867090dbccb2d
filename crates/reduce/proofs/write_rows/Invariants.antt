use Rattle.reduce.proofs.Writes.{Writing}
use Rattle.reduce.proofs.write_rows.Given as goal

abbrev pub invariant-loop-n : goal.invariant-loop-n
invariant-loop-n l = Writing l.initial.rows l.rows l.numbers l.n
