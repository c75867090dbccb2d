use Rattle.reduce.proofs.Ranks.{ranking_again, ranking_new}
use Rattle.reduce.proofs.rank.Goals.{then-number-eq0, else-number-eq0}
use Rattle.reduce.proofs.rank.Goals as goal

pub loop-value-preserved : goal.loop-value-preserved
loop-value-preserved c =
    let s = c.loop-value in
    elim c.if-number-eq0.branch [
      | then-number-eq0 w ↦
          rw (w.number-is, w.count-is)
          (ranking_new c.args.values.now _ c.requires.within s.values s.numbers s.count s.value-index s.invariant s.auto.numbers c.loop-value-test.true w.if-number-eq0.true)
      | else-number-eq0 w ↦
          rw (w.number-is, w.count-is)
          (ranking_again c.args.values.now _ c.requires.within s.values s.numbers s.count s.value-index s.invariant s.auto.numbers c.loop-value-test.true w.if-number-eq0.false)
    ]
