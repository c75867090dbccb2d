use Rattle.reduce.proofs.Writes.{writing_step}
use Rattle.reduce.proofs.write_rows.Goals as goal

pub loop-n-preserved : goal.loop-n-preserved
loop-n-preserved c =
    let set = c.set.ensures in
    writing_step c.args.rows.now c.loop-n.rows c.set.new.self c.args.numbers.now c.loop-n.n c.lead_row-row.result c.as_slice.result.now
    c.loop-n.invariant c.loop-n-test.true c.as_slice.ensures c.lead_row-row.ensures set.entries set.spare set.memory
