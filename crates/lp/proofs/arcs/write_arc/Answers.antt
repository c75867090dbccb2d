use Rattle.lp.proofs.Entries.{joins}
use Rattle.lp.proofs.arcs.write_arc.Goals as goal

pub returns : goal.returns
returns g c =
    let turn = g.met.S.Sink.in_turn in
    let start = rw c.line_break.ensures at c.put.ensures in
    let lead = rw c.text.ensures at c.put-2.ensures in
    joins turn start (joins turn lead (joins turn c.put-3.ensures c.put_number.ensures))
