use Rattle.lp.proofs.Entries.{joins}
use Rattle.lp.proofs.constraints.write_label.Goals as goal

pub returns : goal.returns
returns g c = let turn = g.met.S.Sink.in_turn in joins turn c.put.ensures (joins turn c.put_number.ensures c.put-2.ensures)
