use Rattle.lp.proofs.Entries.{joins}
use Rattle.lp.proofs.constraints.write_item_row.Goals as goal

pub returns : goal.returns
returns g c =
    let turn = g.met.S.Sink.in_turn in
    record {
      took = joins turn c.write_label.ensures (joins turn c.write_takes-end.ensures.took (joins turn c.put.ensures (joins turn c.put_number.ensures c.put-2.ensures)));
      end = c.write_takes-end.ensures.end;
    }
