use Rattle.std.proofs.Common.{arith}
use Rattle.std.proofs.lemmas.Grind.{common_steps}
use Rattle.texts.proofs.Items.{items_step, entries_push}
use Rattle.texts.proofs.Readers.{lines_more}
use Rattle.texts.proofs.instance.reading.read_items.Goals as goal

pub loop-preserved : goal.loop-preserved
loop-preserved c =
    let next = c.in_ok-item.ensures in
    let pushed = c.push_reserved.ensures in
    record {
      room = omega (arith, pushed.len, pushed.capacity);
      moved = lines_more _ 1 _ _ _ c.loop.invariant.moved next.moved;
      read = grind (arith, common_steps, items_step, entries_push);
    }
