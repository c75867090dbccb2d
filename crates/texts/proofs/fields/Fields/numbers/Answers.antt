use Rattle.std.proofs.Common.{arith}
use Rattle.std.proofs.lemmas.Grind.{common_steps}
use Rattle.std.proofs.lemmas.List.{take_more_set}
use Rattle.texts.proofs.Counts.{numbers_step}
use Rattle.texts.proofs.Readers.{moved_more}
use Rattle.texts.proofs.fields.Fields.numbers.Goals as goal

pub loop-value-preserved : goal.loop-value-preserved
loop-value-preserved c =
    let next = c.in_ok-value.ensures in
    record { moved = moved_more _ 1 _ _ _ c.loop-value.invariant.moved next.moved; read = grind (arith, common_steps, numbers_step, take_more_set) }
