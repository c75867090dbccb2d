use Rattle.std.proofs.Common.{refl, arith}
use Rattle.job.proofs.Asking.{some_copies}
use Rattle.job.proofs.job.Job.copies_left.Goals as goal

pub returns : goal.returns
returns c =
    let b = c.args.self.now in
    let h = some_copies b (c.in_ok-expect.ensures.ok.0 refl) c.args.item c.if-item-eq0.false (omega (arith, c.if-item-len.false, c.len.ensures.value)) in
    rw c.as_slice.ensures.value h
