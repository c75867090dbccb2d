use Rattle.std.proofs.Common.{refl}
use Rattle.job.proofs.Facts.{loaded_accepted}
use Rattle.job.proofs.job.Job.value_left.Goals as goal

pub value-requires : goal.value-requires
value-requires c = let b = c.args.self.now in loaded_accepted b (c.in_ok-expect.ensures.ok.0 refl)
