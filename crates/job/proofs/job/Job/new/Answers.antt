use Rattle.flow.proofs.Runs.{packs_soundly}
use Rattle.job.proofs.job.Job.new.Goals as goal

pub returns-clause-law : goal.returns-clause-law
returns-clause-law c = packs_soundly
