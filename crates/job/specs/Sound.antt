-- What the invariant of a job says of the job.
use Rattle.job.specs.declared.job.Job.{Job}
use Rattle.job.specs.View.{graph_of, count_of}
use Rattle.job.specs.Standing.{Stands}

-- what holds of a job that is open or accepted
abbrev pub Loaded : Job → Type 0
Loaded b = Stands (count_of b) (graph_of b) b.cells.now
