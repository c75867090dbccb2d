-- What every call that can change a job owes.
use Rattle.std.specs.Prelude.{◌≡◌, false, drop}
use Rattle.flow.specs.Job.{Answer, Call, step}
use Rattle.flow.specs.Law.{done}
use Rattle.job.specs.declared.job.Job.{Job}
use Rattle.job.specs.View.{arcs_of, size, view}

-- the rows, and what the cells past the arcs hold, are the same, in the same memory
pub record SameMemory (before after : Job) : Type 0 where
  pub rows : after.rows ≡ before.rows
  pub past : drop (arcs_of before) after.cells.now ≡ drop (arcs_of before) before.cells.now
  pub lent : after.cells.ghost_name ≡ before.cells.ghost_name

-- A call follows its definition: the answer and the view that it leaves are the definition's at the view before.
-- A refused call leaves everything as it was.
pub record Follows (before after : Job) (c : Call) (r : Answer) : Type 0 where
  pub step : step (size before) (view before) c ≡ (r, view after)
  pub memory : SameMemory before after
  pub refused : done r ≡ false → after ≡ before
