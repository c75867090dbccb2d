use Rattle.std.proofs.Common.{◌≡◌}
use Rattle.lists.specs.Entries.{entries}
use Rattle.compile.specs.Drafts.{GrewBoth}
use Rattle.compile.specs.Steps.{passing}
use Rattle.compile.proofs.Target.{Reached}
use Rattle.compile.proofs.draft.Draft.pass_to_target.Given as goal

abbrev pub invariant-loop-n : goal.invariant-loop-n
invariant-loop-n g l =
    GrewBoth l.initial.self l.self × (l.self.loads ≡ l.initial.self.loads)
    × Reached (passing l.high) (entries l.initial.self.rows) l.low (entries l.self.rows) l.n
