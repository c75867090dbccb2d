use Rattle.compile.proofs.Lookup.{told}
use Rattle.compile.proofs.draft.nodes.same.Goals as goal

pub returns : goal.returns
returns g c = told _ _ _ c.same.ensures
