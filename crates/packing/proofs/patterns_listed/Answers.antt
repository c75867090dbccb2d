use Rattle.packing.proofs.Patterns.{lists_patterns}
use Rattle.packing.proofs.patterns_listed.Goals as goal

pub returns : goal.returns
returns c = lists_patterns
