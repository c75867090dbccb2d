use Rattle.graph.proofs.Numbering.{compiled_stepped}
use Rattle.graph.proofs.OneNumbering.{numbering_fixed}
use Rattle.graph.proofs.numbering_is_fixed.Goals as goal

pub returns : goal.returns
returns c = record { compiled = compiled_stepped; fixed = numbering_fixed }
