use Rattle.packing.proofs.Orders.{finds_flaws}
use Rattle.packing.proofs.flaws_found.Goals as goal

pub returns : goal.returns
returns c = finds_flaws
