use Rattle.packing.proofs.Orders.{orders_packable}
use Rattle.packing.proofs.orders_packable.Goals as goal

pub returns : goal.returns
returns c = orders_packable
