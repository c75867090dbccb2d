use Rattle.lp.proofs.Linking.{left_at_first}
use Rattle.lp.proofs.links.LinkedGraph.incoming.Goals as goal

pub returns : goal.returns
returns c = left_at_first c.args.self.rows.now c.args.node (c.args.self.links.first_into c.args.node c.requires)
