use Rattle.compile.proofs.Passes.{ended}
use Rattle.compile.proofs.draft.Draft.last_item.Goals as goal

pub returns-clause-cases : goal.returns-clause-cases
returns-clause-cases g c =
    let k = g.K.Kind in
    let led = c.pass_to_target.ensures in
    ended k.amount (k.meaning c.args.kind.now) c.args.item.now c.args.low c.args.self.now c.stations.new.self c.requires.within c.in_ok-stations.ensures.cases
    c.pass_to_target.new.self led.rows led.loads
