use Rattle.compile.proofs.Growth.{grew_both_trans}
use Rattle.compile.proofs.Passes.{followed}
use Rattle.compile.proofs.draft.Draft.inner_item.Goals as goal

pub returns : goal.returns
returns g c =
    let k = g.K.Kind in
    let made = c.in_ok-stations.ensures in
    record {
      kept = grew_both_trans _ _ _ made.kept c.arcs.ensures.kept;
      cases = followed k.amount (k.meaning c.args.kind.now) c.args.item.now c.args.low c.args.self.now c.stations.new.self c.requires.within made.cases
          c.arcs.new.self c.new.result c.arcs.result c.new.ensures made.kept c.arcs.ensures.leads;
    }
