use Rattle.std.proofs.Common.{sym, ◌∙◌, arith, rules}
use Rattle.compile.specs.Build.{items_of}
use Rattle.compile.proofs.Orders.{number_of_items}
use Rattle.compile.proofs.Memory.{compiles}
use Rattle.compile.proofs.build.compile.Goals as goal

pub returns-clause-compiles : goal.returns-clause-compiles
returns-clause-compiles g c =
    let k = g.K.Kind.meaning c.args.kind.now in
    let cut = c.truncate.ensures in
    let free = c.over-loads.ensures in
    let built = c.in_ok-build.ensures in
    let same = sym free.lent ∙ sym built.loads.memory in
    compiles g.K.Kind.amount k (items_of k c.args.items.now) c.args.rows.now c.truncate.new.self c.build.new.rows c.add_target.new.rows c.over-loads.result c.build.new.loads
    c.args.memory.now _ cut.entries cut.spare free.empty free.free built.rows built.loads (search rules) built.built c.add_target.ensures.kept
    _ (omega (arith, number_of_items k c.args.items.now)) c.add_target.result c.add_target.ensures.cases
