use Rattle.std.proofs.Common.{◌*◌, length, ap, refl, ◌∙◌, arith}
use Rattle.std.proofs.lemmas.Iterator.Consumers.{YieldsList-from_first}
use Rattle.flow.specs.Arcs.{arcs_into}
use Rattle.flow.specs.Text.{entries}
use Rattle.lp.specs.declared.arcs.Lead.TheVariants.{TakenOff}
use Rattle.lp.specs.Incoming.{arcs_left}
use Rattle.lp.specs.Writing.{arc_entry}
use Rattle.lp.proofs.Entries.{drained, joins_to, length_numbers, minus_entries, same_bytes}
use Rattle.lp.proofs.Linking.{into}
use Rattle.lp.proofs.Rows.{source_supply, inner_supply}
use Rattle.lp.proofs.constraints.write_supply.Goals as goal

pub returns-then-node-eq0 : goal.returns-then-node-eq0
returns-then-node-eq0 g c =
    let start = rw c.line_break.ensures at c.put.ensures in
    joins_to g.met.S.Sink.in_turn (source_supply c.args.graph.rows.now c.args.node c.args.k c.if-node-eq0.true) start c.put-then-node-eq0.ensures

pub write_arcs-requires-clause-few : goal.write_arcs-requires-clause-few
write_arcs-requires-clause-few g c =
    let rows = c.args.graph.rows.now in
    (tt, omega (arith, ap length c.incoming.ensures, length_numbers (into rows c.args.node) (2 * length rows), c.args.graph.few))

pub returns-else-node-eq0 : goal.returns-else-node-eq0
returns-else-node-eq0 g c =
    let rows = c.args.graph.rows.now in
    let took = c.write_arcs.ensures.took in
    let arcs = drained took.0 took.1 (YieldsList-from_first (λ x. x) arcs_left _ refl) ∙ c.incoming.ensures in
    same_bytes g.S.Sink.took (ap (entries (arc_entry TakenOff) c.args.k) arcs ∙ minus_entries c.args.k (arcs_into rows c.args.node) ∙ inner_supply rows c.args.node c.args.k c.if-node-eq0.false) took.2
