use Rattle.std.proofs.Common.{◌-◌, is_some, ap, refl, ◌∙◌, rules}
use Rattle.std.specs.Iterator.Adapters.{map_callee, map_source}
use Rattle.std.proofs.lemmas.Iterator.{YieldsList-from_map, YieldsList-from_range}
use Rattle.std.proofs.lemmas.Iterator.Consumers.{YieldsList-from_filter}
use Rattle.graph.specs.Graph.{head, take_arc}
use Rattle.flow.specs.Arcs.{item_arcs}
use Rattle.flow.specs.Text.{entries}
use Rattle.lp.specs.declared.arcs.Lead.TheVariants.{Added}
use Rattle.lp.specs.Writing.{arc_entry}
use Rattle.lp.proofs.Entries.{drained, plus_entries, same_bytes}
use Rattle.lp.proofs.Items.{next_begins, takes_each}
use Rattle.lp.proofs.constraints.write_takes.Goals as goal

pub returns : goal.returns
returns g c =
    let rows = c.args.graph.rows.now in
    let nodes = c.nodes_of-nodes.result in
    let source = c.filter-arcs.ensures.source in
    let took = c.write_arcs.ensures.took in
    let arcs = drained took.0 took.1
    (YieldsList-from_filter _ (λ a. is_some (head rows a))
    (YieldsList-from_map _ take_arc (YieldsList-from_range nodes.start nodes.end (nodes.end - nodes.start) (ap map_source source ∙ c.map.ensures.source) refl) (ap map_callee source ∙ c.map.ensures.closure) (λ x r q k. search rules))
    c.filter-arcs.ensures.closure (λ x b q k. search rules)) in
    record {
      took = same_bytes g.S.Sink.took (ap (entries (arc_entry Added) 0) (arcs ∙ takes_each rows c.args.item nodes.start nodes.end c.nodes_of-nodes.ensures) ∙ plus_entries 0 (item_arcs rows c.args.item)) took.2;
      end = next_begins rows c.args.item nodes.start nodes.end c.nodes_of-nodes.ensures;
    }
