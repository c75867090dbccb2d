use Rattle.std.proofs.Common.{◌≡◌, ◌+◌, ◌*◌, length, is_some, ap, ◌∙◌, arith, rules}
use Rattle.std.proofs.lemmas.List.{length-map}
use Rattle.graph.specs.Graph.{head}
use Rattle.flow.specs.Arcs.{arcs_out}
use Rattle.flow.specs.Model.{Term.Plus, Variable.X}
use Rattle.flow.specs.Text.{entries}
use Rattle.lp.specs.declared.arcs.Lead.TheVariants.{Added}
use Rattle.lp.specs.Writing.{arc_entry}
use Rattle.lp.proofs.Entries.{drained_range, plus_entries, same_bytes}
use Rattle.lp.proofs.Rows.{arcs_of_node, few_of_node}
use Rattle.lp.proofs.constraints.write_outgoing.Goals as goal

pub returns : goal.returns
returns g c =
    let rows = c.args.graph.rows.now in
    let n = c.args.node in
    let took = c.write_arcs.ensures.took in
    let count = c.write_arcs.ensures.count in
    let arcs = drained_range (λ a. is_some (head rows a)) (2 * n) (2 * n + 2) took.0 took.1 c.filter-arcs.ensures.source c.filter-arcs.ensures.closure (λ x b q k. search rules) in
    let counted = drained_range (λ a. is_some (head rows a)) (2 * n) (2 * n + 2) count.0 count.1 c.filter-arcs.ensures.source c.filter-arcs.ensures.closure (λ x b q k. search rules) in
    let long : length count.0 ≡ length (arcs_out rows n) = ap length (counted ∙ arcs_of_node rows n) in
    record {
      took = same_bytes g.S.Sink.took (ap (entries (arc_entry Added) 0) (arcs ∙ arcs_of_node rows n) ∙ plus_entries 0 (arcs_out rows n)) took.2;
      count = omega (arith, count.2, length-map (arcs_out rows n) (λ a. Plus (X a)));
      at_most = omega (arith, count.2, few_of_node rows n);
    }
