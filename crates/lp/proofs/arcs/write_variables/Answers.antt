use Rattle.std.proofs.Common.{◌*◌, length, is_some, ap, ◌∙◌, rules}
use Rattle.graph.specs.Graph.{head}
use Rattle.flow.specs.Arcs.{all_arcs}
use Rattle.flow.specs.Text.{entries}
use Rattle.lp.specs.declared.arcs.Lead.TheVariants.{Listed}
use Rattle.lp.specs.Writing.{arc_entry}
use Rattle.lp.proofs.Entries.{drained_range, listed_entries, numbers_all, same_bytes}
use Rattle.lp.proofs.arcs.write_variables.Goals as goal

pub returns : goal.returns
returns g c =
    let rows = c.args.graph.rows.now in
    let took = c.write_arcs.ensures.took in
    let arcs = drained_range (λ a. is_some (head rows a)) 0 (2 * length rows) took.0 took.1 c.filter-arcs.ensures.source c.filter-arcs.ensures.closure (λ x b q k. search rules) in
    same_bytes g.S.Sink.took (ap (entries (arc_entry Listed) 1) (arcs ∙ numbers_all (λ a. is_some (head rows a)) (2 * length rows)) ∙ listed_entries 1 (all_arcs rows)) took.2
