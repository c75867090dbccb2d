use Rattle.std.proofs.Common.{eqb, drop, ◌∙◌, rules, tests}
use Rattle.std.proofs.lemmas.Iterator.{YieldsList-from_slice}
use Rattle.std.proofs.lemmas.Iterator.Consumers.{YieldsList-at, count_from_yields_List}
use Rattle.std.proofs.lemmas.Iterator.Search.{YieldsList-from_take_while}
use Rattle.std.proofs.lemmas.List.{take_rest}
use Rattle.std.proofs.lemmas.List.Folds.{length-prefix_len}
use Rattle.graph.specs.declared.Row.{Row}
use Rattle.lp.proofs.Items.{nodes_from}
use Rattle.lp.proofs.constraints.nodes_of.Goals as goal

pub returns : goal.returns
returns c =
    let rows = c.args.rows.now in
    let i = c.args.item in
    let start = c.args.start in
    nodes_from rows i start _ c.requires.order c.requires.begin
    (count_from_yields_List c.take_while.result _ c.count-len.ensures.ran
    (YieldsList-from_take_while _ (λ (r : Row). eqb r.item i) (YieldsList-at c.take_while.ensures.source (YieldsList-from_slice (drop start rows) (c.iter.ensures.rest ∙ take_rest rows start)))
    c.take_while.ensures.closure c.take_while.ensures.done (λ x b q k. search (rules, tests)))
    ∙ length-prefix_len (λ (r : Row). eqb r.item i) (drop start rows))
