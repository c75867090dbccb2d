use Rattle.std.proofs.Common.{◌≡◌, ◌+◌, drop, take_while, ◌∙◌, rules, tests}
use Rattle.std.proofs.lemmas.List.{take_rest}
use Rattle.std.specs.Option.{option_map}
use Rattle.std.specs.List.{find, zip}
use Rattle.std.proofs.lemmas.Iterator.{YieldsList-from_slice, YieldsList-from_zip}
use Rattle.std.proofs.lemmas.Iterator.Consumers.{YieldsList-at}
use Rattle.std.proofs.lemmas.Iterator.Search.{YieldsList-from_take_while, find_from_yields_List}
use Rattle.graph.specs.declared.Row.{Row}
use Rattle.graph.specs.Graph.{at}
use Rattle.graph.specs.Reduced.{led, same_row}
use Rattle.reduce.specs.Reducing.{to}
use Rattle.reduce.proofs.Scans.{class_found, same_station}
use Rattle.reduce.proofs.find_class.Goals as goal

pub returns : goal.returns
returns c =
    let xs = c.args.labels.now in
    let g = c.args.rows.now in
    let n = c.args.n in
    let own : Row = led (to xs) (at g n) in
    let later = zip (drop (n + 1) g) (drop (n + 1) xs) in
    let rows_rest = c.iter.ensures.rest ∙ take_rest g (n + 1) in
    let labels_rest = c.zip.ensures.second.0 ∙ take_rest xs (n + 1) in
    let found : option_map (λ p. (p.0.now, p.1.now)) c.find.result ≡ find (λ p. same_row own (led (to xs) p.0)) (take_while (λ p. same_station p.0 own) later) =
    find_from_yields_List (λ p. same_row own (led (to xs) p.0)) _ _ c.find.result c.find.ensures.ran
    (YieldsList-from_take_while _ (λ p. same_station p.0 own)
    (YieldsList-at c.take_while.ensures.source
    (YieldsList-from_zip (YieldsList-at c.zip.ensures.first (YieldsList-from_slice (drop (n + 1) g) rows_rest))
    (YieldsList-from_slice (drop (n + 1) xs) labels_rest)))
    c.take_while.ensures.closure c.take_while.ensures.done (λ x b q k. search (rules, tests)))
    (λ x b q k. search (rules, tests)) in
    class_found c.requires.labelled.shaped.0 g c.requires.labelled.shaped.1 xs n _ _ found (search rules)
