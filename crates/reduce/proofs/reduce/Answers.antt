use Rattle.std.proofs.Common.{length, take, ap, ◌∙◌, arith, rules, length-append, length-take, length-drop}
use Rattle.graph.specs.declared.Row.{Row}
use Rattle.lists.specs.Entries.{entries}
use Rattle.graph.specs.Reduced.{classes}
use Rattle.reduce.proofs.Writes.{length_written}
use Rattle.reduce.proofs.Whole.{numbers_clear, cells_left, labels_within, rows_left}
use Rattle.reduce.proofs.reduce.Goals as goal

pub rank-count-requires-clause-within : goal.rank-count-requires-clause-within
rank-count-requires-clause-within c =
    labels_within c.requires.shaped.0 _ c.requires.shaped.1 _ _ (c.find_classes.ensures ∙ ap (classes 0) c.as_slice.ensures) (omega arith)

pub rank-count-requires-clause-clear : goal.rank-count-requires-clause-clear
rank-count-requires-clause-clear c =
    let s = c.split_at_mut-labels in
    let t = c.split_at_mut-numbers in
    numbers_clear c.args.cells.now s.result.0.now s.result.1.now t.result.0.now t.result.1.now c.len-n.result s.ensures.value t.ensures.value
    (omega arith) (omega arith) (λ k lt. c.requires.clear k (omega arith))

pub returns-clause-entries : goal.returns-clause-entries
returns-clause-entries c =
    rows_left c.requires.shaped.0 _ c.requires.shaped.1 c.find_classes.new.labels c.rank-count.new.values c.rank-count.result _
    (c.find_classes.ensures ∙ ap (classes 0) c.as_slice.ensures) c.rank-count.ensures.ranks c.rank-count.ensures.count
    (c.truncate.ensures.entries ∙ ap (take c.rank-count.result) c.write_rows.ensures.entries)

pub returns-clause-capacity : goal.returns-clause-capacity
returns-clause-capacity c =
    let g = entries c.args.rows.now in
    let long = ap length c.write_rows.ensures.entries ∙ length_written (length g) c.rank-count.new.values g in
    let spared = ap length c.write_rows.ensures.spare in
    let cut = c.truncate.ensures in
    omega (arith, long, spared, ap length cut.entries, ap length cut.spare, length-append {A = Row}, length-take {A = Row}, length-drop {A = Row})

pub returns-clause-cells : goal.returns-clause-cells
returns-clause-cells c =
    let s = c.split_at_mut-labels in
    let t = c.split_at_mut-numbers in
    cells_left c.args.cells.now s.result.0.now s.result.1.now t.result.0.now t.result.1.now c.len-n.result s.ensures.value t.ensures.value
    (omega arith) (omega arith) (λ k lt. c.requires.clear k (omega arith)) c.fill.new.self c.fill-2.new.self (search rules) (search rules) (omega arith) (omega arith)
