use Rattle.std.proofs.Common.{◌≡◌, ◌-◌, Some, ◌∙◌, arith, sym}
use Rattle.graph.specs.Graph.{head}
use Rattle.lp.proofs.Items.{first_begins, layered_order}
use Rattle.lp.proofs.Linking.{all_linked, layered_inside, link_none, link_some, one_down}
use Rattle.lp.proofs.links.LinkedGraph.new.Goals as goal

pub bounds-first-to : goal.bounds-first-to
bounds-first-to c = omega (arith, layered_inside c.requires.layered.1 (c.loop-arc.arc - 1) c.in-Some.to (sym c.head_of.ensures ∙ c.in-Some.is), c.loop-arc.invariant.nodes)

pub loop-arc-preserved-in-Some : goal.loop-arc-preserved-in-Some
loop-arc-preserved-in-Some c =
    let here : head c.args.rows.now (c.loop-arc.arc - 1) ≡ Some c.in-Some.to = sym c.head_of.ensures ∙ c.in-Some.is in
    rw (c.replace.ensures.value, c.replace.ensures.after)
    (link_some (one_down c.loop-arc-test.true c.loop-arc.invariant) c.in-Some.to here (layered_inside c.requires.layered.1 (c.loop-arc.arc - 1) c.in-Some.to here))

pub loop-arc-preserved : goal.loop-arc-preserved
loop-arc-preserved c = link_none (one_down c.loop-arc-test.true c.loop-arc.invariant) (sym c.head_of.ensures ∙ c.in_default.is)

pub invariant_of-result : goal.invariant_of-result
invariant_of-result c = record { few = c.requires.few; order = layered_order c.requires.layered.1; begin = first_begins c.requires.layered.1; links = all_linked c.loop-arc-test.false c.loop-arc.invariant }
