use Rattle.std.proofs.Common.{sym, refl, ◌∙◌, arith}
use Rattle.flow.proofs.Turns.{tail_carrier, spell_start, spell_step, spell_up, spell_times, spell_counts}
use Rattle.flow.proofs.flows.Flow.spell_next.Goals as goal

pub loop-node-init : goal.loop-node-init
loop-node-init c = spell_start c.requires c.args.counts.now c.carrying_arc-arc.result refl c.args.self.now.fits.limited c.carrying_arc-arc.ensures

pub loop-node-preserved : goal.loop-node-preserved
loop-node-preserved c =
    rw (c.note_count.ensures, c.min-times.ensures)
    (spell_step c.requires c.loop-node.counts c.loop-node.times c.loop-node.arc c.in-Some.node c.loop-node.invariant (sym c.in-Some.is ∙ c.target_of.ensures)
    c.carrying_arc-arc-in-Some.result c.carrying_arc-arc-in-Some.ensures)

pub returns : goal.returns
returns c = record {
  times = spell_times c.requires c.loop-node.counts c.loop-node.times c.loop-node.arc c.loop-node.invariant (sym c.in_default.is ∙ c.target_of.ensures);
  counts = spell_counts c.requires c.loop-node.counts c.loop-node.times c.loop-node.arc c.loop-node.invariant (sym c.in_default.is ∙ c.target_of.ensures);
}

pub carrying_arc-arc-requires-in-Some-clause-there : goal.carrying_arc-arc-requires-in-Some-clause-there
carrying_arc-arc-requires-in-Some-clause-there c =
    omega (arith, c.args.self.now.fits.cells, spell_up c.requires c.loop-node.counts c.loop-node.times c.loop-node.arc c.in-Some.node c.loop-node.invariant (sym c.in-Some.is ∙ c.target_of.ensures))

pub loop-node-smaller : goal.loop-node-smaller
loop-node-smaller c =
    let up = spell_up c.requires c.loop-node.counts c.loop-node.times c.loop-node.arc c.in-Some.node c.loop-node.invariant (sym c.in-Some.is ∙ c.target_of.ensures) in
    omega (arith, up.0, up.1, tail_carrier c.args.self.now.arcs.now c.in-Some.node c.carrying_arc-arc-in-Some.result c.carrying_arc-arc-in-Some.ensures)
