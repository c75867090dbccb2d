use Rattle.std.proofs.Common.{◌∷◌, [], ◌++◌, subst, arith, length-append}
use Rattle.std.specs.Iterator.{Drains}
use Rattle.flow.specs.Text.{break, entries}
use Rattle.lp.specs.Writing.{arc_entry}
use Rattle.lp.proofs.Entries.{entries_more, joins_to}
use Rattle.lp.proofs.arcs.write_arcs.Goals as goal

pub loop-arc-preserved : goal.loop-arc-preserved
loop-arc-preserved g c =
    let so_far = c.loop-arc.invariant in
    let on = c.in-Some.ensures.goes.on so_far.ends in
    record {
      can = on.0;
      ends = on.1;
      counted = omega (arith, so_far.counted, length-append c.loop-arc.yielded (c.in-Some.arc ∷ []));
      few = omega (arith, so_far.few, on.2);
      took = joins_to g.met.S.Sink.in_turn {xs = entries (arc_entry c.args.lead) c.args.k c.loop-arc.yielded} {ys = break c.loop-arc.count ++ arc_entry c.args.lead c.loop-arc.count c.in-Some.arc}
          (entries_more (arc_entry c.args.lead) c.args.k c.loop-arc.count c.loop-arc.yielded c.in-Some.arc so_far.counted) so_far.took c.write_arc.ensures;
    }

pub returns : goal.returns
returns g c =
    let all = c.loop-arc.yielded in
    let drained : Drains g.I.Iterator.next_gives c.args.arcs all =
    subst (λ s. Drains g.I.Iterator.next_gives s all) c.into_iter-arc-iterator.ensures.into_iter_gives (_, (_, c.loop-arc.yielded_by, c.in-None.ensures.steps)) in
    record { took = (all, drained, c.loop-arc.invariant.took); count = (all, drained, c.loop-arc.invariant.counted) }
