use Rattle.std.proofs.Common.{◌≡◌, length, Some, ap, sym, subst, suc, ◌∙◌, arith}
use Rattle.std.proofs.lemmas.List.{get_or_default}
use borrow.Author.Tests.{ltb-true}
use Rattle.graph.specs.Graph.{head}
use Rattle.lp.specs.Links.{NextInto}
use Rattle.lp.proofs.Linking.{left_at_next}
use Rattle.lp.proofs.links.IncomingIterator.next.Goals as goal

pub returns : goal.returns
returns c =
    let s = c.args.self.now in
    let graph = s.graph in
    let rows = graph.rows.now in
    let lookup = c.in_ok-after.ensures.lookup in
    let inside = ltb-true s.arc (length graph.next.now) (sym lookup.0) in
    let here : head rows s.arc ≡ Some s.node = s.into (omega (arith, graph.links.arcs)) in
    let read = c.replace.ensures.after ∙ lookup.1 ∙ get_or_default graph.next.now s.arc _ 0 inside in
    let step = left_at_next rows s.node s.within here (subst (NextInto rows s.node (suc s.arc)) (sym read) (graph.links.next_into s.arc s.node here)) in
    record {
      steps = rw c.replace.ensures.value step;
      goes = record { on = λ _. (tt, tt, omega (arith, ap length step)); keeps = tt; rests = λ _. tt };
    }
