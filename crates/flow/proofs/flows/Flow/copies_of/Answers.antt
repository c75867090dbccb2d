use Rattle.std.proofs.Common.{◌≡◌, ◌+◌, ◌*◌, cond, ◌&&◌, eqb, is_some, ◌∙◌, sym, arith}
use Rattle.std.proofs.lemmas.Bool.{cond-true, cond-false, and_from, and_left, and_right, eq-eqb, ne_eqb}
use Rattle.graph.specs.Graph.{at}
use Rattle.flow.specs.Flow.{on}
use Rattle.flow.proofs.Scanning.{copies_more}
use Rattle.flow.proofs.flows.Flow.copies_of.Goals as goal
use Rattle.flow.proofs.flows.Flow.copies_of.Goals.{then-row-item+then-is_some, else-row-item, else-row-item-via-then-row-item+else-is_some, else-row-item-via-else-row-item}

pub loop-node-preserved : goal.loop-node-preserved
loop-node-preserved c =
    let g = c.args.self.now.rows.now in
    let f = c.args.self.now.arcs.now in
    let n = c.loop-node.node in
    let more = copies_more g f c.args.item n in
    elim c.if-row-item.branch [
      | then-row-item+then-is_some w ↦ (
          let adds = cond-true _ (on f (2 * n + 1)) 0 (and_from _ _ (sym w.is_some.ensures ∙ w.if-is_some.true) (eq-eqb _ _ w.if-row-item.true)) in
          (omega (arith, c.loop-node.invariant.0, w.sum-is, w.from-sum.ensures, adds, more), omega (arith, c.loop-node.invariant.1, w.sum-is, w.from-sum.ensures, c.args.self.now.fits.limited (2 * n + 1))))
      | else-row-item w ↦ (
          let none : cond (is_some (at g n).take && eqb (at g n).item c.args.item) (on f (2 * n + 1)) 0 ≡ 0 =
          elim w.else-row-item.branch [
            | else-row-item-via-then-row-item+else-is_some w' ↦ cond-false _ _ _ (and_left _ _ (sym w'.is_some.ensures ∙ w'.if-is_some.false))
            | else-row-item-via-else-row-item w' ↦ cond-false _ _ _ (and_right (is_some (at g n).take) _ (ne_eqb _ _ w'.if-row-item.false))
          ] in
          (omega (arith, c.loop-node.invariant.0, w.sum-is, more, none), omega (arith, c.loop-node.invariant.1, w.sum-is)))
    ]
