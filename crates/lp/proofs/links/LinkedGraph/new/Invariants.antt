use Rattle.lp.proofs.Linking.{LinkedFrom}
use Rattle.lp.proofs.links.LinkedGraph.new.Given as goal

abbrev pub invariant-loop-arc : goal.invariant-loop-arc
invariant-loop-arc l = LinkedFrom l.rows l.first l.next l.arc
