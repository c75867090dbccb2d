use Rattle.std.proofs.Common.{◌≡◌, ℕ, ◌+◌, ◌-◌, drop, subst, arith}
use Rattle.graph.specs.Reduced.{classes}
use Rattle.reduce.proofs.Scans.{class_added}
use Rattle.reduce.proofs.find_classes.Goals as goal

pub loop-n-preserved : goal.loop-n-preserved
loop-n-preserved c =
    let g = c.args.rows.now in
    let xs = c.loop-n.labels in
    let n = c.loop-n.n - 1 in
    let back : c.loop-n.n ≡ n + 1 = omega (arith, c.loop-n-test.true) in
    class_added c.requires.shaped.0 g c.requires.shaped.1 xs n c.find_class.result (omega arith) (omega arith)
    (subst (λ (k : ℕ). drop k xs ≡ classes k (drop k g)) back c.loop-n.invariant) c.find_class.ensures
