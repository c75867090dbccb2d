use Rattle.std.proofs.Common.{List, length, refl, sym, ap, subst, arith}
use Rattle.graph.specs.declared.Row.{Row}
use Rattle.graph.specs.Graph.{Layered}
use Rattle.job.specs.View.{count_of}
use Rattle.flow.proofs.Exact.{models_exactly}
use Rattle.lp.proofs.Bounds.{graphs_read_back}
use Rattle.job.proofs.Facts.{kept}
use Rattle.job.proofs.job.Job.model_text.Goals as goal

pub model_text-requires-clause-few : goal.model_text-requires-clause-few
model_text-requires-clause-few c = omega (arith, ((kept c.args.self.now).loaded (c.in_ok-expect_loaded.ensures.ok.0 refl)).nodes, ap length c.as_slice-2.ensures)

pub model_text-requires-clause-layered : goal.model_text-requires-clause-layered
model_text-requires-clause-layered c =
    let b = c.args.self.now in
    (count_of b, subst (λ (g : List Row). Layered (count_of b) g) (sym c.as_slice-2.ensures) ((kept b).loaded (c.in_ok-expect_loaded.ensures.ok.0 refl)).layers)

pub returns-in_err-expect_loaded-clause-exact : goal.returns-in_err-expect_loaded-clause-exact
returns-in_err-expect_loaded-clause-exact c = models_exactly

pub returns-in_err-expect_loaded-clause-legible : goal.returns-in_err-expect_loaded-clause-legible
returns-in_err-expect_loaded-clause-legible c = graphs_read_back

pub returns-clause-exact : goal.returns-clause-exact
returns-clause-exact c = models_exactly

pub returns-clause-legible : goal.returns-clause-legible
returns-clause-legible c = graphs_read_back
