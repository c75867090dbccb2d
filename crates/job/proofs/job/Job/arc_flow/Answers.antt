use Rattle.std.proofs.Common.{is_some, refl, sym, ap, ◌∙◌, arith}
use Rattle.std.proofs.lemmas.Bool.{cond-true}
use Rattle.flow.specs.Job.{flow_of, told, Fact.Amount}
use Rattle.flow.proofs.Scanning.{arc_within}
use Rattle.graph.specs.Graph.{head}
use Rattle.job.specs.View.{graph_of}
use Rattle.job.proofs.Facts.{kept, cell_is}
use Rattle.job.proofs.Asking.{asks}
use Rattle.job.proofs.job.Job.arc_flow.Goals as goal

pub bounds-self-arc : goal.bounds-self-arc
bounds-self-arc c =
    let b = c.args.self.now in
    let l = (kept b).loaded (c.in_ok-expect_loaded.ensures.ok.0 refl) in
    let e = ap (λ g. head g c.args.arc) (sym c.as_slice.ensures) ∙ sym c.target_of.ensures ∙ c.in_ok-ok_or.ensures.ok_part in
    omega (arith, l.room, arc_within (graph_of b) c.args.arc c.in_ok-ok_or.field-0 e)

pub returns : goal.returns
returns c =
    let b = c.args.self.now in
    let ne = c.in_ok-expect_loaded.ensures.ok.0 refl in
    let l = (kept b).loaded ne in
    let e = ap (λ g. head g c.args.arc) (sym c.as_slice.ensures) ∙ sym c.target_of.ensures ∙ c.in_ok-ok_or.ensures.ok_part in
    asks b (flow_of c.args.arc) _ ne
    (cond-true _ _ _ (ap is_some e) ∙ ap (λ x. told (Amount x)) (cell_is b l c.args.arc (arc_within (graph_of b) c.args.arc c.in_ok-ok_or.field-0 e)))
