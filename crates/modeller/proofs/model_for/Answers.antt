use Rattle.std.proofs.lemmas.Result.{IfOk-weaker}
use Rattle.std.proofs.Common.{ℕ, List, sym, ap, ◌∙◌}
use Rattle.std.proofs.lemmas.List.{with_items_is}
use Rattle.modeller.specs.Printed.{bytes_in}
use Rattle.packing.specs.Given.{orders_of}
use Rattle.modeller.proofs.Memory.{modelled_in}
use Rattle.modeller.proofs.model_for.Goals as goal

pub returns : goal.returns
returns g c =
    let k = g.K.Kind.meaning c.args.kind.now in
    let orders = orders_of c.args.items.now in
    let sizes =
    modelled_in k orders _ _ _ _ (c.deref_mut.ensures.len ∙ c.in_ok-rows.ensures.len)
    (c.deref_mut-2.ensures.len ∙ c.in_ok-cells.ensures.len) (c.deref_mut-3.ensures.len ∙ c.in_ok-loads.ensures.len)
    (c.deref_mut-4.ensures.len ∙ c.in_ok-out.ensures.len) in
    let out_is = with_items_is c.in_ok-out.out c.write_model-answer.new.out (c.write_model-answer.auto.out ∙ c.deref_mut-4.ensures.len) in
    IfOk-weaker c.bytes_of.result _ _ (λ v e. e ∙ ap (λ (l : List ℕ). bytes_in l c.write_model-answer.result) out_is ∙ sym c.write_model-answer.ensures ∙ sizes) c.bytes_of.ensures
