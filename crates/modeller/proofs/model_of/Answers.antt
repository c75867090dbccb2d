use Rattle.std.proofs.Common.{List, vec_items, sym, ap, ◌∙◌}
use Rattle.std.proofs.lemmas.Result.{IfOk-weaker}
use Rattle.packing.specs.declared.Item.{Item}
use Rattle.packing.specs.Given.{orders_of}
use Rattle.modeller.specs.Printed.{limits_meaning, modelled, printed}
use Rattle.modeller.proofs.Memory.{orders_read}
use Rattle.modeller.proofs.model_of.Goals as goal

pub returns-in-Ok : goal.returns-in-Ok
returns-in-Ok c =
    let i = c.read_instance.new.into in
    IfOk-weaker c.model_within.result _ _
    (λ v e. e ∙ ap (λ (is : List Item). modelled (limits_meaning i.limits) (orders_of is)) c.deref.ensures.value
    ∙ ap (modelled (limits_meaning i.limits)) (sym (orders_read (vec_items i.items))) ∙ sym (ap printed c.in-Ok.ensures.answer))
    c.model_within.ensures
