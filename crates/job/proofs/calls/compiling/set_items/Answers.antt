use Rattle.std.proofs.Common.{◌≡◌, [], ◌∷◌, ◌++◌, refl, sym, ap, ◌∙◌, ap₂, arith}
use Rattle.std.proofs.lemmas.List.{take_more, map_push}
use Rattle.std.proofs.lemmas.List.Elements.{All-push}
use Rattle.packing.specs.Given.{orders_of}
use Rattle.packing.specs.Problem.{demands}
use Rattle.flow.specs.declared.ItemRecord.{ItemRecord}
use Rattle.flow.specs.Scans.{demands_of}
use Rattle.job.proofs.Compiling.{demand_at, number_of_demands}
use Rattle.job.proofs.calls.compiling.set_items.Goals as goal

pub loop-item-preserved : goal.loop-item-preserved
loop-item-preserved c =
    let its = c.args.items.now in
    let n = c.loop-item.item-index in
    let fresh = All-push (λ (r : ItemRecord). r.left ≡ 0) c.loop-item.records.items _ c.loop-item.invariant.1 refl in (
      ap demands_of c.push.ensures.items ∙ map_push (λ (i : ItemRecord). i.demand) c.loop-item.records.items _
          ∙ ap₂ (λ xs x. xs ++ x ∷ []) c.loop-item.invariant.0 (demand_at its n _ (omega arith))
          ∙ sym (take_more (demands (orders_of its)) n 0 (omega (arith, number_of_demands its))),
      rw c.push.ensures.items fresh,
    )
