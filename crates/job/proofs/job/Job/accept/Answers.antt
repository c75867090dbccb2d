use Rattle.std.proofs.Common.{length, take, refl, sym, ap, ◌∙◌, subst, arith}
use Rattle.flow.specs.Job.{Call.Accept}
use Rattle.arrayvec.specs.ArrayVec.{with_items}
use Rattle.flow.specs.Flow.{carrying}
use Rattle.flow.specs.Scans.{Upward}
use Rattle.flow.proofs.Inflow.{upward}
use Rattle.job.specs.View.{arcs_of, content}
use Rattle.job.proofs.Facts.{loaded_open, shape}
use Rattle.job.proofs.Follow.{refuses, when_open}
use Rattle.job.proofs.Accepts.{uneven, tallied, accept_uneven, accept_large, accept_short, accepted_stays, accepted}
use Rattle.job.proofs.job.Job.accept.Goals as goal

pub flow-requires : goal.flow-requires
flow-requires c = let b = c.args.self.now in loaded_open b (c.in_ok-expect.ensures.ok.0 refl)

pub first_unbalanced-requires-clause-upward : goal.first_unbalanced-requires-clause-upward
first_unbalanced-requires-clause-upward c =
    let b = c.args.self.now in
    let l = loaded_open b (c.in_ok-expect.ensures.ok.0 refl) in
    subst Upward (sym c.flow.ensures.rows) (upward (shape b l))

pub first_unbalanced-requires-clause-two : goal.first_unbalanced-requires-clause-two
first_unbalanced-requires-clause-two c =
    let b = c.args.self.now in
    let l = loaded_open b (c.in_ok-expect.ensures.ok.0 refl) in
    omega (arith, (shape b l).two, ap length c.flow.ensures.rows)

pub returns-in-Some : goal.returns-in-Some
returns-in-Some c =
    let b = c.args.self.now in
    refuses b _ Accept _
    (when_open b Accept _ _ (c.in_ok-expect.ensures.ok.0 refl)
    (accept_uneven (content b) c.in-Some.node (sym (uneven b _ _ c.flow.ensures.rows c.flow.ensures.arcs) ∙ sym c.first_unbalanced.ensures ∙ c.in-Some.is)))

pub value-value-requires : goal.value-value-requires
value-value-requires c = let b = c.args.self.now in loaded_open b (c.in_ok-expect.ensures.ok.0 refl)

pub first_short-requires : goal.first_short-requires
first_short-requires c = let b = c.args.self.now in loaded_open b (c.in_ok-expect.ensures.ok.0 refl)

pub flow-requires-2 : goal.flow-requires-2
flow-requires-2 c = let b = c.args.self.now in loaded_open b (c.in_ok-expect.ensures.ok.0 refl)

pub returns-then-value-gt-LIMIT : goal.returns-then-value-gt-LIMIT
returns-then-value-gt-LIMIT c =
    let b = c.args.self.now in
    refuses b _ Accept _
    (when_open b Accept _ _ (c.in_ok-expect.ensures.ok.0 refl)
    (accept_large (content b) (sym (uneven b _ _ c.flow.ensures.rows c.flow.ensures.arcs) ∙ sym c.first_unbalanced.ensures ∙ c.in_default.is) (omega (arith, c.value-value.ensures, c.if-value-gt-LIMIT.true))))

pub returns-in-Some-first_short : goal.returns-in-Some-first_short
returns-in-Some-first_short c =
    let b = c.args.self.now in
    refuses b _ Accept _
    (when_open b Accept _ _ (c.in_ok-expect.ensures.ok.0 refl)
    (accept_short (content b) (sym (uneven b _ _ c.flow.ensures.rows c.flow.ensures.arcs) ∙ sym c.first_unbalanced.ensures ∙ c.in_default.is) (omega (arith, c.value-value.ensures)) _ (sym c.first_short.ensures ∙ c.in-Some-first_short.is)))

pub invariant_of-self : goal.invariant_of-self
invariant_of-self c =
    let b = c.args.self.now in
    record {
      sound = accepted_stays b (with_items b.items c.tally.new.items) (c.in_ok-expect.ensures.ok.0 refl)
          (tallied b _ _ _ _ c.flow_in.ensures.rows (c.flow_in.ensures.arcs ∙ ap (λ r. take (arcs_of b) r.now) c.take-cells.ensures.value) c.as_mut_slice.ensures.value c.tally.ensures)
          (sym (uneven b _ _ c.flow.ensures.rows c.flow.ensures.arcs) ∙ sym c.first_unbalanced.ensures ∙ c.in_default.is) _ c.take-cells.ensures.value;
    }

pub returns : goal.returns
returns c =
    let b = c.args.self.now in
    accepted b (with_items b.items c.tally.new.items) (c.in_ok-expect.ensures.ok.0 refl)
    (tallied b _ _ _ _ c.flow_in.ensures.rows (c.flow_in.ensures.arcs ∙ ap (λ r. take (arcs_of b) r.now) c.take-cells.ensures.value) c.as_mut_slice.ensures.value c.tally.ensures)
    (sym (uneven b _ _ c.flow.ensures.rows c.flow.ensures.arcs) ∙ sym c.first_unbalanced.ensures ∙ c.in_default.is) _ c.take-cells.ensures.value
    _ c.value-value.result c.count_carrying-arcs.result c.value-value.ensures c.if-value-gt-LIMIT.false
    (sym c.first_short.ensures ∙ c.in_default-first_short.is) (c.count_carrying-arcs.ensures ∙ ap carrying c.flow-2.ensures.arcs)
