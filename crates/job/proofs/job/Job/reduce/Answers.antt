use Rattle.std.proofs.Common.{refl, sym, ◌∙◌}
use Rattle.job.specs.View.{count_of}
use Rattle.graph.proofs.OneReduction.{joins_fix}
use Rattle.graph.proofs.Reduce.{reduces as reduces_law}
use Rattle.job.proofs.Facts.{loaded_open}
use Rattle.job.proofs.Reducing.{clear_cells, loaded_is, carries, reduced_stays, reduces}
use Rattle.job.proofs.job.Job.reduce.Goals as goal

pub flow-requires : goal.flow-requires
flow-requires c = let b = c.args.self.now in loaded_open b (c.in_ok-expect.ensures.ok.0 refl)

pub returns-in-Some-clause-reduced : goal.returns-in-Some-clause-reduced
returns-in-Some-clause-reduced c =
    let b = c.args.self.now in
    let opened = c.in_ok-expect.ensures.ok.0 refl in
    let l = loaded_open b opened in
    carries b _ opened (sym (loaded_is b l _ c.flow.ensures.arcs) ∙ sym c.first_carrying.ensures ∙ c.in-Some.is)

pub reduce-requires-clause-shaped : goal.reduce-requires-clause-shaped
reduce-requires-clause-shaped c = let b = c.args.self.now in (count_of b, (loaded_open b (c.in_ok-expect.ensures.ok.0 refl)).layers)

pub reduce-requires-clause-clear : goal.reduce-requires-clause-clear
reduce-requires-clause-clear c =
    let b = c.args.self.now in
    let l = loaded_open b (c.in_ok-expect.ensures.ok.0 refl) in
    clear_cells b (sym (loaded_is b l _ c.flow.ensures.arcs) ∙ sym c.first_carrying.ensures ∙ c.in_default.is)

pub invariant_of-self : goal.invariant_of-self
invariant_of-self c =
    let b = c.args.self.now in
    let opened = c.in_ok-expect.ensures.ok.0 refl in
    record { sound = reduced_stays b c.reduce.new.rows opened (sym (loaded_is b (loaded_open b opened) _ c.flow.ensures.arcs) ∙ sym c.first_carrying.ensures ∙ c.in_default.is) c.reduce.ensures.entries _ c.reduce.ensures.cells }

pub returns-clause-reduced : goal.returns-clause-reduced
returns-clause-reduced c =
    let b = c.args.self.now in
    let opened = c.in_ok-expect.ensures.ok.0 refl in
    let e = c.reduce.ensures in
    reduces b c.reduce.new.rows opened (sym (loaded_is b (loaded_open b opened) _ c.flow.ensures.arcs) ∙ sym c.first_carrying.ensures ∙ c.in_default.is)
    e.entries _ _ e.cells c.reduce.result e.nodes e.memory e.capacity refl

pub returns-in_err-expect-clause-keeps : goal.returns-in_err-expect-clause-keeps
returns-in_err-expect-clause-keeps c = reduces_law

pub returns-in_err-expect-clause-joined : goal.returns-in_err-expect-clause-joined
returns-in_err-expect-clause-joined c = joins_fix

pub returns-in-Some-clause-keeps : goal.returns-in-Some-clause-keeps
returns-in-Some-clause-keeps c = reduces_law

pub returns-in-Some-clause-joined : goal.returns-in-Some-clause-joined
returns-in-Some-clause-joined c = joins_fix

pub returns-clause-keeps : goal.returns-clause-keeps
returns-clause-keeps c = reduces_law

pub returns-clause-joined : goal.returns-clause-joined
returns-clause-joined c = joins_fix
