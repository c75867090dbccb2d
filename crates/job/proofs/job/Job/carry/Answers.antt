use Rattle.std.proofs.Common.{not, is_some, refl, sym, ap, ◌∙◌, arith}
use Rattle.std.proofs.lemmas.Bool.{cond-false, le-ltb}
use Rattle.graph.specs.Graph.{head}
use Rattle.flow.specs.Job.{limit, Call.Carry, Reply.Plain}
use Rattle.flow.proofs.Scanning.{arc_within}
use Rattle.job.specs.View.{graph_of}
use Rattle.job.proofs.Facts.{loaded_open, open_unsettled}
use Rattle.job.proofs.Follow.{stays, follows, holds_now, holds_set, wrote_set, when_open}
use Rattle.job.proofs.job.Job.carry.Goals as goal

pub bounds-self-arc : goal.bounds-self-arc
bounds-self-arc c =
    let b = c.args.self.now in
    let l = loaded_open b (c.in_ok-expect.ensures.ok.0 refl) in
    let e = ap (λ g. head g c.args.arc) (sym c.as_slice.ensures) ∙ sym c.target_of.ensures ∙ c.in_ok-ok_or.ensures.ok_part in
    omega (arith, l.room, arc_within (graph_of b) c.args.arc c.in_ok-ok_or.field-0 e)

pub invariant_of-self : goal.invariant_of-self
invariant_of-self c =
    let b = c.args.self.now in
    let opened = c.in_ok-expect.ensures.ok.0 refl in
    let l = loaded_open b opened in
    let h = holds_now b l in
    let e = ap (λ g. head g c.args.arc) (sym c.as_slice.ensures) ∙ sym c.target_of.ensures ∙ c.in_ok-ok_or.ensures.ok_part in
    record {
      sound = stays b _ (holds_set b h c.args.arc c.in_ok-ok_or.field-0 c.args.flow e c.if-flow-gt-LIMIT.false) _ (wrote_set b h c.args.arc c.in_ok-ok_or.field-0 c.args.flow e)
          b.state b.items.items l (λ a. absurd (open_unsettled b.state opened a)) refl;
    }

pub returns : goal.returns
returns c =
    let b = c.args.self.now in
    let opened = c.in_ok-expect.ensures.ok.0 refl in
    let l = loaded_open b opened in
    let h = holds_now b l in
    let e = ap (λ g. head g c.args.arc) (sym c.as_slice.ensures) ∙ sym c.target_of.ensures ∙ c.in_ok-ok_or.ensures.ok_part in
    follows b _ b.items b.state _ _ (holds_set b h c.args.arc c.in_ok-ok_or.field-0 c.args.flow e c.if-flow-gt-LIMIT.false) (wrote_set b h c.args.arc c.in_ok-ok_or.field-0 c.args.flow e)
    (Carry c.args.arc c.args.flow) Plain refl refl
    (when_open b (Carry c.args.arc c.args.flow) _ _ opened (cond-false _ _ _ (ap (λ o. not (is_some o)) e) ∙ cond-false _ _ _ (le-ltb limit c.args.flow c.if-flow-gt-LIMIT.false)))
