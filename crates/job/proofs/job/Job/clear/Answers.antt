use Rattle.std.proofs.Common.{◌*◌, ◌++◌, drop, replicate, refl, ap, ◌∙◌, arith}
use Rattle.flow.specs.Job.{Call.Clear, Reply.Plain}
use Rattle.job.specs.declared.state.State.TheVariants.{Open}
use Rattle.job.proofs.Facts.{kept, open_unsettled}
use Rattle.job.proofs.Follow.{stays, follows, holds_none, cleared}
use Rattle.job.proofs.job.Job.clear.Goals as goal

pub overflow_mul-len : goal.overflow_mul-len
overflow_mul-len c =
    let l = (kept c.args.self.now).loaded (c.in_ok-expect_loaded.ensures.ok.0 refl) in
    record { fits = omega (arith, l.nodes, c.len.ensures) }

pub wipe-requires : goal.wipe-requires
wipe-requires c = omega (arith, ((kept c.args.self.now).loaded (c.in_ok-expect_loaded.ensures.ok.0 refl)).room, c.len.ensures)

pub invariant_of-self : goal.invariant_of-self
invariant_of-self c =
    let b = c.args.self.now in
    record {
      sound = stays b _ (holds_none b) _ (c.wipe.ensures ∙ ap (λ n. replicate (2 * n) 0 ++ drop (2 * n) b.cells.now) c.len.ensures)
          Open b.items.items ((kept b).loaded (c.in_ok-expect_loaded.ensures.ok.0 refl)) (λ a. absurd (open_unsettled Open refl a)) refl;
    }

pub returns : goal.returns
returns c =
    let b = c.args.self.now in
    follows b _ b.items Open _ _ (holds_none b) (c.wipe.ensures ∙ ap (λ n. replicate (2 * n) 0 ++ drop (2 * n) b.cells.now) c.len.ensures)
    Clear Plain refl refl (cleared b (c.in_ok-expect_loaded.ensures.ok.0 refl))
