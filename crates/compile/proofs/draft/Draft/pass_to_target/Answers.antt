use Rattle.std.proofs.Common.{◌∙◌, arith}
use Rattle.lists.specs.Entries.{entries}
use Rattle.compile.specs.Steps.{passing}
use Rattle.compile.proofs.Growth.{grew_both_trans}
use Rattle.compile.proofs.Target.{reached_more}
use Rattle.compile.proofs.draft.Draft.pass_to_target.Goals as goal

pub loop-n-preserved : goal.loop-n-preserved
loop-n-preserved g c =
    let wrote = c.lead.ensures in
    let so_far = c.loop-n.invariant in (
      grew_both_trans _ _ _ so_far.0 wrote.kept,
      wrote.loads ∙ so_far.1,
      wrote.rows ∙ reached_more (passing c.len-high.result) (entries c.args.self.now.rows) c.args.low (entries c.loop-n.self.rows) c.loop-n.n c.loop-n.auto.n (omega arith) so_far.2,
    )
