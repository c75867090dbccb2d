use Rattle.std.proofs.Common.{◌≡◌, ltb, ◌∙◌, arith}
use Rattle.std.proofs.lemmas.Grind.{common_steps}
use Rattle.flow.proofs.Loops.{lowest_position}
use Rattle.flow.proofs.scans.first_carrying.Goals as goal

pub returns : goal.returns
returns c = let h : c.map.result ≡ c.first_loaded.result = grind (arith, common_steps) in h ∙ c.first_loaded.ensures ∙ lowest_position (λ x. ltb 0 x) c.args.arcs.now
