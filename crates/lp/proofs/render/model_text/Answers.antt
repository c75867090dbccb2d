use Rattle.std.proofs.Common.{◌*◌, length, arith, sym, rules}
use Rattle.std.proofs.lemmas.List.{length-take-le}
use Rattle.lp.proofs.render.model_text.Goals as goal

pub slice_bounds-next-end-2 : goal.slice_bounds-next-end-2
slice_bounds-next-end-2 c = sym (length-take-le (2 * length c.args.rows.now) _ (omega arith))

pub new-requires-clause-arcs : goal.new-requires-clause-arcs
new-requires-clause-arcs c = length-take-le (2 * length c.args.rows.now) _ (search rules)
