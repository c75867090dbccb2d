use Rattle.lists.specs.Entries.{entries}
use Rattle.compile.proofs.Lookup.{rest_is, found_at}
use Rattle.compile.proofs.draft.Draft.find.Goals as goal

pub returns-in_err-place : goal.returns-in_err-place
returns-in_err-place g c =
    let f = g.K.Kind.amount in
    rw c.from_residual.ensures
    (found_at f (f c.args.sought.now) c.args.from (entries c.args.self.now.loads) _ _ (rest_is c.args.from _ _ c.as_slice.ensures) c.in_err-place.ensures)

pub returns : goal.returns
returns g c =
    let f = g.K.Kind.amount in
    found_at f (f c.args.sought.now) c.args.from (entries c.args.self.now.loads) _ _ (rest_is c.args.from _ _ c.as_slice.ensures) c.in_ok-place.ensures
