use Rattle.compile.specs.Drafts.{GrewBoth}
use Rattle.compile.specs.Build.{items_of}
use Rattle.compile.proofs.Begun.{Begun}
use Rattle.compile.proofs.draft.Draft.fill.Given as goal

abbrev pub invariant-loop-i : goal.invariant-loop-i
invariant-loop-i g l =
    let k = g.K.Kind in
    GrewBoth l.fn.self l.self × Begun k.amount (k.meaning l.kind) (items_of (k.meaning l.kind) l.items) l.i l.low l.self
