use Rattle.std.proofs.Common.{sym, ap, rules, tests, arith}
use Rattle.std.proofs.lemmas.Iterator.{YieldsList-from_slice}
use Rattle.std.proofs.lemmas.Iterator.Search.{position_from_yields_List}
use Rattle.compile.specs.Checks.{verdict}
use Rattle.compile.proofs.Orders.{wrong_number, wrong, first_wrong}
use Rattle.compile.proofs.checks.check_items.Goals as goal

pub returns-then-is_empty : goal.returns-then-is_empty
returns-then-is_empty g c =
    sym (ap verdict (wrong_number (g.K.Kind.meaning c.args.kind.now) c.args.items.now c.is_empty.result c.is_empty.ensures c.then-is_empty.either))

pub returns-in-Some : goal.returns-in-Some
returns-in-Some g c =
    let k = g.K.Kind.meaning c.args.kind.now in
    sym (ap verdict (first_wrong k c.args.items.now c.is_empty.result c.is_empty.ensures c.if-is_empty.false (omega arith) _
    (position_from_yields_List (wrong k) _ _ _ c.in-Some.ensures.ran (YieldsList-from_slice c.args.items.now c.iter.ensures.rest) (λ x b q k. search (rules, tests)))))

pub returns-in-None : goal.returns-in-None
returns-in-None g c =
    let k = g.K.Kind.meaning c.args.kind.now in
    sym (ap verdict (first_wrong k c.args.items.now c.is_empty.result c.is_empty.ensures c.if-is_empty.false (omega arith) _
    (position_from_yields_List (wrong k) _ _ _ c.in-None.ensures.ran (YieldsList-from_slice c.args.items.now c.iter.ensures.rest) (λ x b q k. search (rules, tests)))))
