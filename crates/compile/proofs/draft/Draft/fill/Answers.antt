use Rattle.std.proofs.Common.{arith}
use Rattle.compile.proofs.Growth.{grew_both_trans}
use Rattle.compile.proofs.Orders.{inner_is, last_is, has_weight}
use Rattle.compile.proofs.Progress.{short_source, here_inner, turn_more, turn_short, turn_last}
use Rattle.compile.proofs.draft.Draft.fill.Goals as goal

pub returns-in_err-add-clause-built : goal.returns-in_err-add-clause-built
returns-in_err-add-clause-built g c =
    let k = g.K.Kind in
    rw c.from_residual-in_err-add.ensures (short_source k.amount (k.meaning c.args.kind.now) c.args.items.now c.args.self.now c.requires.empty c.in_err-add.ensures.cases)

pub returns-in_err-item-clause-built : goal.returns-in_err-item-clause-built
returns-in_err-item-clause-built g c =
    let split = c.in_ok-last.ensures.cases in
    absurd (has_weight (g.K.Kind.meaning c.args.kind.now) c.args.items.now c.requires.sound c.loop-i.i _ _ (omega (arith, split.1))
    (inner_is c.args.items.now c.in_ok-last.inner.now c.in_ok-last.last.now _ c.loop-i.i split.0 (omega arith)) c.in_err-item.ensures)

pub loop-i-preserved : goal.loop-i-preserved
loop-i-preserved g c =
    let k = g.K.Kind in
    let split = c.in_ok-last.ensures.cases in
    let made = c.in_ok-low.ensures in
    let here =
    here_inner k.amount (k.meaning c.args.kind.now) c.args.items.now c.args.self.now c.loop-i.self c.loop-i.i c.loop-i.low c.in_ok-item.item _ c.in_ok-last.last.now
    c.in_ok-last.inner.now c.requires.sound split.0 (omega arith) c.loop-i.invariant.0 c.loop-i.invariant.1 c.in_ok-item.ensures in
    turn_more k.amount (k.meaning c.args.kind.now) c.args.items.now c.args.self.now c.loop-i.self c.loop-i.i c.loop-i.low c.in_ok-item.item _ _ here (omega (arith, split.1)) c.inner_item.new.self c.in_ok-low.low made.kept made.cases

pub returns-in_err-low : goal.returns-in_err-low
returns-in_err-low g c =
    let k = g.K.Kind in
    let split = c.in_ok-last.ensures.cases in
    let full = c.in_err-low.ensures in
    let here =
    here_inner k.amount (k.meaning c.args.kind.now) c.args.items.now c.args.self.now c.loop-i.self c.loop-i.i c.loop-i.low c.in_ok-item.item _ c.in_ok-last.last.now
    c.in_ok-last.inner.now c.requires.sound split.0 (omega arith) c.loop-i.invariant.0 c.loop-i.invariant.1 c.in_ok-item.ensures in
    record {
      kept = grew_both_trans _ _ _ c.loop-i.invariant.0 full.kept;
      built = rw c.from_residual-in_err-low.ensures
          (turn_short k.amount (k.meaning c.args.kind.now) c.args.items.now c.args.self.now c.loop-i.self c.loop-i.i c.loop-i.low c.in_ok-item.item _ _ here (omega (arith, split.1)) full.cases);
    }

pub returns-in_err-last-2-clause-built : goal.returns-in_err-last-2-clause-built
returns-in_err-last-2-clause-built g c =
    let split = c.in_ok-last.ensures.cases in
    absurd (has_weight (g.K.Kind.meaning c.args.kind.now) c.args.items.now c.requires.sound c.loop-i.i c.in_ok-last.last.now _ (omega (arith, split.1))
    (last_is c.args.items.now c.in_ok-last.inner.now c.in_ok-last.last.now c.in_ok-last.last.now c.loop-i.i split.0 (omega arith)) c.in_err-last-2.ensures)

pub returns : goal.returns
returns g c =
    let k = g.K.Kind in
    let split = c.in_ok-last.ensures.cases in
    let weighs = c.in_ok-last-2.ensures in
    let made = c.last_item.ensures in
    record {
      kept = grew_both_trans _ _ _ c.loop-i.invariant.0 made.kept;
      built = turn_last k.amount (k.meaning c.args.kind.now) c.args.items.now c.args.self.now c.loop-i.self c.loop-i.i c.loop-i.low c.in_ok-last-2.last
          c.in_ok-last.last.now c.in_ok-last.last.now (record {
            sound = c.requires.sound;
            inside = omega (arith, split.1);
            read = last_is c.args.items.now c.in_ok-last.inner.now c.in_ok-last.last.now c.in_ok-last.last.now c.loop-i.i split.0 (omega arith);
            grew = c.loop-i.invariant.0;
            begun = c.loop-i.invariant.1;
            weighs = record { weight = weighs.weight; most = weighs.most; number = omega (arith, weighs.number, split.1) };
          }) (omega (arith, split.1)) c.last_item.new.self c.last_item.result made.cases;
    }
