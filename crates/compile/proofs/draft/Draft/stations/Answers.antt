use Rattle.std.proofs.Common.{◌+◌, arith}
use Rattle.compile.proofs.Growth.{grew_both_trans}
use Rattle.compile.proofs.Rounds.{round_within, round_more, round_short, round_end}
use Rattle.compile.proofs.draft.Draft.stations.Goals as goal

pub arcs-requires : goal.arcs-requires
arcs-requires g c =
    let k = g.K.Kind in
    round_within k.amount (k.meaning c.args.kind.now) c.args.item.now c.args.low c.args.self.now c.requires c.loop-copies.self c.loop-copies.copies c.loop-copies.from
    c.loop-copies.invariant

pub loop-copies-preserved : goal.loop-copies-preserved
loop-copies-preserved g c =
    let k = g.K.Kind in
    let led = c.in_ok-from.ensures in
    round_more k.amount (k.meaning c.args.kind.now) c.args.item.now c.args.low c.args.self.now c.requires c.loop-copies.self c.loop-copies.copies c.loop-copies.from
    c.loop-copies.invariant (omega arith) (omega arith) c.arcs.new.self c.in_ok-from.from c.new.result c.new.ensures led.kept led.leads

pub returns-in_err-from : goal.returns-in_err-from
returns-in_err-from g c =
    let k = g.K.Kind in
    let full = c.in_err-from.ensures in
    record {
      kept = grew_both_trans _ _ _ c.loop-copies.invariant.kept full.kept;
      cases = rw c.from_residual.ensures
          (round_short k.amount (k.meaning c.args.kind.now) c.args.item.now c.args.low c.args.self.now c.requires c.loop-copies.self c.loop-copies.copies c.loop-copies.from
          c.loop-copies.invariant (omega arith) (omega arith) c.arcs.new.self c.new.result full.leads);
    }

pub returns-in_ok-from : goal.returns-in_ok-from
returns-in_ok-from g c =
    let k = g.K.Kind in
    let led = c.in_ok-from.ensures in
    let round =
    round_more k.amount (k.meaning c.args.kind.now) c.args.item.now c.args.low c.args.self.now c.requires c.loop-copies.self c.loop-copies.copies c.loop-copies.from
    c.loop-copies.invariant (omega arith) (omega arith) c.arcs.new.self c.in_ok-from.from c.new.result c.new.ensures led.kept led.leads in
    record {
      kept = round.kept;
      cases = round_end k.amount (k.meaning c.args.kind.now) c.args.item.now c.args.low c.args.self.now c.requires c.arcs.new.self (c.loop-copies.copies + 1) c.in_ok-from.from
          round (omega arith);
    }

pub returns : goal.returns
returns g c =
    let k = g.K.Kind in
    record {
      kept = c.loop-copies.invariant.kept;
      cases = round_end k.amount (k.meaning c.args.kind.now) c.args.item.now c.args.low c.args.self.now c.requires c.loop-copies.self c.loop-copies.copies c.loop-copies.from
          c.loop-copies.invariant (omega (arith, c.loop-copies.invariant.reach));
    }
