use Rattle.std.proofs.Common.{◌≡◌, ◌+◌, suc, length, sym, refl, ap, ◌∙◌, arith}
use Rattle.std.proofs.lemmas.Bool.{le-ltb, lt-ltb}
use Rattle.flow.specs.Job.{lowest}
use Rattle.flow.specs.Scans.{demands_of, holding}
use Rattle.flow.proofs.Accept.{short}
use Rattle.flow.proofs.Loops.{lowest_next, lowest_here, lowest_on}
use Rattle.flow.proofs.Scanning.{short_none, entry_demand, demands_long}
use Rattle.flow.proofs.flows.Flow.first_short.Goals as goal

pub loop-place-init : goal.loop-place-init
loop-place-init c =
    let j = holding c.args.self.now.rows.now c.args.self.now.arcs.now (demands_of c.args.items.now) in
    lowest_next (short j) 0 refl (short_none j)

pub loop-place-preserved : goal.loop-place-preserved
loop-place-preserved c =
    let j = holding c.args.self.now.rows.now c.args.self.now.arcs.now (demands_of c.args.items.now) in
    let n = c.loop-place.place + 1 in
    lowest_on (short j) n c.loop-place.invariant
    (le-ltb _ _ (omega (arith, entry_demand c.args.items.now c.loop-place.place (omega arith), c.copies_of.ensures, c.from.ensures, c.if-copies_of-from.false)))

pub returns-then-copies_of-from : goal.returns-then-copies_of-from
returns-then-copies_of-from c =
    let j = holding c.args.self.now.rows.now c.args.self.now.arcs.now (demands_of c.args.items.now) in
    let n = c.loop-place.place + 1 in
    sym (lowest_here (short j) n (suc (length (demands_of c.args.items.now))) (omega (arith, demands_long c.args.items.now)) c.loop-place.invariant
    (lt-ltb _ _ (omega (arith, entry_demand c.args.items.now c.loop-place.place (omega arith), c.copies_of.ensures, c.from.ensures, c.if-copies_of-from.true))))

pub returns : goal.returns
returns c =
    let j = holding c.args.self.now.rows.now c.args.self.now.arcs.now (demands_of c.args.items.now) in
    let end : c.loop-place.place + 1 ≡ suc (length (demands_of c.args.items.now)) = omega (arith, demands_long c.args.items.now) in
    sym (ap (lowest (short j)) (sym end) ∙ c.loop-place.invariant)
