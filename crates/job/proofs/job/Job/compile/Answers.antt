use Rattle.std.proofs.Common.{refl}
use Rattle.packing.specs.Given.{orders_of}
use Rattle.packing.specs.Problem.{flaw}
use Rattle.compile.proofs.Orders.{passed}
use Rattle.graph.proofs.Laws.{spells_patterns}
use Rattle.graph.proofs.Numbering.{compiled_stepped}
use Rattle.graph.proofs.OneNumbering.{numbering_fixed}
use Rattle.job.proofs.Compiling.{compiled_stays, compiles}
use Rattle.job.proofs.job.Job.compile.Goals as goal

pub invariant_of-self-2 : goal.invariant_of-self-2
invariant_of-self-2 g c =
    let b = c.args.self.now in
    let k = g.K.Kind.meaning c.args.kind.now in
    let its = c.args.items.now in
    let xs = c.args.loads.now in
    let fine = passed (flaw k (orders_of its)) c.in_ok-check_items.ensures in
    let told = c.compile.ensures in
    record {
      sound = compiled_stays g.K.Kind.amount k its b xs fine c.size.result c.min-room.result c.size.ensures c.min-room.ensures c.compile.new.rows told.room told.memory
          c.compile.new.memory _ told.compiles c.in_ok-nodes.nodes c.in_ok-nodes.ensures.ok_part c.compile.auto.memory c.set_items.new.records c.set_items.ensures.demands _ c.wipe.ensures;
    }

pub returns-clause-compiled : goal.returns-clause-compiled
returns-clause-compiled g c =
    let b = c.args.self.now in
    let k = g.K.Kind.meaning c.args.kind.now in
    let its = c.args.items.now in
    let xs = c.args.loads.now in
    let fine = passed (flaw k (orders_of its)) c.in_ok-check_items.ensures in
    let told = c.compile.ensures in
    compiles g.K.Kind.amount k its b xs fine c.size.result c.min-room.result c.size.ensures c.min-room.ensures c.compile.new.rows told.room told.memory
    c.compile.new.memory _ told.compiles c.in_ok-nodes.nodes c.in_ok-nodes.ensures.ok_part c.compile.auto.memory c.set_items.new.records c.set_items.ensures.demands _ _ c.wipe.ensures refl

pub returns-in_err-check_items-clause-spells : goal.returns-in_err-check_items-clause-spells
returns-in_err-check_items-clause-spells g c = spells_patterns

pub returns-in_err-check_items-clause-numbered : goal.returns-in_err-check_items-clause-numbered
returns-in_err-check_items-clause-numbered g c = compiled_stepped

pub returns-in_err-check_items-clause-fixed : goal.returns-in_err-check_items-clause-fixed
returns-in_err-check_items-clause-fixed g c = numbering_fixed

pub returns-in_err-nodes-clause-spells : goal.returns-in_err-nodes-clause-spells
returns-in_err-nodes-clause-spells g c = spells_patterns

pub returns-in_err-nodes-clause-numbered : goal.returns-in_err-nodes-clause-numbered
returns-in_err-nodes-clause-numbered g c = compiled_stepped

pub returns-in_err-nodes-clause-fixed : goal.returns-in_err-nodes-clause-fixed
returns-in_err-nodes-clause-fixed g c = numbering_fixed

pub returns-clause-spells : goal.returns-clause-spells
returns-clause-spells g c = spells_patterns

pub returns-clause-numbered : goal.returns-clause-numbered
returns-clause-numbered g c = compiled_stepped

pub returns-clause-fixed : goal.returns-clause-fixed
returns-clause-fixed g c = numbering_fixed
