use Rattle.std.proofs.Common.{arith}
use mir.Facts.{Fits-below}
use Rattle.compile.proofs.Lookup.{reached_found, reached_new, found_below}
use Rattle.compile.proofs.draft.Draft.node.Goals as goal
use Rattle.compile.proofs.draft.Draft.node.Goals.{in-Some, in-None+in_ok-n-in-None}

pub overflow_cast-result : goal.overflow_cast-result
overflow_cast-result g c =
    Fits-below {n = 65535} tt (elim c.match-find.branch [
      | in-Some w ↦ omega (arith, w.n-is, found_below g.K.Kind.amount c.args.self.now c.args.from w.in-Some.n c.args.load c.args.row w.in-Some.ensures)
      | in-None+in_ok-n-in-None w ↦ omega (arith, w.n-is, w.in_ok-n-in-None.ensures.cases.place, c.args.self.now.few)
    ])

pub returns-clause-reached : goal.returns-clause-reached
returns-clause-reached g c =
    let f = g.K.Kind.amount in
    elim c.match-find.branch [
      | in-Some w ↦ reached_found f c.args.self.now c.args.from w.in-Some.n c.args.load c.args.row c.match-find.self c.match-find.n w.self-is w.n-is w.in-Some.ensures
      | in-None+in_ok-n-in-None w ↦ reached_new f c.args.self.now c.args.from w.in_ok-n-in-None.n c.args.load c.args.row c.match-find.self w.add.new.self c.match-find.n
          w.self-is w.n-is c.requires w.in-None.ensures w.in_ok-n-in-None.ensures.cases
    ]
