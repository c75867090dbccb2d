use Rattle.std.proofs.Common.{◌*◌, ◌++◌, false, length, take, drop, Err, refl, sym, ap, ◌∙◌}
use Rattle.std.proofs.lemmas.Result.{err_from_is_err_and}
use Rattle.graph.specs.Graph.{walk}
use Rattle.flow.specs.Flow.{push}
use Rattle.flow.specs.Walks.{verdict, arcs_along}
use Rattle.job.proofs.Facts.{loaded_open}
use Rattle.flow.specs.Job.{Call.Place}
use Rattle.job.proofs.Follow.{refuses}
use Rattle.job.proofs.Places.{placeable, place_unfit, place_judged, placed_stays, place_done}
use Rattle.job.proofs.job.Job.place.Goals as goal

pub flow-requires : goal.flow-requires
flow-requires c = let b = c.args.self.now in loaded_open b (c.in_ok-expect.ensures.ok.0 refl)

pub check_route-requires : goal.check_route-requires
check_route-requires c =
    let b = c.args.self.now in
    placeable b _ c.args.counts.now c.args.times (loaded_open b (c.in_ok-expect.ensures.ok.0 refl)) c.flow.ensures.rows (c.if-counts-len.false ∙ c.len.ensures.value) c.if-times-gt-LIMIT.false

pub add_route-requires-clause-placeable : goal.add_route-requires-clause-placeable
add_route-requires-clause-placeable c =
    let b = c.args.self.now in
    placeable b _ c.args.counts.now c.args.times (loaded_open b (c.in_ok-expect.ensures.ok.0 refl)) c.as_slice-rows.ensures (c.if-counts-len.false ∙ c.len.ensures.value) c.if-times-gt-LIMIT.false

pub returns-then-counts-len : goal.returns-then-counts-len
returns-then-counts-len c =
    let b = c.args.self.now in
    refuses b _ (Place c.args.counts.now c.args.times) _
    (place_unfit b c.args.counts.now c.args.times (c.in_ok-expect.ensures.ok.0 refl) c.if-times-eq0.false c.if-times-gt-LIMIT.false (λ e. c.if-counts-len.true (e ∙ sym c.len.ensures.value)))

pub returns-in_err-check_route : goal.returns-in_err-check_route
returns-in_err-check_route c =
    let b = c.args.self.now in
    let counts = c.args.counts.now in
    let times = c.args.times in
    let p = err_from_is_err_and c.from_residual-in_err-check_route.result c.from_residual-in_err-check_route.ensures.1 in
    rw (p.1 ∙ ap (λ e. Err e) p.2)
    (refuses b _ (Place counts times) c.in_err-check_route.field-0.0
    (place_judged b counts times (c.in_ok-expect.ensures.ok.0 refl) c.if-times-eq0.false c.if-times-gt-LIMIT.false (c.if-counts-len.false ∙ c.len.ensures.value) c.in_err-check_route.field-0.0
    (c.in_err-check_route.ensures ∙ (λ i. verdict (c.flow.ensures.arcs i) times false (walk (c.flow.ensures.rows i) counts 0)))))

pub invariant_of-self-2 : goal.invariant_of-self-2
invariant_of-self-2 c =
    let b = c.args.self.now in
    let counts = c.args.counts.now in
    let times = c.args.times in
    let cells = b.cells.now in
    record {
      sound = placed_stays b counts times (c.in_ok-expect.ensures.ok.0 refl) c.if-times-eq0.false c.if-times-gt-LIMIT.false (c.if-counts-len.false ∙ c.len.ensures.value)
          (c.in_ok-check_route.ensures ∙ (λ i. verdict (c.flow.ensures.arcs i) times false (walk (c.flow.ensures.rows i) counts 0))) _
          (ap (λ f. f ++ drop (2 * length c.as_slice-rows.result.now) cells) c.add_route.ensures
          ∙ ap (λ g. push (take (2 * length g) cells) (arcs_along (walk g counts 0)) times ++ drop (2 * length g) cells) c.as_slice-rows.ensures);
    }

pub returns : goal.returns
returns c =
    let b = c.args.self.now in
    let counts = c.args.counts.now in
    let times = c.args.times in
    let cells = b.cells.now in
    place_done b counts times (c.in_ok-expect.ensures.ok.0 refl) c.if-times-eq0.false c.if-times-gt-LIMIT.false (c.if-counts-len.false ∙ c.len.ensures.value)
    (c.in_ok-check_route.ensures ∙ (λ i. verdict (c.flow.ensures.arcs i) times false (walk (c.flow.ensures.rows i) counts 0))) _ _
    (ap (λ f. f ++ drop (2 * length c.as_slice-rows.result.now) cells) c.add_route.ensures
    ∙ ap (λ g. push (take (2 * length g) cells) (arcs_along (walk g counts 0)) times ++ drop (2 * length g) cells) c.as_slice-rows.ensures)
    refl
