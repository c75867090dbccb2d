use Rattle.std.proofs.Common.{◌≡◌, ◌-◌, ◌*◌, ◌<◌, ◌≤◌, ◌++◌, length, get_or, take, drop, refl, sym, ap, ◌∙◌, subst, arith}
use Rattle.std.proofs.lemmas.List.{length-take-le, take_at}
use Rattle.flow.specs.Flow.{value, pull, trail}
use Rattle.flow.specs.Scans.{no_item}
use Rattle.flow.specs.Walks.{Ready}
use Rattle.job.specs.View.{flow_of, count_of}
use Rattle.job.proofs.Facts.{loaded_accepted}
use Rattle.job.proofs.Peels.{no_room, peeled_stays, times_at, counts_at, flowing_at, spelled_long, ready, enough, peel_done}
use Rattle.flow.specs.Job.{Call.Peel}
use Rattle.job.proofs.Follow.{refuses}
use Rattle.job.proofs.Records.{retold}
use Rattle.job.proofs.job.Job.peel.Goals as goal

pub value-requires : goal.value-requires
value-requires c = let b = c.args.self.now in loaded_accepted b (c.in_ok-expect.ensures.ok.0 refl)

pub flow-requires : goal.flow-requires
flow-requires c = let b = c.args.self.now in loaded_accepted b (c.in_ok-expect.ensures.ok.0 refl)

pub spell_next-times-requires : goal.spell_next-times-requires
spell_next-times-requires c =
    let b = c.args.self.now in
    let some : 0 < value (flow_of b) = omega (arith, c.value.ensures, c.if-value-eq0.false) in
    flowing_at b (c.in_ok-expect.ensures.ok.0 refl) some _ _ _ (length-take-le c.len-count.result c.args.counts.now c.if-counts-count.false ∙ c.len-count.ensures.value) c.flow.ensures.rows c.flow.ensures.arcs

pub take_off-requires-clause-ready : goal.take_off-requires-clause-ready
take_off-requires-clause-ready c =
    let b = c.args.self.now in
    let some : 0 < value (flow_of b) = omega (arith, c.value.ensures, c.if-value-eq0.false) in
    let t = c.spell_next-times.result in
    let times = times_at b (c.in_ok-expect.ensures.ok.0 refl) some _ _ t c.flow.ensures.rows c.flow.ensures.arcs c.spell_next-times.ensures.times in
    subst (λ g. Ready g (take (2 * length g) b.cells.now) t) (sym c.as_slice-rows.ensures) (ready b (c.in_ok-expect.ensures.ok.0 refl) some t times)

pub book-requires-clause-enough : goal.book-requires-clause-enough
book-requires-clause-enough c =
    let b = c.args.self.now in
    let some : 0 < value (flow_of b) = omega (arith, c.value.ensures, c.if-value-eq0.false) in
    let t = c.spell_next-times.result in
    let counts = c.spell_next-times.new.counts ++ drop c.len-count.result c.args.counts.now in
    let times = times_at b (c.in_ok-expect.ensures.ok.0 refl) some _ _ t c.flow.ensures.rows c.flow.ensures.arcs c.spell_next-times.ensures.times in
    let told = counts_at b (c.in_ok-expect.ensures.ok.0 refl) some _ _ _ c.flow.ensures.rows c.flow.ensures.arcs c.spell_next-times.ensures.counts in
    λ i lt. subst (λ xs. t * get_or counts i 0 ≤ (get_or xs i no_item).left) (sym c.as_mut_slice.ensures.value)
    (enough b (c.in_ok-expect.ensures.ok.0 refl) some t times counts _ _ told refl i (let l : i < count_of b = omega (arith, ap length c.as_mut_slice.ensures.value) in l))

pub invariant_of-self-2 : goal.invariant_of-self-2
invariant_of-self-2 c =
    let b = c.args.self.now in
    let accepted = c.in_ok-expect.ensures.ok.0 refl in
    let some : 0 < value (flow_of b) = omega (arith, c.value.ensures, c.if-value-eq0.false) in
    let t = c.spell_next-times.result in
    let told = c.spell_next-times.new.counts in
    let past = drop c.len-count.result c.args.counts.now in
    let times = times_at b accepted some _ _ t c.flow.ensures.rows c.flow.ensures.arcs c.spell_next-times.ensures.times in
    let is = counts_at b accepted some _ _ _ c.flow.ensures.rows c.flow.ensures.arcs c.spell_next-times.ensures.counts in
    let cells = b.cells.now in
    record {
      sound = peeled_stays b accepted some t times (told ++ past) told past is refl _
          (retold b.items (λ xs i. (get_or xs i no_item).left - t * get_or (told ++ past) i 0) _ _ c.as_mut_slice.ensures.value c.book.ensures) _
          (ap (λ f. f ++ drop (2 * length c.as_slice-rows.result.now) cells) c.take_off.ensures
          ∙ ap (λ g. pull (take (2 * length g) cells) (trail (length g) g (take (2 * length g) cells) 0) t ++ drop (2 * length g) cells) c.as_slice-rows.ensures);
    }

pub returns-then-counts-count-clause-step : goal.returns-then-counts-count-clause-step
returns-then-counts-count-clause-step c =
    let b = c.args.self.now in
    let some : 0 < value (flow_of b) = omega (arith, c.value.ensures, c.if-value-eq0.false) in
    refuses b _ (Peel (length c.args.counts.now)) _ (no_room b (c.in_ok-expect.ensures.ok.0 refl) some (length c.args.counts.now) (omega (arith, c.len-count.ensures.value, c.if-counts-count.true)))

pub returns-clause-step : goal.returns-clause-step
returns-clause-step c =
    let b = c.args.self.now in
    let accepted = c.in_ok-expect.ensures.ok.0 refl in
    let some : 0 < value (flow_of b) = omega (arith, c.value.ensures, c.if-value-eq0.false) in
    let t = c.spell_next-times.result in
    let told = c.spell_next-times.new.counts in
    let past = drop c.len-count.result c.args.counts.now in
    let times = times_at b accepted some _ _ t c.flow.ensures.rows c.flow.ensures.arcs c.spell_next-times.ensures.times in
    let is = counts_at b accepted some _ _ _ c.flow.ensures.rows c.flow.ensures.arcs c.spell_next-times.ensures.counts in
    let cells = b.cells.now in
    let long : length told ≡ count_of b = ap length is ∙ spelled_long b accepted some in
    rw (take_at told past (count_of b) long)
    (peel_done b accepted some t times (told ++ past) told past is refl _
    (retold b.items (λ xs i. (get_or xs i no_item).left - t * get_or (told ++ past) i 0) _ _ c.as_mut_slice.ensures.value c.book.ensures) _ _
    (ap (λ f. f ++ drop (2 * length c.as_slice-rows.result.now) cells) c.take_off.ensures
    ∙ ap (λ g. pull (take (2 * length g) cells) (trail (length g) g (take (2 * length g) cells) 0) t ++ drop (2 * length g) cells) c.as_slice-rows.ensures)
    refl (length c.args.counts.now) (omega (arith, c.len-count.ensures.value, c.if-counts-count.false)))
