use Rattle.std.proofs.Common.{◌≡◌, length, min, vec_items, ap, ◌∙◌, ◌++◌, arith, rules}
use Rattle.std.proofs.lemmas.List.{length_push}
use Rattle.std.proofs.lemmas.Slice.Zip.{zip_end, zip_turn}
use Rattle.round_trip.proofs.Parts.{more, ended}
use Rattle.round_trip.proofs.bin_line.Goals as goal

pub loop-item-preserved : goal.loop-item-preserved
loop-item-preserved c =
    let s = c.loop-item in
    let turn = zip_turn c.args.items.now c.args.counts.now s.yielded c.into_iter-item-iterator.result s.item-iterator c.next.new.self c.next.result (search rules) (search rules) s.yielded_by
    (c.in-Some.item, c.in-Some.count) c.in-Some.is c.next.ensures.steps in
    more c.args.items.now c.args.counts.now (length s.yielded) _ c.in-Some.item.now c.in-Some.count.now (vec_items s.line) _ _ turn.0 turn.1 turn.2 turn.3 (length_push s.yielded _)
    (c.in_ok-extend_from_slice.ensures.items ∙ ap (λ xs. vec_items s.line ++ xs) (c.deref.ensures.value ∙ c.in_ok-part.ensures)) s.invariant

pub returns : goal.returns
returns c =
    let s = c.loop-item in
    let all : length s.yielded ≡ min (length c.args.items.now) (length c.args.counts.now) =
    zip_end c.args.items.now c.args.counts.now s.yielded c.into_iter-item-iterator.result s.item-iterator c.next.new.self c.next.result (search rules) (search rules) s.yielded_by
    c.in-None.is c.next.ensures.steps in
    c.in_ok-push.ensures.items
    ∙ ended c.args.items.now c.args.counts.now (length s.yielded) c.args.times (vec_items c.into_bytes-line.result) (vec_items s.line) (omega arith) (search rules) s.invariant
