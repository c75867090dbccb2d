use Rattle.std.proofs.Common.{◌≡◌, ◌++◌, length, drop, vec_items}
use Rattle.round_trip.specs.Lines.{parts}
use Rattle.round_trip.proofs.bin_line.Given as goal

abbrev pub invariant-loop-item : goal.invariant-loop-item
invariant-loop-item l =
    vec_items l.line ++ parts (drop (length l.yielded) l.items) (drop (length l.yielded) l.counts) ≡ vec_items l.initial.line ++ parts l.items l.counts
