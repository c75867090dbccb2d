use Rattle.std.proofs.Common.{◌≡◌, ◌+◌, ◌-◌, ◌≤◌, vec_items, vec_len, vec_capacity}
use Rattle.texts.specs.Entries.{entries_in}
use Rattle.texts.specs.Grammar.{field_count_of, items_at}
use Rattle.texts.specs.Readers.{lines_left, LinesMoved}
use Rattle.texts.proofs.instance.reading.read_items.Given as goal

abbrev pub invariant-loop : goal.invariant-loop
invariant-loop l = record {
  room : vec_len l.items + (l.n - l.counter) ≤ vec_capacity l.items;
  moved : LinesMoved l.counter l.initial.lines l.lines;
  read : items_at (field_count_of l.base) (l.lines.number + 1) (l.n - l.counter) (lines_left l.lines) (entries_in (vec_items l.items)) ≡ items_at (field_count_of l.base) (l.initial.lines.number + 1) l.n (lines_left l.initial.lines) (entries_in (vec_items l.initial.items));
}
