-- Room and memory take bytes in turn.
use Rattle.std.specs.Prelude.{◌≡◌, ℕ, ◌+◌, ◌≤◌, List, [], ◌++◌, length, take, drop, Some, None, Option}
use Rattle.std.proofs.Common.{sym, refl, ap, ◌∙◌, ap₂, append_assoc, add-zero, add_assoc, arith, length-append, length-drop, take-append-drop, length-take}
use Rattle.std.proofs.lemmas.List.{take_at, drop_at, length-take-le, drop-drop}
use Rattle.std.proofs.lemmas.Bool.Decides.{nat_tests}
use Rattle.lp.specs.declared.sink.Writer.{Writer}
use Rattle.lp.specs.Sinks.{Measured, TakesInTurn, Written, filled, room_after}

room_nothing : (left : Option ℕ) → left ≡ room_after left 0
room_nothing None = refl
room_nothing (Some left) = grind (arith, nat_tests)

room_joins : (left : Option ℕ) (a b : ℕ) → room_after (room_after left a) b ≡ room_after left (a + b)
room_joins None a b = refl
room_joins (Some left) a b = grind (arith, nat_tests)

pub measured_in_turn : TakesInTurn Measured
measured_in_turn = record {
  nothing = λ s. room_nothing s.left;
  joins = λ s t u xs ys h k. k ∙ ap (λ left. room_after left (length ys)) h ∙ room_joins s.left (length xs) (length ys) ∙ ap (room_after s.left) (sym (length-append xs ys));
}

filled_nothing : (cells : List ℕ) (at : ℕ) → filled cells at [] ≡ cells
filled_nothing cells at = rw add-zero (take-append-drop at cells)

length_filled : (cells : List ℕ) (at : ℕ) (xs : List ℕ) → at + length xs ≤ length cells → length (filled cells at xs) ≡ length cells
length_filled cells at xs h = simp (length-append, length-take, length-drop) (omega arith)

filled_joins : (cells : List ℕ) (at : ℕ) (xs ys : List ℕ) → at + length xs + length ys ≤ length cells →
    filled (filled cells at xs) (at + length xs) ys ≡ filled cells at (xs ++ ys)
filled_joins cells at xs ys h =
    ap₂ (λ a b. a ++ (ys ++ b)) front back
    ∙ append_assoc (take at cells) xs (ys ++ drop (at + length xs + length ys) cells)
    ∙ ap (λ b. take at cells ++ b) (sym (append_assoc xs ys (drop (at + length xs + length ys) cells)))
    ∙ ap (λ n. take at cells ++ ((xs ++ ys) ++ drop n cells)) (add_assoc at (length xs) (length ys) ∙ ap (λ n. at + n) (sym (length-append xs ys)))
  where
    short : length (take at cells) ≡ at
    short = length-take-le at cells (omega arith)

    both : length (take at cells ++ xs) ≡ at + length xs
    both = length-append (take at cells) xs ∙ ap (λ n. n + length xs) short

    apart : filled cells at xs ≡ (take at cells ++ xs) ++ drop (at + length xs) cells
    apart = sym (append_assoc (take at cells) xs (drop (at + length xs) cells))

    front : take (at + length xs) (filled cells at xs) ≡ take at cells ++ xs
    front = ap (take (at + length xs)) apart ∙ take_at (take at cells ++ xs) (drop (at + length xs) cells) (at + length xs) both

    back : drop (at + length xs + length ys) (filled cells at xs) ≡ drop (at + length xs + length ys) cells
    back =
        sym (drop-drop (length ys) (at + length xs) (filled cells at xs))
        ∙ ap (drop (length ys)) (ap (drop (at + length xs)) apart ∙ drop_at (take at cells ++ xs) (drop (at + length xs) cells) (at + length xs) both)
        ∙ drop-drop (length ys) (at + length xs) cells

written_joins : (s t u : Writer) (xs ys : List ℕ) → Written s xs t → Written t ys u → Written s (xs ++ ys) u
written_joins s t u xs ys h k = record {
  memory = h.memory ∙ k.memory;
  at = λ room. omega (arith, long, h.at (first room), k.at (second room));
  cells = λ room.
      k.cells (second room) ∙ ap₂ (λ cells at. filled cells at ys) (h.cells (first room)) (h.at (first room)) ∙ filled_joins s.out.now s.at xs ys (omega (arith, long));
}
  where
    long : length (xs ++ ys) ≡ length xs + length ys
    long = length-append xs ys

    first : s.at + length (xs ++ ys) ≤ length s.out.now → s.at + length xs ≤ length s.out.now
    first room = omega (arith, long)

    second : s.at + length (xs ++ ys) ≤ length s.out.now → t.at + length ys ≤ length t.out.now
    second room = omega (arith, long, h.at (first room), ap length (h.cells (first room)) ∙ length_filled s.out.now s.at xs (first room))

pub written_in_turn : TakesInTurn Written
written_in_turn = record {
  nothing = λ s. record { memory = refl; at = λ room. omega arith; cells = λ room. sym (filled_nothing s.out.now s.at) };
  joins = written_joins;
}
