-- A compilation, by what it leaves in the memory given.
use Rattle.std.proofs.Common.{◌≡◌, ℕ, suc, ◌-◌, List, [], ◌∷◌, ◌++◌, map, length, take, drop, Some, None, Option, sym, ap, ◌∙◌, arith, length-append, take-append-drop, MatchOption}
use lib.ListN.{length-map}
use Rattle.std.proofs.lemmas.List.{take_at, drop_at}
use Rattle.limits.specs.Meaning.{Meaning}
use Rattle.lists.specs.declared.list.List.{List as Grown}
use Rattle.lists.specs.Entries.{entries, spare}
use Rattle.graph.specs.declared.Row.{Row}
use Rattle.packing.specs.Packing.{Item}
use Rattle.graph.specs.Graph.{row}
use Rattle.graph.specs.Compiled.{compiled}
use Rattle.graph.proofs.Laws.{compiles_layered}
use Rattle.compile.specs.Growth.{capacity, Grew, ShortOf}
use Rattle.compile.specs.Build.{Untargeted, TargetAdded}
use Rattle.compile.specs.Memory.{Compiles}
use Rattle.compile.proofs.Growth.{grew_trans}

-- r and l are the empty lists of rows and loads with which it begins, q and m those with all but the target, and s the rows with it.
-- xs is what the memory for loads held before, and ys what it holds after.
module _ {L : Type 0} (f : L → List ℕ) (k : Meaning) (items : List Item) (before r q s : Grown Row) (l m : Grown L) (xs ys : List L)
    (cut : entries r ≡ []) (freed : spare r ≡ entries before ++ spare before) (none : entries l ≡ []) (lent : spare l ≡ xs) (rows : Grew r q) (loads_grew : Grew l m) where
  begin_rows : length (entries r) ≡ 0
  begin_rows = ap length cut

  begin_loads : length (entries l) ≡ 0
  begin_loads = ap length none

  room_rows : capacity r ≡ capacity before
  room_rows = omega (arith, begin_rows, ap length freed ∙ length-append (entries before) (spare before))

  room_loads : capacity l ≡ length xs
  room_loads = omega (arith, begin_loads, ap length lent)

  module _ (is : ys ≡ m.cells.now) (done : Untargeted f k items q m) (last : Grew q s) (i : ℕ) (number : i ≡ suc (length items)) where
    count : length (compiled k items) ≡ suc (length (entries q))
    count = omega (arith, ap length (sym done.rows) ∙ length-append (entries q) (row (suc (length items)) 0 None None ∷ []))

    even : length (entries q) ≡ length (entries m)
    even = omega (arith, count, (compiles_layered k items).1, ap length done.amounts, length-map (entries m) f)

    pub compiles : (o : Option ℕ) → MatchOption o (ShortOf q m (suc (length (entries q)))) (TargetAdded i q s m) → Compiles f k items before s xs ys o
    compiles None short = λ x y. short (omega (arith, count, rows.room, room_rows)) (omega (arith, count, loads_grew.room, room_loads))
    compiles (Some n) made =
        let rows_are : entries s ≡ compiled k items = made.rows ∙ ap (λ (j : ℕ). entries q ++ row j 0 None None ∷ []) number ∙ done.rows in
        let nodes : n - 1 ≡ length (entries m) = omega (arith, made.count, even) in
        let split : ys ≡ entries m ++ spare m = is ∙ sym (take-append-drop m.len m.cells.now) in
        let past : n - 1 ≡ length (entries m) - length (entries l) = omega (arith, nodes, begin_loads) in
        let all : length (entries s) - length (entries r) ≡ n = omega (arith, ap length rows_are, count, made.count, begin_rows) in
        let whole = grew_trans r q s rows last in
        record {
          rows = rows_are;
          count = omega (arith, made.count, count);
          amounts = ap (map f) (ap (take (n - 1)) split ∙ take_at (entries m) (spare m) (n - 1) (sym nodes)) ∙ done.amounts;
          room = omega (arith, made.room, loads_grew.room, room_loads);
          rows_past = whole.rest ∙ ap (λ (j : ℕ). drop j (spare r)) all ∙ ap (drop n) freed;
          loads_past = ap (drop (n - 1)) split ∙ drop_at (entries m) (spare m) (n - 1) (sym nodes) ∙ loads_grew.rest
              ∙ ap (λ (j : ℕ). drop j (spare l)) (sym past) ∙ ap (drop (n - 1)) lent;
        }
