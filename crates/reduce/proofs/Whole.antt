-- The steps of a reduction put together.
use Rattle.std.proofs.Common.{◌≡◌, ℕ, ◌+◌, ◌*◌, ◌<◌, eqb, All, List, ◌++◌, length, get_or, take, sym, ap, ◌∙◌, arith}
use Rattle.std.proofs.lemmas.Grind.{common_steps}
use Rattle.std.proofs.lemmas.List.{ext_get_or}
use Rattle.std.proofs.lemmas.List.Elements.{All-get_or, All-from_get_or}
use Rattle.graph.specs.declared.Row.{Row}
use Rattle.packing.specs.Distinct.{distinct}
use Rattle.graph.specs.Graph.{Layered}
use Rattle.graph.specs.Reduced.{classes, reduced}
use Rattle.graph.proofs.Joined.{length_classes}
use Rattle.reduce.specs.Reducing.{ranks, written}
use Rattle.reduce.proofs.Writes.{class_within, written_all}

same_zeros : (xs ys : List ℕ) → All (λ k. k ≡ 0) xs → All (λ k. k ≡ 0) ys → length xs ≡ length ys → xs ≡ ys
same_zeros xs ys a b long = ext_get_or 0 xs ys long (λ i lt. omega (arith, All-get_or (λ k. k ≡ 0) xs i 0 lt a, All-get_or (λ k. k ≡ 0) ys i 0 (omega arith) b))

-- The cells, of which the first n are for labels and the next n for numbers, and all these are 0.
module _ (cells labels rest numbers others : List ℕ) (n : ℕ) (first : cells ≡ labels ++ rest) (next : rest ≡ numbers ++ others)
    (one_each : length labels ≡ n) (two_each : length numbers ≡ n) (clear : (k : ℕ) → k < 2 * n → get_or cells k 0 ≡ 0) where
  labels_clear : All (λ k. k ≡ 0) labels
  labels_clear = All-from_get_or (λ k. k ≡ 0) labels 0 (λ i lt. let here = clear i in grind (arith, common_steps))

  pub numbers_clear : All (λ k. k ≡ 0) numbers
  numbers_clear = All-from_get_or (λ k. k ≡ 0) numbers 0 (λ i lt. let here = clear (n + i) in grind (arith, common_steps))

  -- cleared again they are what they were
  pub cells_left : (again anew : List ℕ) → All (λ k. k ≡ 0) again → All (λ k. k ≡ 0) anew → length again ≡ n → length anew ≡ n
      → again ++ (anew ++ others) ≡ cells
  cells_left again anew a b long also =
      ap (λ xs. xs ++ (anew ++ others)) (same_zeros again labels a labels_clear (long ∙ sym one_each))
      ∙ ap (λ xs. labels ++ (xs ++ others)) (same_zeros anew numbers b numbers_clear (also ∙ sym two_each))
      ∙ ap (λ xs. labels ++ xs) (sym next) ∙ sym first

module _ (m : ℕ) (g : List Row) (st : Layered m g) where
  pub labels_within : (labels : List ℕ) (n : ℕ) → labels ≡ classes 0 g → n ≡ length g → All (λ v. v < n) labels
  labels_within labels n is long =
      All-from_get_or (λ v. v < n) labels 0
      (λ i lt.
      let in_range : i < length g = omega (arith, ap length is, length_classes 0 g) in
      omega (arith, ap (λ (xs : List ℕ). get_or xs i 0) is, class_within m g st i in_range, long))

  pub rows_left : (labels numbers : List ℕ) (count : ℕ) (rows : List Row) → labels ≡ classes 0 g → numbers ≡ ranks labels → count ≡ length (distinct eqb labels)
      → rows ≡ take count (written (length g) numbers g) → rows ≡ reduced g
  rows_left labels numbers count rows is numbers-are count_is rows_are =
      rows_are
      ∙ ap (λ (k : ℕ). take k (written (length g) numbers g)) (count_is ∙ ap (λ (xs : List ℕ). length (distinct eqb xs)) is)
      ∙ ap (λ (xs : List ℕ). take (length (distinct eqb (classes 0 g))) (written (length g) xs g)) (numbers-are ∙ ap ranks is)
      ∙ written_all m g st
