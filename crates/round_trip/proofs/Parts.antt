-- The items of a line, one after another.
use Rattle.std.proofs.Common.{◌≡◌, ℕ, ◌+◌, ◌<◌, ◌≤◌, min, ◌⊎◌, List, [], ◌∷◌, ◌++◌, length, get_or, drop, decimal, sym, refl, ap, ◌∙◌, inl, inr, arith}
use Rattle.std.proofs.lemmas.List.{append_assoc, append-nil, at_drop_all, at_drop_more}
use Rattle.std.proofs.lemmas.Bool.{cases_lt}
use Rattle.packing.specs.declared.Item.{Item}
use Rattle.round_trip.specs.Lines.{line, part, parts}

-- a line that has the next item more, and what is left of the items, are what they were
pub more : (items : List Item) (counts : List ℕ) (i j : ℕ) (item : Item) (count : ℕ) (short longer : List ℕ) (whole : List ℕ)
    → i < length items → i < length counts → ((d : Item) → item ≡ get_or items i d) → ((d : ℕ) → count ≡ get_or counts i d) → j ≡ i + 1
    → longer ≡ short ++ part item.name.now count → short ++ parts (drop i items) (drop i counts) ≡ whole
    → longer ++ parts (drop j items) (drop j counts) ≡ whole
more items counts i j item count short longer whole a b item_is count_is next grown was =
    rw (next, grown) (append_assoc short _ _ ∙ sym (ap (λ xs. short ++ xs) parts_more) ∙ was)
  where
    parts_more : parts (drop i items) (drop i counts) ≡ part item.name.now count ++ parts (drop (i + 1) items) (drop (i + 1) counts)
    parts_more =
        at_drop_more (λ xs. parts xs (drop i counts)) items i item a ∙ at_drop_more (λ cs. parts (get_or items i item ∷ drop (i + 1) items) cs) counts i 0 b
        ∙ ap (λ (x : Item). part x.name.now (get_or counts i 0) ++ parts (drop (i + 1) items) (drop (i + 1) counts)) (sym (item_is item))
        ∙ ap (λ (n : ℕ). part item.name.now n ++ parts (drop (i + 1) items) (drop (i + 1) counts)) (sym (count_is 0))

no_counts : (items : List Item) → parts items [] ≡ []
no_counts [] = refl
no_counts (i ∷ items) = refl

-- past the last item or the last count nothing is left
pub parts_end : (items : List Item) (counts : List ℕ) (i : ℕ) → min (length items) (length counts) ≤ i → parts (drop i items) (drop i counts) ≡ []
parts_end items counts i a = from (cases_lt (length counts) (length items))
  where
    from : (length counts < length items) ⊎ (length items ≤ length counts) → parts (drop i items) (drop i counts) ≡ []
    from (inl b) = at_drop_all (λ cs. parts (drop i items) cs) counts i (omega (arith, a, b)) ∙ no_counts (drop i items)
    from (inr b) = at_drop_all (λ xs. parts xs (drop i counts)) items i (omega (arith, a, b))

-- a line that has all items is ended by a line feed
pub ended : (items : List Item) (counts : List ℕ) (i times : ℕ) (begun ready : List ℕ) → min (length items) (length counts) ≤ i → begun ≡ decimal times
    → ready ++ parts (drop i items) (drop i counts) ≡ begun ++ parts items counts → ready ++ (10 ∷ []) ≡ line times items counts
ended items counts i times begun ready a start was =
    ap (λ xs. xs ++ (10 ∷ [])) (sym (append-nil ready) ∙ ap (λ xs. ready ++ xs) (sym (parts_end items counts i a)) ∙ was ∙ ap (λ xs. xs ++ parts items counts) start) ∙ append_assoc (decimal times) _ _
