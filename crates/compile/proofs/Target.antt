-- Pass arcs to the target, led one after the other.
use Rattle.std.proofs.Common.{◌≡◌, ℕ, ◌+◌, ◌-◌, ◌<◌, ◌≤◌, List, ◌∷◌, ◌++◌, map, length, get_or, take, drop, set, ap, ◌∙◌, arith, length-append, length-drop}
use lib.ListN.{length-map}
use Rattle.std.proofs.lemmas.List.{append_assoc, map_more, drop_more, get_or_at, set_at, get_or-drop, length-take-le}
use Rattle.graph.specs.declared.Row.{Row}
use Rattle.graph.specs.Graph.{at, blank}

module _ (p : Row → Row) (rs : List Row) (low : ℕ) where
  -- the rows from `low` on, below n, are changed
  abbrev pub Reached : List Row → ℕ → Type 0
  Reached qs n = qs ≡ (take low rs ++ map p (take (n - low) (drop low rs))) ++ drop n rs

  pub reached_more : (qs : List Row) (n : ℕ) → low ≤ n → n < length rs → Reached qs n → Reached (set qs n (p (at qs n))) (n + 1)
  reached_more qs n from lt is =
      let j = n - low in
      let rest = drop low rs in
      let front = take low rs ++ map p (take j rest) in
      let x = get_or rs n blank in
      let inside : j < length rest = omega (arith, length-drop low rs) in
      let long : length front ≡ n =
      length-append (take low rs) (map p (take j rest)) ∙ omega (arith, length-take-le low rs (omega arith), length-map (take j rest) p, length-take-le j rest (omega arith)) in
      let split : qs ≡ front ++ x ∷ drop (n + 1) rs = is ∙ ap (λ (l : List Row). front ++ l) (drop_more rs n blank lt) in
      let row_is : at qs n ≡ x = ap (λ (l : List Row). at l n) split ∙ get_or_at front x (drop (n + 1) rs) blank n long in
      let back : low + j ≡ n = omega arith in
      let here : get_or rest j blank ≡ x = get_or-drop low rs j blank ∙ ap (λ (i : ℕ). get_or rs i blank) back in
      let next : n + 1 - low ≡ j + 1 = omega arith in
      rw (row_is, split, next, map_more p rest j blank inside, here) (set_at front x (drop (n + 1) rs) (p x) n long ∙ simp append_assoc)
