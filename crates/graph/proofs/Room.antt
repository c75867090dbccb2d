-- At every step of the building, the amounts so far stand in front of all amounts. So a loop that has no room for one more
-- knows that the graph has more nodes than there is room for.
use Rattle.std.proofs.Common.{◌≡◌, ℕ, zero, suc, ◌+◌, ◌-◌, ◌<◌, ◌≤◌, List, [], ◌∷◌, ◌++◌, length, take, sym, refl, ap, ◌∙◌, subst, arith, length-append}
use Rattle.std.proofs.lemmas.List.{append_assoc, append-nil}
use Rattle.packing.specs.Distinct.{distinct, same_list}
use Rattle.limits.specs.Meaning.{Meaning}
use Rattle.packing.specs.Packing.{Item}
use Rattle.graph.specs.Compiled.{raised, layer, after, loads_from, loads, compiled}
use Rattle.graph.proofs.Steps.{distinct_prefix, raised_prefix, stage, stage_more, layer_more}
use Rattle.graph.proofs.Laws.{compiles_layered}

abbrev pub Prefix : {X : Type 0} → List X → List X → Type 0
Prefix {X} xs ys = (more : List X) × (ys ≡ xs ++ more)

pub prefix_self : {X : Type 0} (xs : List X) → Prefix xs xs
prefix_self xs = ([], sym (append-nil xs))

pub prefix_append : {X : Type 0} (xs ys : List X) → Prefix xs (xs ++ ys)
prefix_append xs ys = (ys, refl)

pub prefix_trans : {X : Type 0} (xs ys zs : List X) → Prefix xs ys → Prefix ys zs → Prefix xs zs
prefix_trans {X} xs ys zs p q = (p.0 ++ q.0, q.1 ∙ ap (λ (l : List X). l ++ q.0) p.1 ∙ append_assoc xs p.0 q.0)

-- the same list in front of both
pub prefix_under : {X : Type 0} (ws xs ys : List X) → Prefix xs ys → Prefix (ws ++ xs) (ws ++ ys)
prefix_under {X} ws xs ys p = (p.0, ap (λ (l : List X). ws ++ l) p.1 ∙ sym (append_assoc ws xs p.0))

pub prefix_length : {X : Type 0} (xs ys : List X) → Prefix xs ys → length xs ≤ length ys
prefix_length xs ys p = omega (arith, ap length p.1 ∙ length-append xs p.0)

module _ (k : Meaning) where
  pub layer_prefix : (w : List ℕ) (b d : ℕ) (s : List (List ℕ)) → Prefix (layer k w b s) (layer k w (d + b) s)
  layer_prefix w b zero s = subst (λ (n : ℕ). Prefix (layer k w b s) (layer k w n s)) (omega arith) (prefix_self (layer k w b s))
  layer_prefix w b (suc d) s =
      let e : suc (d + b) ≡ suc d + b = omega arith in
      subst (λ (n : ℕ). Prefix (layer k w b s) (layer k w n s)) e
      (prefix_trans (layer k w b s) (layer k w (d + b) s) (layer k w (suc (d + b)) s) (layer_prefix w b d s)
      (stage k w (suc (d + b)) s, layer_more k w (d + b) s))

  -- while copy c + 1 of an item is taken, at the j-th node of station (i, c)
  pub take_prefix : (w : List ℕ) (c b j : ℕ) (s : List (List ℕ)) → c < b → Prefix (layer k w c s ++ raised k w (take j (stage k w c s))) (layer k w b s)
  take_prefix w c b j s lt =
      let here = layer k w c s in
      let next = raised k w (stage k w c s) in
      let whole : layer k w (suc c) s ≡ here ++ next = layer_more k w c s ∙ ap (λ (l : List (List ℕ)). here ++ l) (stage_more k w c s) in
      prefix_trans (here ++ raised k w (take j (stage k w c s))) (here ++ next) (layer k w b s)
      (prefix_under here (raised k w (take j (stage k w c s))) next (raised_prefix k w j (stage k w c s)))
      (subst (λ (l : List (List ℕ)). Prefix l (layer k w b s)) whole (upto (suc c) lt))
    where
      upto : (n : ℕ) → n ≤ b → Prefix (layer k w n s) (layer k w b s)
      upto n le = let e : b - n + n ≡ b = omega arith in subst (λ (m : ℕ). Prefix (layer k w n s) (layer k w m s)) e (layer_prefix w n (b - n) s)

  -- while an item is passed, at its j-th node, with another item to come
  pub pass_prefix : (x y : Item) (xs : List Item) (j : ℕ) (s : List (List ℕ))
      → Prefix (layer k x.weight x.most s ++ distinct same_list (take j (layer k x.weight x.most s))) (loads_from k s (x ∷ y ∷ xs))
  pass_prefix x y xs j s =
      let all = layer k x.weight x.most s in
      let t = after k x s in
      let first = layer k y.weight y.most t in
      prefix_under all (distinct same_list (take j all)) (loads_from k t (y ∷ xs))
      (prefix_trans (distinct same_list (take j all)) t (loads_from k t (y ∷ xs)) (distinct_prefix same_list j all)
      (prefix_trans t first (loads_from k t (y ∷ xs)) (begins y.most t) (prefix_append first (loads_from k (after k y t) xs))))
    where
      begins : (b : ℕ) (t : List (List ℕ)) → Prefix t (layer k y.weight b t)
      begins zero t = prefix_self t
      begins (suc b) t = prefix_append t (layer k y.weight b (raised k y.weight t))

  -- with no room for one amount more, there are more nodes than room
  pub no_room : (items : List Item) (so_far : List (List ℕ)) (room : ℕ) → Prefix so_far (loads k items) → room ≤ length so_far → room < length (compiled k items)
  no_room items so_far room p le = omega (arith, (compiles_layered k items).1, prefix_length so_far (loads k items) p)
