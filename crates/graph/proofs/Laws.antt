-- The theorems about patterns and graphs, put together.
use Rattle.std.proofs.Common.{◌≡◌, ℕ, suc, ◌+◌, List, [], ◌∷◌, length, refl, ◌∙◌, arith, length-append}
use Rattle.limits.specs.Meaning.{Meaning}
use Rattle.packing.specs.Packing.{Item}
use Rattle.graph.specs.Compiled.{layer, after, pass_end, item_rows, rows_from, loads_from, compiled}
use Rattle.graph.specs.Laws.{PathsDetermined, SpellsPatterns, CompilesLayered}
use Rattle.graph.proofs.Paths.{unique_path, path_spells, path_walk, walk_path}
use Rattle.graph.proofs.Language.{length_item_rows, compiled_accepts, spells_just}
use Rattle.graph.proofs.Reduce.{reduces}
use Rattle.graph.proofs.Shape.{compiled_layered}

pub paths_determined : PathsDetermined
paths_determined g n arcs counts = ((λ p. (path_walk p, path_spells p, λ others q. unique_path p q)), walk_path g counts n arcs)

pub spells_patterns : SpellsPatterns
spells_patterns = record {
  of_compiled = λ k items p. spells_just (compiled k items) k items (compiled_accepts k items p);
  of_reduced = λ m g k items st spells counts.
      let same = reduces m g st in (
        (λ arcs p. let q = same.3 counts arcs p in (spells counts).0 q.0 q.1),
        (λ h. let p = (spells counts).1 h in let q = same.2 counts p.0 p.1 in (q.0, q.1, λ others r. unique_path q.1 r)),
      );
}

length_rows : (k : Meaning) (items : List Item) (i o : ℕ) (s : List (List ℕ)) → length (rows_from k i o s items) ≡ suc (length (loads_from k s items))
length_rows k [] i o s = refl
length_rows k (x ∷ xs) i o s =
    let w = x.weight in
    let l = layer k w x.most s in
    let pass = pass_end xs (o + length l) (after k x s) in
    length-append (item_rows k w pass i 0 x.most o s) (rows_from k (suc i) (o + length l) (after k x s) xs)
    ∙ omega (arith, length_item_rows k w pass i 0 x.most o s, length_rows k xs (suc i) (o + length l) (after k x s), length-append l (loads_from k (after k x s) xs))

pub compiles_layered : CompilesLayered
compiles_layered k items = (compiled_layered k items, length_rows k items 1 0 (k.empty ∷ []))
