-- The loop over the items, and the last item.
use Rattle.std.proofs.Common.{◌≡◌, ℕ, suc, ◌+◌, ◌<◌, List, [], ◌∷◌, ◌++◌, length, get_or, Some, None, Option, ap, ◌∙◌, arith, length-append, MatchOption}
use Rattle.limits.specs.Meaning.{Meaning}
use Rattle.lists.specs.Entries.{entries}
use Rattle.packing.specs.declared.Item.{Item as Given}
use Rattle.packing.specs.Given.{orders_of}
use Rattle.packing.specs.Packing.{Item}
use Rattle.packing.specs.Problem.{flaw}
use Rattle.graph.specs.Compiled.{compiled}
use Rattle.graph.proofs.Laws.{compiles_layered}
use Rattle.compile.specs.declared.draft.Draft.{Draft}
use Rattle.compile.specs.declared.weighed.Weighed.{Weighed}
use Rattle.compile.specs.Drafts.{GrewBoth, Short}
use Rattle.compile.specs.Items.{Weighs, nodes_of, next_of, Followed, Ended}
use Rattle.compile.specs.Build.{items_of, Built}
use Rattle.compile.proofs.Growth.{grew_both_trans, short_more, short_back}
use Rattle.compile.proofs.Orders.{number_of_items, inner_is, item_at}
use Rattle.compile.proofs.Begun.{Begun, packed, begun_more, begun_within, begun_count, begun_last}

module _ {L : Type 0} (f : L → List ℕ) (k : Meaning) (its : List Given) where
  abbrev its_of : List Item
  its_of = items_of k its

  -- no room for the source
  pub short_source : (b : Draft L) → entries b.rows ≡ [] → Short b (suc (length (entries b.loads))) → Short b (length (compiled k its_of))
  short_source b empty short =
      short_more b (suc (length (entries b.loads))) (length (compiled k its_of)) (omega (arith, (compiles_layered k its_of).1, b.paired, ap length empty)) short

  -- b is the graph at the start, and c that at the item at place j, which is x by its weight, and begins at `low`
  pub record Here (b c : Draft L) (j low : ℕ) (x : Weighed L) (d given : Given) : Type 0 where
    pub sound : flaw k (orders_of its) ≡ None
    pub inside : j < length its
    pub read : get_or its j d ≡ given
    pub grew : GrewBoth b c
    pub begun : Begun f k its_of j low c
    pub weighs : Weighs f k given (j + 1) x

  -- at one of the items before the last
  pub here_inner : (b c : Draft L) (j low : ℕ) (x : Weighed L) (d last : Given) (inner : List Given) → flaw k (orders_of its) ≡ None
      → its ≡ inner ++ last ∷ [] → j < length inner → GrewBoth b c → Begun f k its_of j low c → Weighs f k (get_or inner j d) (j + 1) x → Here b c j low x d (get_or inner j d)
  here_inner b c j low x d last inner sound split lt grew begun weighs =
      record {
        sound = sound;
        inside = omega (arith, ap length split ∙ length-append inner (last ∷ []));
        read = inner_is its inner last d j split lt;
        grew = grew;
        begun = begun;
        weighs = weighs;
      }

  module _ (b c : Draft L) (j low : ℕ) (x : Weighed L) (d given : Given) (here : Here b c j low x d given) where
    item : get_or its_of j (packed f x) ≡ packed f x
    item = item_at k its here.sound j d given here.inside here.read f (j + 1) x here.weighs

    lt : j < length its_of
    lt = omega (arith, here.inside, number_of_items k its)

    -- one of the others
    module _ (more : j + 1 < length its) where
      further : j + 1 < length its_of
      further = omega (arith, number_of_items k its)

      pub turn_more : (e : Draft L) (n : ℕ) → GrewBoth c e → Followed f k x low c e n → GrewBoth b e × Begun f k its_of (j + 1) n e
      turn_more e n grew made =
          (grew_both_trans b c e here.grew grew, begun_more f k its_of c j low x here.weighs.number here.begun lt item further e n made)

      pub turn_short : Short c (low + length (nodes_of f k x low c) + length (next_of f k x low c)) → Short b (length (compiled k its_of))
      turn_short short =
          let n = low + length (nodes_of f k x low c) + length (next_of f k x low c) in
          short_more b n (length (compiled k its_of)) (begun_within f k its_of c j low x here.weighs.number here.begun lt item further) (short_back b c n here.grew short)

    -- the last one
    module _ (last : j + 1 ≡ length its) where
      at_last : j + 1 ≡ length its_of
      at_last = omega (arith, number_of_items k its)

      pub turn_last : (e : Draft L) (o : Option (Unit {0})) → MatchOption o (Short c (low + length (nodes_of f k x low c))) (λ _. Ended f k x low c e) → Built f k its_of b.rows e.rows b.loads e.loads o
      turn_last e None short =
          let count = begun_count f k its_of c j low x here.weighs.number here.begun lt item at_last in
          let n = low + length (nodes_of f k x low c) in
          short_more b n (length (compiled k its_of)) (omega (arith, count)) (short_back b c n here.grew short)
      turn_last e (Some u) made = begun_last f k its_of c j low x here.weighs.number here.begun lt item at_last e made
