-- What place leaves.
use Rattle.std.proofs.Common.{◌≡◌, ℕ, ◌≤◌, false, eqb, true, ltb, List, ◌++◌, ◌⊎◌, inl, inr, length, drop, Ok, Err, Some, None, Option, sym, refl, ap, ◌∙◌, subst, arith, MutBor}
use Rattle.std.proofs.lemmas.Bool.{cond-true, cond-false, eq-eqb, ne_eqb, le-ltb, or_from, cases_Bool}
use Rattle.graph.specs.Graph.{walk, Path, Layered}
use Rattle.graph.specs.declared.Row.{Row}
use Rattle.graph.proofs.Paths.{walk_path}
use Rattle.flow.specs.Flow.{push}
use Rattle.flow.specs.Job.{limit, Content, View.Open, Call.Place, Reply.Plain, Answer.Done, Answer.Refused, overflows, path_of, place_on, refuse, step}
use Rattle.flow.specs.Walks.{Placeable, verdict, arcs_along}
use Rattle.flow.proofs.Paths.{path_rising}
use Rattle.flow.proofs.Place.{push_on_arcs}
use Rattle.flow.proofs.Routing.{Fitting, fitting, push_limited}
use Rattle.refusal.specs.declared.Refusal.{Refusal}
use Rattle.refusal.specs.declared.Refusal.TheVariants.{ArcOverLimit, NoPattern}
use Rattle.job.specs.declared.state.State.TheVariants
use Rattle.job.specs.declared.job.Job.{Job}
use Rattle.job.specs.View.{graph_of, flow_of, arcs_of, count_of, demanded, content, size, view}
use Rattle.job.specs.Sound.{Loaded}
use Rattle.job.specs.Contract.{Follows}
use Rattle.job.proofs.Facts.{loaded_open, open_unsettled, shape, on_arcs, demands_count}
use Rattle.job.proofs.Follow.{Whole, stays, follows, Holds, when_open}

pub placeable : (b : Job) (g : List Row) (counts : List ℕ) (times : ℕ) → Loaded b → g ≡ graph_of b → length counts ≡ count_of b → times ≤ limit → Placeable g counts times
placeable b g counts times l same count few = record {
  some_item = omega (arith, l.some_item);
  layers = subst (λ m. Layered m g) (sym count) (subst (λ h. Layered (count_of b) h) (sym same) l.layers);
  few = few;
}

-- what a verdict says that refuses
judged : (j : Content) (times : ℕ) (path : Option (List ℕ)) (e : Refusal) → Err e ≡ verdict j.flow times false path → place_on j times path ≡ refuse (Open j) e
judged j times None e says = let is : NoPattern ≡ e = cc in ap (refuse (Open j)) is
judged j times (Some arcs) e says = go (cases_Bool (overflows j.flow times arcs))
  where
    go : (overflows j.flow times arcs ≡ true) ⊎ (overflows j.flow times arcs ≡ false) → place_on j times (Some arcs) ≡ refuse (Open j) e
    go (inl t) = let p : Err e ≡ Err ArcOverLimit = says ∙ cond-true _ _ _ t in let is : ArcOverLimit ≡ e = cc in cond-true _ _ _ t ∙ ap (refuse (Open j)) is
    go (inr f) = let p : Err e ≡ Ok tt = says ∙ cond-false _ _ _ f in let z : ◌≡◌ {A = ℕ} 0 1 = cc in absurd (omega arith)

module _ (b : Job) (counts : List ℕ) (times : ℕ) (opened : b.state ≡ TheVariants.Open) where
  opened_loaded : Loaded b
  opened_loaded = loaded_open b opened

  abbrev path : Option (List ℕ)
  path = walk (graph_of b) counts 0

  module _ (some : times ≡ 0 → ⊥) (few : times ≤ limit) where
    goes : step (size b) (Open (content b)) (Place counts times) ≡ place_on (content b) times (path_of (content b) counts)
    goes = cond-false _ _ _ (or_from (eqb times 0) (ltb limit times) (ne_eqb times 0 some) (le-ltb limit times few))

    pub place_unfit : (length counts ≡ count_of b → ⊥) → step (size b) (view b) (Place counts times) ≡ (Refused NoPattern, view b)
    place_unfit other =
        when_open b (Place counts times) _ _ opened
        (goes ∙ ap (place_on (content b) times) (cond-false _ _ _ (ne_eqb (length counts) (length (demanded b)) (λ e. other (e ∙ demands_count b)))))

    module _ (count : length counts ≡ count_of b) where
      along : step (size b) (Open (content b)) (Place counts times) ≡ place_on (content b) times path
      along = goes ∙ ap (place_on (content b) times) (cond-true _ _ _ (eq-eqb (length counts) (length (demanded b)) (count ∙ sym (demands_count b))))

      -- a refusal by the verdict on the path
      pub place_judged : (e : Refusal) → Err e ≡ verdict (flow_of b) times false path → step (size b) (view b) (Place counts times) ≡ (Refused e, view b)
      place_judged e says = when_open b (Place counts times) _ _ opened (along ∙ judged (content b) times path e says)

      module _ (ok : Ok tt ≡ verdict (flow_of b) times false path) where
        fit : Fitting (flow_of b) times path
        fit = fitting (flow_of b) times path ok

        abbrev grown : List ℕ
        grown = push (flow_of b) (arcs_along path) times

        the_path : Path (graph_of b) 0 (arcs_along path) counts
        the_path = walk_path (graph_of b) counts 0 (arcs_along path) fit.is

        holds : Holds b grown
        holds = record {
          arcs = push_on_arcs (shape b opened_loaded) (flow_of b) (on_arcs b opened_loaded) the_path times;
          limited = push_limited (arcs_along path) (flow_of b) times 0 (path_rising (shape b opened_loaded) the_path) fit.room opened_loaded.limited;
        }

        pub placed_stays : (cells : List ℕ) → cells ≡ grown ++ drop (arcs_of b) b.cells.now → Whole b.state (graph_of b) cells b.items.items
        placed_stays cells wrote = stays b grown holds cells wrote b.state b.items.items opened_loaded (λ a. absurd (open_unsettled b.state opened a)) refl

        pub place_done : (r : MutBor (List ℕ)) (whole : Whole b.state (graph_of b) r.now b.items.items) → r.now ≡ grown ++ drop (arcs_of b) b.cells.now → r.ghost_name ≡ b.cells.ghost_name →
            Follows b (record { rows = b.rows; cells = r; items = b.items; state = b.state; sound = whole }) (Place counts times) (Done Plain)
        place_done r whole wrote lent =
            follows b r b.items b.state whole grown holds wrote (Place counts times) Plain lent refl
            (when_open b (Place counts times) _ _ opened (along ∙ ap (place_on (content b) times) fit.is ∙ cond-false _ _ _ fit.room))
