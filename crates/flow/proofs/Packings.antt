-- Any packing can be placed, and is accepted.
use Rattle.std.proofs.Common.{◌≡◌, ℕ, suc, ◌+◌, ◌*◌, ◌≤◌, Bool, true, false, cond, ◌||◌, eqb, ltb, leb, ◌⊎◌, ◌↔◌, List, [], ◌∷◌, ◌++◌, length, replicate, Some, None, sym, refl, ap, ◌∙◌, inl, inr, arith}
use lib.ListN.{length-map}
use Rattle.std.specs.List.{AllByRecursion}
use Rattle.std.proofs.lemmas.Bool.{eq-eqb, ne_eqb, le-ltb, or_from, and_parts, cond-false, false≢true, cases_Bool}
use Rattle.packing.specs.Packing.{Item, within, total}
use Rattle.packing.specs.Problem.{Problem, demands, item_of, items, entry, is_pattern, Pattern, Bin, times_of, copies_in}
use Rattle.graph.specs.Graph.{Path, Layered, walk}
use Rattle.graph.specs.Laws.{SpellsJust}
use Rattle.packing.proofs.Options.{some≢none}
use Rattle.graph.proofs.Paths.{path_walk, walk_path, path_spells, unique_path}
use Rattle.flow.specs.Flow.{on, carried, value, copies_of, carrying, Balanced, OnArcs, push}
use Rattle.flow.specs.Arcs.{arcs_into, item_arcs}
use Rattle.refusal.specs.declared.Refusal.TheVariants.{FlowOutOfRange, NoPattern, ArcOverLimit}
use Rattle.refusal.specs.Refusals.{numbers_of}
use Rattle.flow.specs.Job.{limit, Content, View.Open, Call.Accept, Call.Place, Answer, Answer.Refused, Answer.Done, Reply.Plain, Reply.Worth, Outcome, with_flow, path_of, overflows, refuse, place_on, place, step, answers}
use Rattle.flow.specs.Law.{Spells, placed, TakesPackings, WithoutFlow}
use Rattle.flow.proofs.Shape.{Forward, forward, option_cases}
use Rattle.flow.proofs.Place.{push_on_arcs, push_value, push_copies, push_balanced, push_bound}
use Rattle.flow.proofs.Accept.{Acceptable, accepts}

-- a job whose graph spells the patterns of a problem, with its demands, and flow on its arcs alone
pub record Good (p : Problem) (j : Content) : Type 0 where
  pub some_item : 1 ≤ length p.orders
  pub layered : Layered (length p.orders) j.graph
  pub spells : SpellsJust j.graph p.kind (items p.kind p.orders)
  pub demanded : j.demands ≡ demands p.orders
  pub on_arcs : OnArcs j.graph j.flow

pub ahead : {p : Problem} {j : Content} → Good p j → Forward (length p.orders) j.graph
ahead good = forward good.some_item good.layered

-- the law's words for it
pub spells_patterns : {p : Problem} {j : Content} → Good p j → Spells p j.graph
spells_patterns good = record {
  a_pattern = λ arcs counts. (good.spells counts).0 arcs;
  one_pattern = λ arcs c d x y. sym (path_spells x) ∙ path_spells y;
  a_path = λ counts pat. let found = (good.spells counts).1 pat in (found.0, found.1);
  one_path = λ counts a b x y. unique_path y x;
}

within_length : (xs : List Item) (counts : List ℕ) → within xs counts ≡ true → length counts ≡ length xs
within_length [] [] h = refl
within_length [] (n ∷ counts) h = absurd (false≢true h)
within_length (x ∷ xs) [] h = absurd (false≢true h)
within_length (x ∷ xs) (n ∷ counts) h = ap suc (within_length xs counts (and_parts (leb n x.most) (within xs counts) h).1)

fits_under : (arcs f : List ℕ) (t : ℕ) → ((a : ℕ) → on f a + t ≤ limit) → overflows f t arcs ≡ false
fits_under [] f t h = refl
fits_under (a ∷ arcs) f t h = or_from (ltb limit (on f a + t)) (overflows f t arcs) (le-ltb limit (on f a + t) (h a)) (fits_under arcs f t h)

-- a path that is found is one of the graph
pub found_path : (j : Content) (counts arcs : List ℕ) → path_of j counts ≡ Some arcs → Path j.graph 0 arcs counts
found_path j counts arcs e = go (eqb (length counts) (length j.demands)) e
  where
    go : (b : Bool) → cond b (walk j.graph counts 0) None ≡ Some arcs → Path j.graph 0 arcs counts
    go true h = walk_path j.graph counts 0 arcs h
    go false h = absurd (some≢none arcs (sym h))

module _ (p : Problem) (j : Content) (good : Good p j) where
  pub item_count : length j.demands ≡ length p.orders
  item_count = ap length good.demanded ∙ length-map p.orders (λ x. x.demand)

  pattern_length : (counts : List ℕ) → Pattern p counts → length counts ≡ length j.demands
  pattern_length counts pat =
      within_length (items p.kind p.orders) counts (and_parts (within (items p.kind p.orders) counts) (p.kind.fits (total p.kind (items p.kind p.orders) counts)) pat).0
      ∙ length-map p.orders (item_of p.kind) ∙ sym item_count

  -- a pattern has its path, which is found
  pub path_of_pattern : (counts : List ℕ) → Pattern p counts → (arcs : List ℕ) × Path j.graph 0 arcs counts × (path_of j counts ≡ Some arcs)
  path_of_pattern counts pat =
      let found = (good.spells counts).1 pat in (
        found.0,
        found.1,
        ap (λ b. cond b (walk j.graph counts 0) None) (eq-eqb (length counts) (length j.demands) (pattern_length counts pat)) ∙ path_walk found.1,
      )

  -- and what is no pattern has none
  pub no_path : (counts : List ℕ) → is_pattern p counts ≡ false → path_of j counts ≡ None
  no_path counts none = go (option_cases (path_of j counts))
    where
      go : (path_of j counts ≡ None) ⊎ ((arcs : List ℕ) × (path_of j counts ≡ Some arcs)) → path_of j counts ≡ None
      go (inl e) = e
      go (inr found) = absurd (false≢true (sym none ∙ (good.spells counts).0 found.0 (found_path j counts found.0 found.1)))

  in_range : (t : ℕ) → 1 ≤ t → t ≤ limit → (eqb t 0 || ltb limit t) ≡ false
  in_range t low high = or_from (eqb t 0) (ltb limit t) (ne_eqb t 0 (λ e. omega arith)) (le-ltb limit t high)

  place_in_range : (counts : List ℕ) (t : ℕ) → 1 ≤ t → t ≤ limit → place (Open j) counts t ≡ place_on j t (path_of j counts)
  place_in_range counts t low high = cond-false (eqb t 0 || ltb limit t) (refuse (Open j) FlowOutOfRange) (place_on j t (path_of j counts)) (in_range t low high)

  -- a pattern is placed where no arc would pass the limit
  pub places : (counts arcs : List ℕ) (t : ℕ) → path_of j counts ≡ Some arcs → 1 ≤ t → ((a : ℕ) → on j.flow a + t ≤ limit) →
      place (Open j) counts t ≡ (Done Plain, Open (with_flow j (push j.flow arcs t)))
  places counts arcs t e low under =
      place_in_range counts t low (omega (arith, under 0))
      ∙ ap (place_on j t) e
      ∙ cond-false (overflows j.flow t arcs) (refuse (Open j) ArcOverLimit) (Done Plain, Open (with_flow j (push j.flow arcs t))) (fits_under arcs j.flow t under)

  pub placed_good : (counts arcs : List ℕ) (t : ℕ) → Path j.graph 0 arcs counts → Good p (with_flow j (push j.flow arcs t))
  placed_good counts arcs t path = record {
    some_item = good.some_item;
    layered = good.layered;
    spells = good.spells;
    demanded = good.demanded;
    on_arcs = push_on_arcs (ahead good) j.flow good.on_arcs path t;
  }

abbrev number_of : Answer → ℕ
number_of (Refused r) = (numbers_of r).number
number_of (Done x) = 0

-- counts are refused with 15 if and only if they are no pattern
pub refuses_others : (size : ℕ) (p : Problem) (j : Content) → Good p j → (counts : List ℕ) (t : ℕ) → 1 ≤ t → t ≤ limit →
    ((step size (Open j) (Place counts t)).0 ≡ Refused NoPattern) ↔ (is_pattern p counts ≡ false)
refuses_others size p j good counts t low high = (λ said. go said (cases_Bool (is_pattern p counts)), refused)
  where
    refused : is_pattern p counts ≡ false → (place (Open j) counts t).0 ≡ Refused NoPattern
    refused none = ap (λ o. o.0) (place_in_range p j good counts t low high) ∙ ap (λ o. (place_on j t o).0) (no_path p j good counts none)

    other : (b : Bool) (o : Outcome) → number_of o.0 ≡ 0 → number_of (cond b (refuse (Open j) ArcOverLimit) o).0 ≡ 15 → ⊥
    other true o zero_is e = omega (arith, e)
    other false o zero_is e = omega (arith, e, zero_is)

    go : (place (Open j) counts t).0 ≡ Refused NoPattern → (is_pattern p counts ≡ true) ⊎ (is_pattern p counts ≡ false) → is_pattern p counts ≡ false
    go said (inr none) = none
    go said (inl pat) =
        let found = path_of_pattern p j good counts pat in
        let on_path : place (Open j) counts t ≡ place_on j t (Some found.0) = place_in_range p j good counts t low high ∙ ap (place_on j t) found.2 in
        absurd (other (overflows j.flow t found.0) (Done Plain, Open (with_flow j (push j.flow found.0 t))) refl (ap (λ o. number_of o.0) (sym on_path) ∙ ap number_of said))

-- bins already placed on the job: balanced, of value u, and no arc above it
record Holding (j : Content) (u : ℕ) : Type 0 where
  balanced : Balanced j.graph j.flow
  value_is : value j.flow ≡ u
  most : (a : ℕ) → on j.flow a ≤ u

holding_placed : (p : Problem) (j : Content) (good : Good p j) (u : ℕ) (counts arcs : List ℕ) (t : ℕ) → Path j.graph 0 arcs counts → Holding j u →
    Holding (with_flow j (push j.flow arcs t)) (u + t)
holding_placed p j good u counts arcs t path hold = record {
  balanced = push_balanced (ahead good) j.flow good.on_arcs path t hold.balanced;
  value_is = push_value (ahead good) j.flow good.on_arcs path t ∙ ap (λ x. x + t) hold.value_is;
  most = λ a. omega (arith, push_bound (ahead good) j.flow good.on_arcs path t a, hold.most a);
}

-- the rest of a packing is placed with no refusal, and the whole is accepted
place_all : (size : ℕ) (p : Problem) (bins : List Bin) (j : Content) → Good p j → (u : ℕ) → Holding j u →
    AllByRecursion (λ b. Pattern p b.counts) bins → AllByRecursion (λ b. 1 ≤ b.times) bins → u + times_of bins ≤ limit →
    ((i : ℕ) → 1 ≤ i → i ≤ length j.demands → entry j.demands i ≤ copies_of j.graph j.flow i + copies_in bins i) →
    (arcs : ℕ) × (answers size (Open j) (placed bins ++ (Accept ∷ [])) ≡ replicate (length bins) (Done Plain) ++ (Done (Worth (u + times_of bins) arcs) ∷ []))
place_all size p [] j good u hold pats used small covers =
    let ok : Acceptable j = record {
      balanced = hold.balanced;
      within = omega (arith, hold.value_is);
      covers = λ i low high. omega (arith, covers i low high);
    } in
    let z_is : value j.flow ≡ u + 0 = omega (arith, hold.value_is) in
    (carrying j.flow, ap (λ o. o.0 ∷ []) (accepts j ok) ∙ ap (λ z. Done (Worth z (carrying j.flow)) ∷ []) z_is)
place_all size p (b ∷ bins) j good u hold pats used small covers =
    let t : ℕ = b.times in
    let found = path_of_pattern p j good b.counts pats.0 in
    let path : Path j.graph 0 found.0 b.counts = found.1 in
    let j' : Content = with_flow j (push j.flow found.0 t) in
    let said : place (Open j) b.counts t ≡ (Done Plain, Open j') = places p j good b.counts found.0 t found.2 used.0 (λ a. omega (arith, hold.most a)) in
    let covers' : (i : ℕ) → 1 ≤ i → i ≤ length j.demands → entry j.demands i ≤ copies_of j.graph j'.flow i + copies_in bins i =
    λ i low high. omega (arith, covers i low high, push_copies (ahead good) j.flow good.on_arcs path t i low) in
    let rest : (arcs : ℕ) × (answers size (Open j') (placed bins ++ (Accept ∷ [])) ≡ replicate (length bins) (Done Plain) ++ (Done (Worth ((u + t) + times_of bins) arcs) ∷ [])) =
    place_all size p bins j' (placed_good p j good b.counts found.0 t path) (u + t) (holding_placed p j good u b.counts found.0 t path hold) pats.1 used.1 (omega arith) covers' in
    let z_is : (u + t) + times_of bins ≡ u + (t + times_of bins) = omega arith in (
      rest.0,
      ap (λ o. o.0 ∷ answers size o.1 (placed bins ++ (Accept ∷ []))) said
          ∙ ap (λ xs. Done Plain ∷ xs) rest.1
          ∙ ap (λ z. Done Plain ∷ (replicate (length bins) (Done Plain) ++ (Done (Worth z rest.0) ∷ []))) z_is,
    )

pub carried_none : (f : List ℕ) → ((a : ℕ) → on f a ≡ 0) → (arcs : List ℕ) → carried f arcs ≡ 0
carried_none f h [] = refl
carried_none f h (a ∷ arcs) = omega (arith, h a, carried_none f h arcs)

pub takes_packings : (size : ℕ) (p : Problem) (j : Content) → Good p j → WithoutFlow j → TakesPackings size p j
takes_packings size p j good none bins z pack small =
    let hold : Holding j 0 = record {
      balanced = λ v inside below. omega (arith, carried_none j.flow none (arcs_into j.graph v), none (2 * v), none (2 * v + 1));
      value_is = omega (arith, none 0, none 1);
      most = λ a. omega (arith, none a);
    } in
    let same : (i : ℕ) → entry j.demands i ≡ entry (demands p.orders) i = λ i. ap (λ d. entry d i) good.demanded in
    let all : (arcs : ℕ) × (answers size (Open j) (placed bins ++ (Accept ∷ [])) ≡ replicate (length bins) (Done Plain) ++ (Done (Worth (0 + times_of bins) arcs) ∷ [])) =
    place_all size p bins j good 0 hold pack.patterns pack.used (omega (arith, pack.total))
    (λ i low high. omega (arith, same i, pack.covers i low (omega (arith, high, item_count p j good)), carried_none j.flow none (item_arcs j.graph i))) in
    let z_is : 0 + times_of bins ≡ z = omega (arith, pack.total) in
    (all.0, all.1 ∙ ap (λ z. replicate (length bins) (Done Plain) ++ (Done (Worth z all.0) ∷ [])) z_is)
