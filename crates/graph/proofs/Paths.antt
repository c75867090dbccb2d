-- Paths, by the function that finds them: a path is fixed by its counts, and its counts by its arcs.
use Rattle.std.proofs.Common.{◌≡◌, ℕ, zero, suc, ◌+◌, ◌*◌, ◌%◌, Bool, true, false, cond, eqb, List, [], ◌∷◌, length, is_some, Some, None, Option, sym, refl, ap, ◌∙◌, subst, arith}
use Rattle.std.specs.Option.{option_map}
use Rattle.std.proofs.lemmas.Bool.{false≢true, eq-eqb, ne_eqb, eqb-true}
use Rattle.packing.proofs.Options.{some≢none, unsome}
use Rattle.graph.specs.declared.Row.{Row}
use Rattle.graph.specs.Graph.{at, Path, stop, pass, take, onward, walk_item, walk, spelled}

abbrev pub given : {X : Type 0} → Option X → (X → Bool) → Bool
given None f = false
given (Some t) f = f t

-- is there a path from node n that spells the counts?
abbrev pub accepts_item : List Row → ℕ → (ℕ → Bool) → ℕ → Bool
accepts_item g zero rest n = given (at g n).pass rest
accepts_item g (suc c) rest n = given (at g n).take (accepts_item g c rest)

abbrev pub accepts : List Row → List ℕ → ℕ → Bool
accepts g [] n = eqb (suc n) (length g)
accepts g (c ∷ counts) n = accepts_item g c (accepts g counts) n

is_some_mapped : {X Y : Type 0} (f : X → Y) (o : Option X) → is_some (option_map f o) ≡ is_some o
is_some_mapped f None = refl
is_some_mapped f (Some x) = refl

is_some_onward : {Y : Type 0} (o : Option ℕ) (f : ℕ → Option Y) (h : ℕ → Bool) → ((t : ℕ) → is_some (f t) ≡ h t) → is_some (onward o f) ≡ given o h
is_some_onward None f h e = refl
is_some_onward (Some t) f h e = e t

walk_item_accepts : (g : List Row) (c : ℕ) (rest : ℕ → Option (List ℕ)) (test : ℕ → Bool) → ((n : ℕ) → is_some (rest n) ≡ test n) → (n : ℕ) → is_some (walk_item g c rest n) ≡ accepts_item g c test n
walk_item_accepts g zero rest test e n = is_some_onward (at g n).pass _ test (λ t. is_some_mapped _ (rest t) ∙ e t)
walk_item_accepts g (suc c) rest test e n = is_some_onward (at g n).take _ (accepts_item g c test) (λ t. is_some_mapped _ (walk_item g c rest t) ∙ walk_item_accepts g c rest test e t)

pub walk_accepts : (g : List Row) (counts : List ℕ) (n : ℕ) → is_some (walk g counts n) ≡ accepts g counts n
walk_accepts g [] n = go (eqb (suc n) (length g))
  where
    go : (b : Bool) → is_some {T = List ℕ} (cond b (Some []) None) ≡ b
    go true = refl
    go false = refl
walk_accepts g (c ∷ counts) n = walk_item_accepts g c (walk g counts) (accepts g counts) (walk_accepts g counts) n

pub path_walk : {g : List Row} {n : ℕ} {arcs counts : List ℕ} → Path g n arcs counts → walk g counts n ≡ Some arcs
path_walk {g} (stop {n} e) = rw (eq-eqb (suc n) (length g) e) refl
path_walk (pass e p) = rw (e, path_walk p) refl
path_walk (take e p) = rw (e, path_walk p) refl

-- a step of the search, undone
step_path : (o : Option ℕ) (f : ℕ → Option (List ℕ)) (a : ℕ) (arcs : List ℕ) → onward o (λ t. option_map (λ l. a ∷ l) (f t)) ≡ Some arcs
    → (t : ℕ) × (l : List ℕ) × (o ≡ Some t) × (f t ≡ Some l) × (a ∷ l ≡ arcs)
step_path None f a arcs e = absurd (some≢none arcs (sym e))
step_path (Some t) f a arcs e = go (f t) refl e
  where
    go : (r : Option (List ℕ)) → f t ≡ r → option_map (λ l. a ∷ l) r ≡ Some arcs → (u : ℕ) × (l : List ℕ) × (Some t ≡ Some u) × (f u ≡ Some l) × (a ∷ l ≡ arcs)
    go None h d = absurd (some≢none arcs (sym d))
    go (Some l) h d = (t, l, refl, h, unsome (a ∷ l) arcs d)

walk_item_path : (g : List Row) (c : ℕ) (counts : List ℕ) → ((n : ℕ) (arcs : List ℕ) → walk g counts n ≡ Some arcs → Path g n arcs counts)
    → (n : ℕ) (arcs : List ℕ) → walk_item g c (walk g counts) n ≡ Some arcs → Path g n arcs (c ∷ counts)
walk_item_path g zero counts rest n arcs e =
    let s = step_path (at g n).pass (walk g counts) (2 * n) arcs e in
    subst (λ (l : List ℕ). Path g n l (0 ∷ counts)) s.4 (pass s.2 (rest s.0 s.1 s.3))
walk_item_path g (suc c) counts rest n arcs e =
    let s = step_path (at g n).take (walk_item g c (walk g counts)) (2 * n + 1) arcs e in
    subst (λ (l : List ℕ). Path g n l (suc c ∷ counts)) s.4 (take s.2 (walk_item_path g c counts rest s.0 s.1 s.3))

pub walk_path : (g : List Row) (counts : List ℕ) (n : ℕ) (arcs : List ℕ) → walk g counts n ≡ Some arcs → Path g n arcs counts
walk_path g [] n arcs e = go (eqb (suc n) (length g)) refl e
  where
    go : (b : Bool) → eqb (suc n) (length g) ≡ b → cond b (Some []) None ≡ Some arcs → Path g n arcs []
    go true h d = subst (λ (l : List ℕ). Path g n l []) (unsome [] arcs d) (stop (eqb-true (suc n) (length g) h))
    go false h d = absurd (some≢none arcs (sym d))
walk_path g (c ∷ counts) n arcs e = walk_item_path g c counts (walk_path g counts) n arcs e

pub path_accepts : {g : List Row} {n : ℕ} {arcs counts : List ℕ} → Path g n arcs counts → accepts g counts n ≡ true
path_accepts {g} {n} {arcs} {counts} p = sym (walk_accepts g counts n) ∙ ap is_some (path_walk p)

pub accepts_path : (g : List Row) (counts : List ℕ) (n : ℕ) → accepts g counts n ≡ true → (arcs : List ℕ) × Path g n arcs counts
accepts_path g counts n h = go (walk g counts n) refl (walk_accepts g counts n ∙ h)
  where
    go : (r : Option (List ℕ)) → walk g counts n ≡ r → is_some (walk g counts n) ≡ true → (arcs : List ℕ) × Path g n arcs counts
    go None e s = absurd (false≢true (rw e at s))
    go (Some arcs) e s = (arcs, walk_path g counts n arcs e)

-- a path is fixed by its counts
pub unique_path : {g : List Row} {n : ℕ} {arcs others counts : List ℕ} → Path g n arcs counts → Path g n others counts → others ≡ arcs
unique_path {g} {n} {arcs} {others} p q = unsome others arcs (sym (path_walk q) ∙ path_walk p)

-- and its counts by its arcs
pub path_spells : {g : List Row} {n : ℕ} {arcs counts : List ℕ} → Path g n arcs counts → spelled arcs ≡ counts
path_spells (stop e) = refl
path_spells (pass {n} e p) = rw (ne_eqb (2 * n % 2) 1 (omega arith), path_spells p) refl
path_spells (take {n} e p) = rw (eq-eqb ((2 * n + 1) % 2) 1 (omega arith), path_spells p) refl
