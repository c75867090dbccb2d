-- Peeling a bin off a balanced flow: the walk is a path of carrying arcs, and what it takes off leaves a balanced flow
-- with fewer carrying arcs.
use Rattle.std.proofs.Common.{◌≡◌, ℕ, zero, suc, ◌+◌, ◌-◌, ◌*◌, ◌<◌, ◌≤◌, min, true, false, cond, eqb, ltb, ◌≢◌, ◌⊎◌, List, [], ◌∷◌, length, set, Some, None, sym, refl, ap, ◌∙◌, subst, inl, inr, ⊎_elim, arith, length-set, get_or-set_other}
use Rattle.std.proofs.lemmas.List.{get_or-set_same, set_past}
use Rattle.std.proofs.lemmas.List.Sums.{sum_by-set}
use Rattle.std.proofs.lemmas.Bool.{cases_eq, cases_lt, cases_Bool, eq-eqb, ltb-true, ltb-false, lt-ltb, le-ltb}
use Rattle.graph.specs.declared.Row.{Row}
use Rattle.flow.proofs.Shape.{Forward, option_cases}
use Rattle.graph.specs.Graph.{at, pass_arc, take_arc, tail, head, Path, stop, pass, take, spelled, bumped}
use Rattle.flow.specs.Arcs.{is, takes_item}
use Rattle.flow.specs.Flow.{on, inflow, outflow, value, copies_of, carrying, Balanced, OnArcs, pull, least, trail, along}
use Rattle.packing.specs.Problem.{entry}
use Rattle.flow.proofs.Sums.{one_if, on_le_carried}
use Rattle.flow.proofs.Linear.{Linear, weight, Within, Rising, Carry, carry_set, pull_linear, inflow_linear, outflow_linear, copies_linear}
use Rattle.flow.proofs.Paths.{head_pass, head_take, takes_pass, takes_take, path_within, path_rising, path_source, source_takes}
use Rattle.flow.proofs.Place.{Apart, path_apart, path_inner}

module _ (g : List Row) (f : List ℕ) (d n : ℕ) where
  pub trail_take : (k : ℕ) → ltb 0 (on f (take_arc n)) ≡ true → (at g n).take ≡ Some k → trail (suc d) g f n ≡ take_arc n ∷ trail d g f k
  trail_take k t e =
      ap (λ b. cond b (along (take_arc n) (at g n).take (trail d g f)) (along (pass_arc n) (at g n).pass (trail d g f))) t
      ∙ ap (λ o. along (take_arc n) o (trail d g f)) e

  pub trail_pass : ltb 0 (on f (take_arc n)) ≡ false → trail (suc d) g f n ≡ along (pass_arc n) (at g n).pass (trail d g f)
  trail_pass t = ap (λ b. cond b (along (take_arc n) (at g n).take (trail d g f)) (along (pass_arc n) (at g n).pass (trail d g f))) t

-- from n a path that carries flow all the way
abbrev CarriedPath : List Row → List ℕ → ℕ → List ℕ → Type 0
CarriedPath g f n arcs = Path g n arcs (spelled arcs) × Carry f 1 arcs

module _ {m : ℕ} {g : List Row} (s : Forward m g) (f : List ℕ) (on_arcs : OnArcs g f) where
  path_take : {n k : ℕ} {arcs counts : List ℕ} → (at g n).take ≡ Some k → suc k < length g → Path g k arcs counts → Path g n (take_arc n ∷ arcs) (bumped counts)
  path_take e h (stop t) = absurd (omega arith)
  path_take e h (pass i p) = take e (pass i p)
  path_take e h (take i p) = take e (take i p)

  -- an arc that carries flow is there
  pub carrying_there : (a : ℕ) → 0 < on f a → (k : ℕ) × (head g a ≡ Some k)
  carrying_there a h = go (option_cases (head g a))
    where
      go : (head g a ≡ None) ⊎ ((k : ℕ) × (head g a ≡ Some k)) → (k : ℕ) × (head g a ≡ Some k)
      go (inl e) = absurd (omega (arith, on_arcs.absent a e))
      go (inr k) = k

  module _ (bal : Balanced g f) where
    -- where an arc that carries flow leads, flow goes on, or it is the target
    pub onward : (a k : ℕ) → a < 2 * length g → 0 < on f a → head g a ≡ Some k → 0 < k → k < length g → (suc k ≡ length g) ⊎ (0 < outflow f k)
    onward a k below h e inside low = go (cases_eq (suc k) (length g))
      where
        go : (suc k ≡ length g) ⊎ (suc k ≡ length g → ⊥) → (suc k ≡ length g) ⊎ (0 < outflow f k)
        go (inl t) = inl t
        go (inr nt) =
            let leads : is (head g a) k ≡ true = ap (λ o. is o k) e ∙ eq-eqb k k refl in
            let part : on f a ≤ inflow g f k = on_le_carried f (λ a. is (head g a) k) a (2 * length g) below leads in
            let even : inflow g f k ≡ outflow f k = bal k inside (omega arith) in
            inr (omega (arith, part, even))

    spelled_take : (n : ℕ) (arcs : List ℕ) → spelled (take_arc n ∷ arcs) ≡ bumped (spelled arcs)
    spelled_take n arcs = ap (λ b. cond b (bumped (spelled arcs)) (0 ∷ spelled arcs)) (takes_take n)

    spelled_pass : (n : ℕ) (arcs : List ℕ) → spelled (pass_arc n ∷ arcs) ≡ 0 ∷ spelled arcs
    spelled_pass n arcs = ap (λ b. cond b (bumped (spelled arcs)) (0 ∷ spelled arcs)) (takes_pass n)

    by_take_on : (n k : ℕ) (arcs : List ℕ) → suc n < length g → (at g n).take ≡ Some k → 0 < on f (take_arc n) → CarriedPath g f k arcs → CarriedPath g f n (take_arc n ∷ arcs)
    by_take_on n k arcs inner e h c =
        let to : (n < k) × (k < length g) × ((at g k).item ≡ (at g n).item) × ((at g k).copies ≡ suc (at g n).copies) = s.take_to n k e in
        let item : (at g n).item ≤ m = (s.inner n inner).1 in
        let not_last : suc k ≡ length g → ⊥ = λ t. omega (arith, to, item, (s.target k t).0) in
        let below : suc k < length g = omega (arith, to, not_last) in
        (subst (λ c. Path g n (take_arc n ∷ arcs) c) (sym (spelled_take n arcs)) (path_take e below c.0), (h, c.1))

    by_pass_on : (n k : ℕ) (arcs : List ℕ) → (at g n).pass ≡ Some k → 0 < on f (pass_arc n) → CarriedPath g f k arcs → CarriedPath g f n (pass_arc n ∷ arcs)
    by_pass_on n k arcs e h c = (subst (λ c. Path g n (pass_arc n ∷ arcs) c) (sym (spelled_pass n arcs)) (pass e c.0), (h, c.1))

    -- the trail from a node with flow is a path to the target
    pub trail_path : (d n : ℕ) → n < length g → length g ≤ suc (n + d) → (suc n ≡ length g) ⊎ (0 < outflow f n) → CarriedPath g f n (trail d g f n)
    trail_path zero n low enough flows = (stop (omega arith), tt)
    trail_path (suc d) n low enough flows = go (trail_path d) (cases_Bool (ltb 0 (on f (take_arc n)))) flows
      where
        Further : Type 0
        Further = (k : ℕ) → k < length g → length g ≤ suc (k + d) → (suc k ≡ length g) ⊎ (0 < outflow f k) → CarriedPath g f k (trail d g f k)

        Goal : Type 0
        Goal = CarriedPath g f n (trail (suc d) g f n)

        by_take_arc : Further → ltb 0 (on f (take_arc n)) ≡ true → (k : ℕ) × (head g (take_arc n) ≡ Some k) → Goal
        by_take_arc further t there =
            let k : ℕ = there.0 in
            let e : (at g n).take ≡ Some k = sym (head_take g n) ∙ there.1 in
            let h : 0 < on f (take_arc n) = ltb-true 0 (on f (take_arc n)) t in
            let up : n < k = (s.take_to n k e).0 in
            let below : k < length g = (s.take_to n k e).1 in
            let rest : CarriedPath g f k (trail d g f k) = further k below (omega arith) (onward (take_arc n) k (omega arith) h there.1 (omega arith) below) in
            subst (λ w. CarriedPath g f n w) (sym (trail_take g f d n k t e)) (by_take_on n k (trail d g f k) (omega arith) e h rest)

        by_pass_arc : Further → ltb 0 (on f (take_arc n)) ≡ false → 0 < on f (pass_arc n) → (k : ℕ) × (head g (pass_arc n) ≡ Some k) → Goal
        by_pass_arc further t h there =
            let k : ℕ = there.0 in
            let e : (at g n).pass ≡ Some k = sym (head_pass g n) ∙ there.1 in
            let up : n < k = (s.pass_to n k e).0 in
            let below : k < length g = (s.pass_to n k e).1 in
            let rest : CarriedPath g f k (trail d g f k) = further k below (omega arith) (onward (pass_arc n) k (omega arith) h there.1 (omega arith) below) in
            subst (λ w. CarriedPath g f n w) (sym (trail_pass g f d n t ∙ ap (λ o. along (pass_arc n) o (trail d g f)) e)) (by_pass_on n k (trail d g f k) e h rest)

        go : Further → (ltb 0 (on f (take_arc n)) ≡ true) ⊎ (ltb 0 (on f (take_arc n)) ≡ false) → (suc n ≡ length g) ⊎ (0 < outflow f n) → Goal
        go further (inl t) w = by_take_arc further t (carrying_there (take_arc n) (ltb-true 0 (on f (take_arc n)) t))
        go further (inr t) (inl e) =
            subst (λ w. CarriedPath g f n w) (sym (trail_pass g f d n t ∙ ap (λ o. along (pass_arc n) o (trail d g f)) (s.target n e).3)) (stop e, tt)
        go further (inr t) (inr h) =
            let none : on f (take_arc n) ≤ 0 = ltb-false 0 (on f (take_arc n)) t in
            let some : 0 < on f (pass_arc n) = omega arith in
            by_pass_arc further t some (carrying_there (pass_arc n) some)

-- The least flow of some arcs: each carries it, and one carries no more.
pub least_carry : (f arcs : List ℕ) → Carry f (least f arcs) arcs
least_carry f [] = tt
least_carry f (a ∷ []) = (omega arith, tt)
least_carry f (a ∷ (b ∷ arcs)) = (omega arith, carry_weaker (b ∷ arcs) (least f (b ∷ arcs)) (min (on f a) (least f (b ∷ arcs))) (omega arith) (least_carry f (b ∷ arcs)))
  where
    carry_weaker : (arcs : List ℕ) (t u : ℕ) → u ≤ t → Carry f t arcs → Carry f u arcs
    carry_weaker [] t u h c = tt
    carry_weaker (x ∷ xs) t u h c = (omega (arith, c.0), carry_weaker xs t u h c.1)

pub least_pos : (f : List ℕ) (a : ℕ) (arcs : List ℕ) → Carry f 1 (a ∷ arcs) → 1 ≤ least f (a ∷ arcs)
least_pos f a [] c = c.0
least_pos f a (b ∷ arcs) c = omega (arith, c.0, least_pos f b arcs c.1)

-- one of these arcs carries at most t
abbrev Hits : List ℕ → ℕ → List ℕ → Type 0
Hits f t [] = ⊥
Hits f t (a ∷ arcs) = (on f a ≤ t) ⊎ Hits f t arcs

hits_more : (f arcs : List ℕ) (t u : ℕ) → t ≤ u → Hits f t arcs → Hits f u arcs
hits_more f [] t u h i = elim i [ ]
hits_more f (a ∷ arcs) t u h (inl e) = inl (omega arith)
hits_more f (a ∷ arcs) t u h (inr i) = inr (hits_more f arcs t u h i)

hits_least : (f : List ℕ) (a : ℕ) (arcs : List ℕ) → Hits f (least f (a ∷ arcs)) (a ∷ arcs)
hits_least f a [] = inl (omega arith)
hits_least f a (b ∷ arcs) = go (hits_least f b arcs) (cases_lt (on f a) (least f (b ∷ arcs)))
  where
    go : Hits f (least f (b ∷ arcs)) (b ∷ arcs) → (on f a < least f (b ∷ arcs)) ⊎ (least f (b ∷ arcs) ≤ on f a) → Hits f (least f (a ∷ (b ∷ arcs))) (a ∷ (b ∷ arcs))
    go ih (inl h) = inl (omega arith)
    go ih (inr h) = inr (hits_more f (b ∷ arcs) (least f (b ∷ arcs)) (least f (a ∷ (b ∷ arcs))) (omega arith) ih)

hits_set : (arcs f : List ℕ) (t a x m : ℕ) → a < m → Rising m arcs → Hits f t arcs → Hits (set f a x) t arcs
hits_set [] f t a x m h r i = elim i [ ]
hits_set (b ∷ arcs) f t a x m h r (inl e) =
    let same : on (set f a x) b ≡ on f b = get_or-set_other f a b x 0 (omega (arith, r.0)) in
    inl (omega (arith, e, same))
hits_set (b ∷ arcs) f t a x m h r (inr i) = inr (hits_set arcs f t a x (suc b) (omega (arith, r.0)) r.1 i)

-- 1 for a cell with flow
abbrev counts_as : ℕ → ℕ
counts_as x = cond (ltb 0 x) 1 0

counts_zero : (x : ℕ) → x ≤ 0 → counts_as x ≡ 0
counts_zero x h = ap (λ b. cond b 1 0) (le-ltb 0 x h)

counts_one : (x : ℕ) → 0 < x → counts_as x ≡ 1
counts_one x h = ap (λ b. cond b 1 0) (lt-ltb 0 x h)

counts_less : (x t : ℕ) → counts_as (x - t) ≤ counts_as x
counts_less x t = go (cases_lt 0 (x - t))
  where
    go : (0 < x - t) ⊎ (x - t ≤ 0) → counts_as (x - t) ≤ counts_as x
    go (inl h) = omega (arith, counts_one (x - t) h, counts_one x (omega arith))
    go (inr h) = omega (arith, counts_zero (x - t) h)

carrying_set : (f : List ℕ) (a x : ℕ) → a < length f → carrying (set f a x) + counts_as (on f a) ≡ carrying f + counts_as x
carrying_set f a x h = sum_by-set counts_as f a x 0 h

within_set : (arcs f : List ℕ) (a x : ℕ) → Within (length f) arcs → Within (length (set f a x)) arcs
within_set arcs f a x h = subst (λ k. Within k arcs) (sym (length-set f a x)) h

pull_carrying : (arcs f : List ℕ) (t : ℕ) → Within (length f) arcs → carrying (pull f arcs t) ≤ carrying f
pull_carrying [] f t h = omega arith
pull_carrying (a ∷ arcs) f t h =
    let f' : List ℕ = set f a (on f a - t) in
    let rest : carrying (pull f' arcs t) ≤ carrying f' = pull_carrying arcs f' t (within_set arcs f a (on f a - t) h.1) in
    omega (arith, rest, carrying_set f a (on f a - t) h.0, counts_less (on f a) t)

-- where an arc is emptied, fewer carry
pull_fewer : (arcs f : List ℕ) (t m : ℕ) → Within (length f) arcs → Rising m arcs → Carry f 1 arcs → Hits f t arcs → carrying (pull f arcs t) < carrying f
pull_fewer [] f t m h r c i = elim i [ ]
pull_fewer (a ∷ arcs) f t m h r c (inl e) =
    let f' : List ℕ = set f a (on f a - t) in
    let rest : carrying (pull f' arcs t) ≤ carrying f' = pull_carrying arcs f' t (within_set arcs f a (on f a - t) h.1) in
    omega (arith, rest, carrying_set f a (on f a - t) h.0, counts_zero (on f a - t) (omega arith), counts_one (on f a) c.0)
pull_fewer (a ∷ arcs) f t m h r c (inr i) =
    let f' : List ℕ = set f a (on f a - t) in
    let rest : carrying (pull f' arcs t) < carrying f' =
    pull_fewer arcs f' t (suc a) (within_set arcs f a (on f a - t) h.1) r.1 (carry_set arcs f 1 a (on f a - t) (suc a) (omega arith) r.1 c.1) (hits_set arcs f t a (on f a - t) (suc a) (omega arith) r.1 i) in
    omega (arith, rest, carrying_set f a (on f a - t) h.0, counts_less (on f a) t)

pub length_pull : (arcs f : List ℕ) (t : ℕ) → length (pull f arcs t) ≡ length f
length_pull [] f t = refl
length_pull (a ∷ arcs) f t = length_pull arcs (set f a (on f a - t)) t ∙ length-set f a (on f a - t)

pub pull_other : (arcs f : List ℕ) (t a : ℕ) → Apart a arcs → on (pull f arcs t) a ≡ on f a
pull_other [] f t a h = refl
pull_other (b ∷ arcs) f t a h = pull_other arcs (set f b (on f b - t)) t a h.1 ∙ get_or-set_other f b a (on f b - t) 0 h.0

-- What one peel does: the arcs walked are a path, its least flow is positive, and the flow left is balanced,
-- with its value, its copies and its carrying arcs.
pub record Peeled (g : List Row) (f arcs : List ℕ) (t : ℕ) : Type 0 where
  pub is_path : Path g 0 arcs (spelled arcs)
  pub some : 1 ≤ t
  pub keeps : OnArcs g (pull f arcs t)
  pub balanced : Balanced g (pull f arcs t)
  pub value_falls : value (pull f arcs t) + t ≡ value f
  pub copies_fall : (i : ℕ) → 1 ≤ i → copies_of g (pull f arcs t) i + t * entry (spelled arcs) i ≡ copies_of g f i
  pub fewer : carrying (pull f arcs t) < carrying f

module _ {m : ℕ} {g : List Row} (s : Forward m g) (f : List ℕ) (on_arcs : OnArcs g f) where
  -- a path of carrying arcs from the source, peeled by its least flow
  peel_path : (arcs : List ℕ) → Balanced g f → CarriedPath g f 0 arcs → Peeled g f arcs (least f arcs)
  peel_path [] bal c = absurd (no_arcs c.0)
    where
      no_arcs : {counts : List ℕ} → Path g 0 [] counts → ⊥
      no_arcs (stop e) = omega (arith, s.two)
  peel_path (a ∷ arcs) bal c = record {
    is_path = p;
    some = least_pos f a arcs c.1;
    keeps = record {
      cells = length_pull all f t ∙ on_arcs.cells;
      absent = λ b none. pull_other all f t b (path_apart b none p) ∙ on_arcs.absent b none;
    };
    balanced = λ v inside below.
        let even : t * weight (λ b. one_if (eqb (tail b) v)) all ≡ t * weight (λ b. one_if (is (head g b) v)) all = ap (λ x. t * x) (path_inner s v inside below p) in
        omega (arith, even, bal v inside below, drop (λ f. inflow g f v) (λ b. one_if (is (head g b) v)) (inflow_linear g v), drop (λ f. outflow f v) (λ b. one_if (eqb (tail b) v)) (outflow_linear (2 * length g) v));
    value_falls =
        let once : t * weight (λ b. one_if (eqb (tail b) 0)) all ≡ t * 1 = ap (λ x. t * x) (path_source s p) in
        omega (arith, once, drop (λ f. outflow f 0) (λ b. one_if (eqb (tail b) 0)) (outflow_linear (2 * length g) 0));
    copies_fall = copies;
    fewer = pull_fewer all f t 0 (subst (λ k. Within k all) (sym on_arcs.cells) (path_within s p)) (path_rising s p) c.1 (hits_least f a arcs);
  }
    where
      all : List ℕ
      all = a ∷ arcs

      t : ℕ
      t = least f all

      p : Path g 0 all (spelled all)
      p = c.0

      drop : (Φ : List ℕ → ℕ) (w : ℕ → ℕ) → Linear (2 * length g) Φ w → Φ (pull f all t) + t * weight w all ≡ Φ f
      drop Φ w lin = pull_linear (2 * length g) Φ w lin all f t 0 on_arcs.cells (path_within s p) (path_rising s p) (least_carry f all)

      copies : (i : ℕ) → 1 ≤ i → copies_of g (pull f all t) i + t * entry (spelled all) i ≡ copies_of g f i
      copies zero h = absurd (omega arith)
      copies (suc k) h =
          ap (λ x. copies_of g (pull f all t) (suc k) + t * x) (sym (source_takes s k p))
          ∙ drop (λ f. copies_of g f (suc k)) (λ b. one_if (takes_item g (suc k) b)) (copies_linear g (suc k))

  -- peel on a balanced flow with value left
  pub peeled : Balanced g f → 0 < value f → Peeled g f (trail (length g) g f 0) (least f (trail (length g) g f 0))
  peeled bal h = peel_path (trail (length g) g f 0) bal (trail_path s f on_arcs bal (length g) 0 (omega (arith, s.two)) (omega arith) (inr h))

-- no arc gains
pub pull_less : (arcs f : List ℕ) (t b : ℕ) → on (pull f arcs t) b ≤ on f b
pull_less [] f t b = omega arith
pull_less (a ∷ arcs) f t b = omega (arith, pull_less arcs (set f a (on f a - t)) t b, one)
  where
    one : on (set f a (on f a - t)) b ≤ on f b
    one = ⊎_elim (λ (e : b ≡ a). rw e (⊎_elim (λ (lt : a < length f). rw get_or-set_same (omega arith)) (λ (past : length f ≤ a). rw set_past (omega arith)) (cases_lt a (length f)))) (λ (ne : b ≢ a). rw get_or-set_other (omega arith)) (cases_eq b a)
