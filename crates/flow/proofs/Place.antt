-- Placing a path: balance stays, the value grows by the times, the copies by times × count.
use Rattle.std.proofs.Common.{◌≡◌, ℕ, zero, suc, ◌+◌, ◌*◌, ◌<◌, ◌≤◌, eqb, ◌⊎◌, List, [], ◌∷◌, length, set, None, sym, refl, ap, ◌∙◌, subst, inl, inr, arith, length-set, get_or-set_other, get_or-set_same}
use Rattle.std.specs.List.{AllByRecursion}
use Rattle.std.proofs.lemmas.Bool.{cases_eq, ne_eqb}
use Rattle.graph.specs.declared.Row.{Row}
use Rattle.flow.proofs.Shape.{not_none}
use Rattle.flow.proofs.Shape.{Forward}
use Rattle.graph.specs.Graph.{pass_arc, take_arc, tail, head, Path, stop, pass, take}
use Rattle.flow.specs.Arcs.{is, takes_item}
use Rattle.flow.specs.Flow.{on, inflow, outflow, value, copies_of, Balanced, OnArcs, push}
use Rattle.packing.specs.Problem.{entry}
use Rattle.flow.proofs.Sums.{one_if}
use Rattle.flow.proofs.Linear.{weight, Within, Rising, push_linear, inflow_linear, outflow_linear, copies_linear}
use Rattle.flow.proofs.Paths.{head_pass, head_take, path_within, path_rising, path_balance, path_source, source_takes}

abbrev pub Apart : ℕ → List ℕ → Type 0
Apart a arcs = AllByRecursion (λ b. a ≡ b → ⊥) arcs

pub length_push : (arcs f : List ℕ) (t : ℕ) → length (push f arcs t) ≡ length f
length_push [] f t = refl
length_push (a ∷ arcs) f t = length_push arcs (set f a (on f a + t)) t ∙ length-set f a (on f a + t)

pub push_other : (arcs f : List ℕ) (t a : ℕ) → Apart a arcs → on (push f arcs t) a ≡ on f a
push_other [] f t a h = refl
push_other (b ∷ arcs) f t a h = push_other arcs (set f b (on f b + t)) t a h.1 ∙ get_or-set_other f b a (on f b + t) 0 h.0

-- an arc that is not there is on no path
pub path_apart : {g : List Row} (a : ℕ) → head g a ≡ None → {n : ℕ} {arcs counts : List ℕ} → Path g n arcs counts → Apart a arcs
path_apart a none (stop e) = tt
path_apart {g} a none (pass {n = n} {t = k} e p) =
    (λ i. not_none (head g (pass_arc n)) k (head_pass g n ∙ e) (ap (head g) (sym i) ∙ none), path_apart a none p)
path_apart {g} a none (take {n = n} {t = k} e p) =
    (λ i. not_none (head g (take_arc n)) k (head_take g n ∙ e) (ap (head g) (sym i) ∙ none), path_apart a none p)

pub rising_apart : (arcs : List ℕ) (m a : ℕ) → a < m → Rising m arcs → Apart a arcs
rising_apart [] m a h r = tt
rising_apart (b ∷ arcs) m a h r = (λ e. omega (arith, r.0), rising_apart arcs (suc b) a (omega (arith, r.0)) r.1)

-- no arc gains more than the times
pub push_most : (arcs f : List ℕ) (t m b : ℕ) → Within (length f) arcs → Rising m arcs → on (push f arcs t) b ≤ on f b + t
push_most [] f t m b h r = omega arith
push_most (a ∷ arcs) f t m b h r = go (push_most arcs f' t (suc a) b (subst (λ k. Within k arcs) (sym (length-set f a (on f a + t))) h.1) r.1) (cases_eq b a)
  where
    f' : List ℕ
    f' = set f a (on f a + t)

    go : on (push f' arcs t) b ≤ on f' b + t → (b ≡ a) ⊎ (b ≡ a → ⊥) → on (push f' arcs t) b ≤ on f b + t
    go ih (inl e) =
        let rest : on (push f' arcs t) b ≡ on f' b = push_other arcs f' t b (rising_apart arcs (suc a) b (omega arith) r.1) in
        let read : on f' b ≡ on f b + t = ap (on f') e ∙ get_or-set_same f a (on f a + t) 0 h.0 ∙ ap (λ k. on f k + t) (sym e) in
        omega (arith, rest, read)
    go ih (inr ne) =
        let same : on f' b ≡ on f b = get_or-set_other f a b (on f a + t) 0 ne in
        omega (arith, ih, same)

module _ {m : ℕ} {g : List Row} (s : Forward m g) where
  -- a path from the source leaves an inner node as often as it enters it
  pub path_inner : (v : ℕ) {arcs counts : List ℕ} → 0 < v → suc v < length g → Path g 0 arcs counts →
      weight (λ a. one_if (eqb (tail a) v)) arcs ≡ weight (λ a. one_if (is (head g a) v)) arcs
  path_inner v inside below p =
      let first : one_if (eqb 0 v) ≡ 0 = ap one_if (ne_eqb 0 v (λ e. omega arith)) in
      let last : one_if (eqb (suc v) (length g)) ≡ 0 = ap one_if (ne_eqb (suc v) (length g) (λ e. omega arith)) in
      omega (arith, first, last, path_balance s v p)

  module _ (f : List ℕ) (on_arcs : OnArcs g f) {arcs counts : List ℕ} (p : Path g 0 arcs counts) (t : ℕ) where
    pub push_on_arcs : OnArcs g (push f arcs t)
    push_on_arcs = record {
      cells = length_push arcs f t ∙ on_arcs.cells;
      absent = λ a none. push_other arcs f t a (path_apart a none p) ∙ on_arcs.absent a none;
    }

    pub push_value : value (push f arcs t) ≡ value f + t
    push_value =
        let grows : value (push f arcs t) ≡ value f + t * weight (λ a. one_if (eqb (tail a) 0)) arcs =
        push_linear (2 * length g) (λ f. outflow f 0) (λ a. one_if (eqb (tail a) 0)) (outflow_linear (2 * length g) 0) arcs f t on_arcs.cells (path_within s p) in
        let once : t * weight (λ a. one_if (eqb (tail a) 0)) arcs ≡ t * 1 = ap (λ x. t * x) (path_source s p) in
        omega (arith, grows, once)

    pub push_copies : (i : ℕ) → 1 ≤ i → copies_of g (push f arcs t) i ≡ copies_of g f i + t * entry counts i
    push_copies zero h = absurd (omega arith)
    push_copies (suc k) h =
        push_linear (2 * length g) (λ f. copies_of g f (suc k)) (λ a. one_if (takes_item g (suc k) a)) (copies_linear g (suc k)) arcs f t on_arcs.cells (path_within s p)
        ∙ ap (λ x. copies_of g f (suc k) + t * x) (source_takes s k p)

    pub push_balanced : Balanced g f → Balanced g (push f arcs t)
    push_balanced bal v inside below =
        let into : inflow g (push f arcs t) v ≡ inflow g f v + t * weight (λ a. one_if (is (head g a) v)) arcs =
        push_linear (2 * length g) (λ f. inflow g f v) (λ a. one_if (is (head g a) v)) (inflow_linear g v) arcs f t on_arcs.cells (path_within s p) in
        let out : outflow (push f arcs t) v ≡ outflow f v + t * weight (λ a. one_if (eqb (tail a) v)) arcs =
        push_linear (2 * length g) (λ f. outflow f v) (λ a. one_if (eqb (tail a) v)) (outflow_linear (2 * length g) v) arcs f t on_arcs.cells (path_within s p) in
        into ∙ ap (λ x. x + t * weight (λ a. one_if (is (head g a) v)) arcs) (bal v inside below) ∙ ap (λ x. outflow f v + t * x) (sym (path_inner v inside below p)) ∙ sym out

    pub push_bound : (b : ℕ) → on (push f arcs t) b ≤ on f b + t
    push_bound b = push_most arcs f t 0 b (subst (λ k. Within k arcs) (sym on_arcs.cells) (path_within s p)) (path_rising s p)
