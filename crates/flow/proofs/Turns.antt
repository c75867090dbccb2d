-- The steps of the walks of a peel.
use Rattle.std.proofs.Common.{◌≡◌, ℕ, zero, suc, ◌+◌, ◌-◌, ◌*◌, ◌/◌, ◌<◌, ◌≤◌, min, Bool, true, false, cond, ltb, ◌⊎◌, List, [], ◌∷◌, ◌++◌, length, take, set, Some, None, sym, refl, ap, ◌∙◌, subst, inl, inr, ⊎_elim, arith, length-set}
use Rattle.std.proofs.lemmas.List.{get_or-set_other, take_more_set, append_assoc, append-nil, take_all}
use Rattle.std.proofs.lemmas.Bool.{cases_Bool, cases_eq, cond-true, cond-false, ltb-true, ltb-false}
use Rattle.graph.specs.declared.Row.{Row}
use Rattle.graph.specs.Graph.{at, pass_arc, take_arc, takes, head, spelled, bumped}
use Rattle.flow.specs.Flow.{on, outflow, trail, along, least, pull}
use Rattle.flow.specs.Job.{limit}
use Rattle.flow.specs.Walks.{Flowing, noted, carrier}
use Rattle.flow.proofs.Shape.{Forward, forward, not_none}
use Rattle.flow.proofs.Inflow.{upward}
use Rattle.flow.proofs.Linear.{Carry}
use Rattle.flow.proofs.Paths.{head_pass, head_take, takes_pass, takes_take}
use Rattle.flow.proofs.Peel.{carrying_there, onward, trail_take, trail_pass, least_carry, peeled}

-- the trail stands at node n, with flow to follow, and d steps suffice to the target
pub record At (g : List Row) (f : List ℕ) (d n : ℕ) : Type 0 where
  pub low : n < length g
  pub enough : length g ≤ suc (n + d)
  pub flows : (suc n ≡ length g) ⊎ (0 < outflow f n)

-- the arc leads on to k, by a take arc of the item at hand or past it
pub record Turn (g : List Row) (f : List ℕ) (d n a k : ℕ) : Type 0 where
  pub next : At g f d k
  pub up : n < k
  pub tail_is : a / 2 ≡ n
  pub station : ((takes a ≡ true) × ((at g k).item ≡ (at g n).item) × ((at g k).copies ≡ suc (at g n).copies)) ⊎ ((takes a ≡ false) × ((at g k).item ≡ suc (at g n).item) × ((at g k).copies ≡ 0))
  pub carries : 0 < on f a
  pub goes : trail (suc d) g f n ≡ a ∷ trail d g f k

-- arcs lead on
pub shape : {m : ℕ} {g : List Row} {f : List ℕ} → Flowing m g f → Forward m g
shape h = forward h.some_item h.layers

trail_end : {m : ℕ} (g : List Row) (f : List ℕ) → Forward m g → (d n : ℕ) → suc n ≡ length g → trail d g f n ≡ []
trail_end g f s zero n e = refl
trail_end g f s (suc d) n e =
    ap (λ o. cond (ltb 0 (on f (take_arc n))) (along (take_arc n) o (trail d g f)) (along (pass_arc n) (at g n).pass (trail d g f))) (s.target n e).2
    ∙ ap (λ o. cond (ltb 0 (on f (take_arc n))) [] (along (pass_arc n) o (trail d g f))) (s.target n e).3
    ∙ either (ltb 0 (on f (take_arc n)))
  where
    either : (b : Bool) → ◌≡◌ {A = List ℕ} (cond b [] []) []
    either true = refl
    either false = refl

module _ {m : ℕ} {g : List Row} {f : List ℕ} (h : Flowing m g f) where
  pub at_source : At g f (length g) 0
  at_source = record { low = omega (arith, (shape h).two); enough = omega arith; flows = inr h.some }

  module _ (d n : ℕ) (here : At g f d n) (inner : suc n < length g) where
    flowing_out : 0 < outflow f n
    flowing_out = go here.flows
      where
        go : (suc n ≡ length g) ⊎ (0 < outflow f n) → 0 < outflow f n
        go (inl e) = absurd (omega arith)
        go (inr lt) = lt

    carries_on : (a : ℕ) → a ≡ carrier f n → 0 < on f a
    carries_on a e = go (cases_Bool (ltb 0 (on f (take_arc n))))
      where
        go : (ltb 0 (on f (take_arc n)) ≡ true) ⊎ (ltb 0 (on f (take_arc n)) ≡ false) → 0 < on f a
        go (inl t) = subst (λ b. 0 < on f b) (sym (e ∙ cond-true _ _ _ t)) (ltb-true 0 (on f (take_arc n)) t)
        go (inr t) = subst (λ b. 0 < on f b) (sym (e ∙ cond-false _ _ _ t)) (omega (arith, ltb-false 0 (on f (take_arc n)) t, flowing_out))

    -- the arc is there
    pub arc_there : (a : ℕ) → a ≡ carrier f n → None ≡ head g a → ⊥
    arc_there a e none = let k = carrying_there (shape h) f h.arcs a (carries_on a e) in not_none (head g a) k.0 k.1 (sym none)

    pub turn : (d' a k : ℕ) → d ≡ suc d' → a ≡ carrier f n → Some k ≡ head g a → Turn g f d' n a k
    turn d' a k ds e leads = go (cases_Bool (ltb 0 (on f (take_arc n))))
      where
        on_to : (a < 2 * length g) → n < k → k < length g → At g f d' k
        on_to within up below = record { low = below; enough = omega (arith, here.enough); flows = onward (shape h) f h.arcs h.balanced a k within (carries_on a e) (sym leads) (omega arith) below }

        go : (ltb 0 (on f (take_arc n)) ≡ true) ⊎ (ltb 0 (on f (take_arc n)) ≡ false) → Turn g f d' n a k
        go (inl t) =
            let is : a ≡ take_arc n = e ∙ cond-true _ _ _ t in
            let arc : (at g n).take ≡ Some k = sym (head_take g n) ∙ ap (head g) (sym is) ∙ sym leads in
            let up : n < k = ((shape h).take_to n k arc).0 in
            record { next = on_to (omega arith) up ((shape h).take_to n k arc).1; up = up; tail_is = omega arith; station = inl (ap takes is ∙ takes_take n, ((shape h).take_to n k arc).2, ((shape h).take_to n k arc).3); carries = carries_on a e; goes = trail_take g f d' n k t arc ∙ ap (λ b. b ∷ trail d' g f k) (sym is) }
        go (inr t) =
            let is : a ≡ pass_arc n = e ∙ cond-false _ _ _ t in
            let arc : (at g n).pass ≡ Some k = sym (head_pass g n) ∙ ap (head g) (sym is) ∙ sym leads in
            let up : n < k = ((shape h).pass_to n k arc).0 in
            record { next = on_to (omega arith) up ((shape h).pass_to n k arc).1; up = up; tail_is = omega arith; station = inr (ap takes is ∙ takes_pass n, ((shape h).pass_to n k arc).2, ((shape h).pass_to n k arc).3); carries = carries_on a e; goes = trail_pass g f d' n t ∙ ap (λ o. along (pass_arc n) o (trail d' g f)) arc ∙ ap (λ b. b ∷ trail d' g f k) (sym is) }

-- the least of t and the flow of these arcs
abbrev lower : List ℕ → ℕ → List ℕ → ℕ
lower f t [] = t
lower f t (a ∷ arcs) = lower f (min t (on f a)) arcs

lower_least : (f : List ℕ) (t a : ℕ) (arcs : List ℕ) → lower f t (a ∷ arcs) ≡ min t (least f (a ∷ arcs))
lower_least f t a [] = refl
lower_least f t a (b ∷ arcs) = omega (arith, lower_least f (min t (on f a)) b arcs)

least_first : (f : List ℕ) (a : ℕ) (arcs : List ℕ) → least f (a ∷ arcs) ≤ on f a
least_first f a [] = omega arith
least_first f a (b ∷ arcs) = omega arith

lower_all : (f arcs : List ℕ) → 1 ≤ least f arcs → ((a : ℕ) → on f a ≤ limit) → lower f limit arcs ≡ least f arcs
lower_all f [] some few = absurd (omega arith)
lower_all f (a ∷ arcs) some few = omega (arith, lower_least f limit a arcs, least_first f a arcs, few a)

-- an arc by which the trail leaves a node is that node's
pub tail_carrier : (f : List ℕ) (n a : ℕ) → a ≡ carrier f n → a / 2 ≡ n
tail_carrier f n a e = go (cases_Bool (ltb 0 (on f (take_arc n))))
  where
    go : (ltb 0 (on f (take_arc n)) ≡ true) ⊎ (ltb 0 (on f (take_arc n)) ≡ false) → a / 2 ≡ n
    go (inl t) = omega (arith, e ∙ cond-true _ _ _ t)
    go (inr t) = omega (arith, e ∙ cond-false _ _ _ t)

-- the walk is at its end where the next arc is not there
ends : {m : ℕ} {g : List Row} {f : List ℕ} (h : Flowing m g f) (d n a : ℕ) → At g f d n → a ≡ carrier f n → None ≡ head g a → suc n ≡ length g
ends h d n a here e none = ⊎_elim (λ (last : suc n ≡ length _). last) (λ ne. absurd (arc_there h d n here (omega (arith, here.low)) a e none)) (cases_eq (suc n) _)

-- so many copies more of the first item
abbrev plus : ℕ → List ℕ → List ℕ
plus k [] = []
plus k (c ∷ counts) = (k + c) ∷ counts

plus_none : (xs : List ℕ) → plus 0 xs ≡ xs
plus_none [] = refl
plus_none (x ∷ xs) = ap (λ y. y ∷ xs) (let e : 0 + x ≡ x = omega arith in e)

plus_more : (k : ℕ) (xs : List ℕ) → plus (suc k) xs ≡ plus k (bumped xs)
plus_more k [] = refl
plus_more k (x ∷ xs) = ap (λ y. y ∷ xs) (let e : suc k + x ≡ k + suc x = omega arith in e)

-- The first walk is about to take arc a: the times so far, and the counts of the items before.
pub record Spelling (m : ℕ) (g : List Row) (f counts : List ℕ) (times a : ℕ) : Type 0 where
  pub steps : ℕ
  pub here : At g f steps (a / 2)
  pub arc : a ≡ carrier f (a / 2)
  pub long : length counts ≡ m
  pub least_is : lower f times (trail steps g f (a / 2)) ≡ least f (trail (length g) g f 0)
  pub told : take ((at g (a / 2)).item - 1) counts ++ plus (at g (a / 2)).copies (spelled (trail steps g f (a / 2))) ≡ spelled (trail (length g) g f 0)

module _ {m : ℕ} {g : List Row} {f : List ℕ} (h : Flowing m g f) where
  abbrev all : List ℕ
  all = trail (length g) g f 0

  spelling_at : (counts : List ℕ) (times steps n a : ℕ) → At g f steps n → a ≡ carrier f n → length counts ≡ m → lower f times (trail steps g f n) ≡ least f all →
      take ((at g n).item - 1) counts ++ plus (at g n).copies (spelled (trail steps g f n)) ≡ spelled all → Spelling m g f counts times a
  spelling_at counts times steps n a here e long least_is told =
      let is : a / 2 ≡ n = tail_carrier f n a e in
      record {
        steps = steps;
        here = subst (λ v. At g f steps v) (sym is) here;
        arc = subst (λ v. a ≡ carrier f v) (sym is) e;
        long = long;
        least_is = ap (λ v. lower f times (trail steps g f v)) is ∙ least_is;
        told = ap (λ v. take ((at g v).item - 1) counts ++ plus (at g v).copies (spelled (trail steps g f v))) is ∙ told;
      }

  pub spell_start : (counts : List ℕ) (a : ℕ) → length counts ≡ m → ((b : ℕ) → on f b ≤ limit) → a ≡ carrier f 0 → Spelling m g f counts limit a
  spell_start counts a long limited first =
      spelling_at counts limit (length g) 0 a (at_source h) first long (lower_all f all (peeled (shape h) f h.arcs h.balanced h.some).some limited)
      (ap (λ i. take (i - 1) counts ++ plus (at g 0).copies (spelled all)) (shape h).source.0 ∙ ap (λ k. plus k (spelled all)) (shape h).source.1 ∙ plus_none (spelled all))

  module _ (counts : List ℕ) (times a k : ℕ) (w : Spelling m g f counts times a) (leads : Some k ≡ head g a) where
    abbrev n : ℕ
    n = a / 2

    pub spell_up : (n < k) × (k < length g)
    spell_up = upward (shape h) a k (sym leads)

    -- the item at the node is one of those counted
    pub item_within : (0 < (at g n).item) × ((at g n).item ≤ m)
    item_within = (shape h).inner n (omega (arith, spell_up))

    pub spell_step : (b : ℕ) → b ≡ carrier f k → Spelling m g f (noted g a counts) (min times (on f a)) b
    spell_step b following = from w.steps w.here w.least_is w.told
      where
        from : (d : ℕ) → At g f d n → lower f times (trail d g f n) ≡ least f all →
            take ((at g n).item - 1) counts ++ plus (at g n).copies (spelled (trail d g f n)) ≡ spelled all → Spelling m g f (noted g a counts) (min times (on f a)) b
        from zero here least_is told = absurd (omega (arith, here.enough, spell_up))
        from (suc d) here least_is told = onto (turn h (suc d) n here (omega (arith, spell_up)) d a k refl w.arc leads)
          where
            rest : List ℕ
            rest = trail d g f k

            onto : Turn g f d n a k → Spelling m g f (noted g a counts) (min times (on f a)) b
            onto t = go t.station
              where
                lower_is : lower f (min times (on f a)) rest ≡ least f all
                lower_is = sym (ap (lower f times) t.goes) ∙ least_is

                was : take ((at g n).item - 1) counts ++ plus (at g n).copies (spelled (a ∷ rest)) ≡ spelled all
                was = ap (λ arcs. take ((at g n).item - 1) counts ++ plus (at g n).copies (spelled arcs)) (sym t.goes) ∙ told

                go : ((takes a ≡ true) × ((at g k).item ≡ (at g n).item) × ((at g k).copies ≡ suc (at g n).copies)) ⊎ ((takes a ≡ false) × ((at g k).item ≡ suc (at g n).item) × ((at g k).copies ≡ 0)) →
                    Spelling m g f (noted g a counts) (min times (on f a)) b
                go (inl (odd, item, copies)) =
                    let same : noted g a counts ≡ counts = cond-true _ _ _ odd in
                    spelling_at (noted g a counts) (min times (on f a)) d k b t.next following (ap length same ∙ w.long) lower_is (
                    ap (λ c. take ((at g k).item - 1) c ++ plus (at g k).copies (spelled rest)) same
                    ∙ ap (λ i. take (i - 1) counts ++ plus (at g k).copies (spelled rest)) item
                    ∙ ap (λ x. take ((at g n).item - 1) counts ++ plus x (spelled rest)) copies
                    ∙ ap (λ xs. take ((at g n).item - 1) counts ++ xs) (plus_more (at g n).copies (spelled rest))
                    ∙ ap (λ xs. take ((at g n).item - 1) counts ++ plus (at g n).copies xs) (sym (ap (λ b. cond b (bumped (spelled rest)) (0 ∷ spelled rest)) odd))
                    ∙ was
                    )
                go (inr (even, item, copies)) =
                    let i : ℕ = (at g n).item - 1 in
                    let x : ℕ = (at g n).copies in
                    let same : noted g a counts ≡ set counts i x = cond-false _ _ _ even in
                    let next : (at g k).item - 1 ≡ i + 1 = omega (arith, item, item_within.0) in
                    spelling_at (noted g a counts) (min times (on f a)) d k b t.next following (ap length same ∙ length-set counts i x ∙ w.long) lower_is (
                    ap (λ c. take ((at g k).item - 1) c ++ plus (at g k).copies (spelled rest)) same
                    ∙ ap (λ j. take j (set counts i x) ++ plus (at g k).copies (spelled rest)) next
                    ∙ ap (λ y. take (i + 1) (set counts i x) ++ plus y (spelled rest)) copies
                    ∙ ap (λ xs. take (i + 1) (set counts i x) ++ xs) (plus_none (spelled rest))
                    ∙ ap (λ xs. xs ++ spelled rest) (take_more_set counts i x (omega (arith, w.long, item_within)))
                    ∙ append_assoc (take i counts) (x ∷ []) (spelled rest)
                    ∙ ap (λ y. take i counts ++ y ∷ spelled rest) (let p : x ≡ x + 0 = omega arith in p)
                    ∙ ap (λ xs. take i counts ++ plus x xs) (sym (ap (λ b. cond b (bumped (spelled rest)) (0 ∷ spelled rest)) even))
                    ∙ was
                    )

  module _ (counts : List ℕ) (times a : ℕ) (w : Spelling m g f counts times a) (none : None ≡ head g a) where
    last : suc (a / 2) ≡ length g
    last = ends h w.steps (a / 2) a w.here w.arc none

    ended : trail w.steps g f (a / 2) ≡ []
    ended = trail_end g f (shape h) w.steps (a / 2) last

    pub spell_times : times ≡ least f all
    spell_times = sym (ap (lower f times) ended) ∙ w.least_is

    pub spell_counts : counts ≡ spelled all
    spell_counts =
        sym (take_all ((at g (a / 2)).item - 1) counts (omega (arith, w.long, ((shape h).target (a / 2) last).0)))
        ∙ sym (append-nil (take ((at g (a / 2)).item - 1) counts))
        ∙ ap (λ arcs. take ((at g (a / 2)).item - 1) counts ++ plus (at g (a / 2)).copies (spelled arcs)) (sym ended)
        ∙ w.told

-- The second walk is about to take arc a: what is still to be taken off f.
pub record Taking (g : List Row) (f₀ f : List ℕ) (times a : ℕ) : Type 0 where
  pub steps : ℕ
  pub here : At g f₀ steps (a / 2)
  pub arc : a ≡ carrier f₀ (a / 2)
  pub long : length f ≡ length f₀
  pub ahead : (b : ℕ) → 2 * (a / 2) ≤ b → on f b ≡ on f₀ b
  pub enough : Carry f₀ times (trail steps g f₀ (a / 2))
  pub pulled : pull f (trail steps g f₀ (a / 2)) times ≡ pull f₀ (trail (length g) g f₀ 0) times

module _ {m : ℕ} {g : List Row} {f₀ : List ℕ} (h : Flowing m g f₀) (times : ℕ) where
  -- at node n, with the flow ahead untouched
  taking_at : (f : List ℕ) (steps n a : ℕ) → At g f₀ steps n → a ≡ carrier f n → length f ≡ length f₀ → ((b : ℕ) → 2 * n ≤ b → on f b ≡ on f₀ b) → Carry f₀ times (trail steps g f₀ n) →
      pull f (trail steps g f₀ n) times ≡ pull f₀ (trail (length g) g f₀ 0) times → Taking g f₀ f times a
  taking_at f steps n a here e long ahead enough pulled =
      let is : n ≡ a / 2 = sym (tail_carrier f n a e) in
      record {
        steps = steps;
        here = subst (λ v. At g f₀ steps v) is here;
        arc = subst (λ v. a ≡ carrier f₀ v) is (e ∙ ap (λ x. cond (ltb 0 x) (take_arc n) (pass_arc n)) (ahead (take_arc n) (omega arith)));
        long = long;
        ahead = λ b le. ahead b (omega arith);
        enough = subst (λ v. Carry f₀ times (trail steps g f₀ v)) is enough;
        pulled = ap (λ v. pull f (trail steps g f₀ v) times) (sym is) ∙ pulled;
      }

  pub take_start : (a : ℕ) → times ≡ least f₀ (trail (length g) g f₀ 0) → a ≡ carrier f₀ 0 → Taking g f₀ f₀ times a
  take_start a e first =
      taking_at f₀ (length g) 0 a (at_source h) first refl (λ b le. refl)
      (subst (λ t. Carry f₀ t (trail (length g) g f₀ 0)) (sym e) (least_carry f₀ (trail (length g) g f₀ 0))) refl

  module _ (f : List ℕ) (a : ℕ) (w : Taking g f₀ f times a) where
    pub take_end : None ≡ head g a → f ≡ pull f₀ (trail (length g) g f₀ 0) times
    take_end none = sym (ap (λ arcs. pull f arcs times) (trail_end g f₀ (shape h) w.steps (a / 2) (ends h w.steps (a / 2) a w.here w.arc none))) ∙ w.pulled

    module _ (k : ℕ) (leads : Some k ≡ head g a) where
      pub take_up : (a / 2 < k) × (k < length g)
      take_up = upward (shape h) a k (sym leads)

      turned : (d : ℕ) → At g f₀ (suc d) (a / 2) → Turn g f₀ d (a / 2) a k
      turned d here = turn h (suc d) (a / 2) here (omega (arith, take_up)) d a k refl w.arc leads

      pub take_fits : times ≤ on f a
      take_fits = from w.steps w.here w.enough
        where
          from : (d : ℕ) → At g f₀ d (a / 2) → Carry f₀ times (trail d g f₀ (a / 2)) → times ≤ on f a
          from zero here enough = absurd (omega (arith, here.enough, take_up))
          from (suc d) here enough =
              let c : Carry f₀ times (a ∷ trail d g f₀ k) = subst (λ arcs. Carry f₀ times arcs) (turned d here).goes enough in
              omega (arith, c.0, w.ahead a (omega arith))

      pub take_step : (b : ℕ) → b ≡ carrier (set f a (on f a - times)) k → Taking g f₀ (set f a (on f a - times)) times b
      take_step b next = from w.steps w.here w.enough w.pulled
        where
          from : (d : ℕ) → At g f₀ d (a / 2) → Carry f₀ times (trail d g f₀ (a / 2)) → pull f (trail d g f₀ (a / 2)) times ≡ pull f₀ (trail (length g) g f₀ 0) times →
              Taking g f₀ (set f a (on f a - times)) times b
          from zero here enough pulled = absurd (omega (arith, here.enough, take_up))
          from (suc d) here enough pulled =
              let t = turned d here in
              let c : Carry f₀ times (a ∷ trail d g f₀ k) = subst (λ arcs. Carry f₀ times arcs) t.goes enough in
              taking_at (set f a (on f a - times)) d k b t.next next (length-set f a (on f a - times) ∙ w.long)
              (λ e le. get_or-set_other f a e (on f a - times) 0 (omega (arith, t.up)) ∙ w.ahead e (omega (arith, t.up)))
              c.1 (sym (ap (λ arcs. pull f arcs times) t.goes) ∙ pulled)
