-- The steps of the walk along a path that spells some counts.
use Rattle.std.proofs.Common.{◌≡◌, ℕ, suc, ◌+◌, ◌-◌, ◌*◌, ◌/◌, ◌<◌, ◌≤◌, Bool, true, false, cond, ◌||◌, ltb, leb, ◌≢◌, ◌⊎◌, List, [], ◌∷◌, length, get_or, drop, set, Some, None, Ok, Err, Option, Result, sym, refl, ap, ◌∙◌, inl, inr, ⊎_elim, add-one, arith, length-set}
use Rattle.std.specs.Option.{option_map}
use Rattle.std.proofs.lemmas.List.{get_or-set_same, get_or-set_other, set_past, drop_more, drop_all}
use Rattle.std.proofs.lemmas.Bool.{cases_Bool, cases_eq, cases_lt, cond-true, cond-false, ltb-true, ltb-false, lt-ltb, le-ltb, le-leb, lt-leb, eq-eqb, or_parts}
use Rattle.refusal.specs.declared.Refusal.{Refusal}
use Rattle.refusal.specs.declared.Refusal.TheVariants.{NoPattern, ArcOverLimit}
use Rattle.packing.specs.Problem.{entry}
use Rattle.packing.proofs.Options.{some≢none}
use Rattle.graph.specs.declared.Row.{Row}
use Rattle.graph.specs.Graph.{at, take_arc, pass_arc, head, onward, walk}
use Rattle.flow.specs.Flow.{on, push}
use Rattle.flow.specs.Job.{limit, overflows}
use Rattle.flow.specs.Walks.{choice, verdict, arcs_along}
use Rattle.flow.proofs.Shape.{Forward}
use Rattle.flow.proofs.Inflow.{upward}
use Rattle.flow.proofs.Linear.{Rising}
use Rattle.flow.proofs.Paths.{head_pass, head_take}

-- what is still to be spelled at a node
abbrev pub ahead : List ℕ → Row → List ℕ
ahead counts r = cond (leb r.item (length counts)) ((entry counts r.item - r.copies) ∷ drop r.item counts) []

first_ahead : (counts : List ℕ) (r : Row) → r.item ≡ 1 → r.copies ≡ 0 → 0 < length counts → ahead counts r ≡ counts
first_ahead [] r item copies some = absurd (omega arith)
first_ahead (c ∷ counts) r item copies some =
    ap (λ i. cond (leb i (length (c ∷ counts))) ((entry (c ∷ counts) i - r.copies) ∷ drop i (c ∷ counts)) []) item
    ∙ cond-true _ _ _ (le-leb 1 (length (c ∷ counts)) (omega arith))
    ∙ ap (λ x. x ∷ counts) (let e : c - r.copies ≡ c = omega arith in e)

abbrev prepend : ℕ → Option (List ℕ) → Option (List ℕ)
prepend a r = option_map (λ arcs. a ∷ arcs) r

abbrev via : ℕ → Option ℕ → (ℕ → Option (List ℕ)) → Option (List ℕ)
via a o next = onward o (λ t. prepend a (next t))

module _ (g : List Row) (counts : List ℕ) (s : Forward (length counts) g) where
  at_inner : (n : ℕ) → suc n < length g → ahead counts (at g n) ≡ (entry counts (at g n).item - (at g n).copies) ∷ drop (at g n).item counts
  at_inner n inner = cond-true _ _ _ (le-leb (at g n).item (length counts) (s.inner n inner).1)

  pub at_last : (n : ℕ) → suc n ≡ length g → walk g (ahead counts (at g n)) n ≡ Some []
  at_last n last =
      ap (λ c. walk g c n) (cond-false _ _ _ (lt-leb (at g n).item (length counts) (omega (arith, (s.target n last).0))))
      ∙ cond-true _ _ _ (eq-eqb (suc n) (length g) last)

  pub at_first : walk g (ahead counts (at g 0)) 0 ≡ walk g counts 0
  at_first = ap (λ c. walk g c 0) (first_ahead counts (at g 0) s.source.0 s.source.1 (omega (arith, s.two, s.inner 0 s.two)))

  module _ (n a : ℕ) (inner : suc n < length g) (e : a ≡ choice g counts n) where
    i : ℕ
    i = (at g n).item

    takes_more : ltb (at g n).copies (entry counts (at g n).item) ≡ true → walk g (ahead counts (at g n)) n ≡ via (take_arc n) (at g n).take (walk g ((entry counts (at g n).item - suc (at g n).copies) ∷ drop (at g n).item counts))
    takes_more t =
        let lt = ltb-true (at g n).copies (entry counts (at g n).item) t in
        ap (λ c. walk g c n) (at_inner n inner ∙ ap (λ x. x ∷ drop (at g n).item counts) (let p : entry counts (at g n).item - (at g n).copies ≡ suc (entry counts (at g n).item - suc (at g n).copies) = omega arith in p))

    passes_on : ltb (at g n).copies (entry counts (at g n).item) ≡ false → walk g (ahead counts (at g n)) n ≡ via (pass_arc n) (at g n).pass (walk g (drop (at g n).item counts))
    passes_on t =
        let le = ltb-false (at g n).copies (entry counts (at g n).item) t in
        ap (λ c. walk g c n) (at_inner n inner ∙ ap (λ x. x ∷ drop (at g n).item counts) (let p : entry counts (at g n).item - (at g n).copies ≡ 0 = omega arith in p))

    after_take : (k : ℕ) → (at g n).take ≡ Some k → ahead counts (at g k) ≡ (entry counts (at g n).item - suc (at g n).copies) ∷ drop (at g n).item counts
    after_take k arc =
        ap (λ j. cond (leb j (length counts)) ((entry counts j - (at g k).copies) ∷ drop j counts) []) (s.take_to n k arc).2
        ∙ cond-true _ _ _ (le-leb (at g n).item (length counts) (s.inner n inner).1)
        ∙ ap (λ x. (entry counts (at g n).item - x) ∷ drop (at g n).item counts) (s.take_to n k arc).3

    after_pass : (k : ℕ) → (at g n).pass ≡ Some k → ahead counts (at g k) ≡ drop (at g n).item counts
    after_pass k arc =
        ap (λ j. cond (leb j (length counts)) ((entry counts j - (at g k).copies) ∷ drop j counts) []) (s.pass_to n k arc).2
        ∙ go (cases_lt (at g n).item (length counts))
      where
        go : ((at g n).item < length counts) ⊎ (length counts ≤ (at g n).item) →
            cond (leb (suc (at g n).item) (length counts)) ((get_or counts (at g n).item 0 - (at g k).copies) ∷ drop (suc (at g n).item) counts) [] ≡ drop (at g n).item counts
        go (inl lt) =
            cond-true _ _ _ (le-leb (suc (at g n).item) (length counts) (omega arith))
            ∙ ap (λ x. x ∷ drop (suc (at g n).item) counts) (let p : get_or counts (at g n).item 0 - (at g k).copies ≡ get_or counts (at g n).item 0 = omega (arith, (s.pass_to n k arc).3) in p)
            ∙ ap (λ j. get_or counts (at g n).item 0 ∷ drop j counts) (sym (add-one (at g n).item))
            ∙ sym (drop_more counts (at g n).item 0 lt)
        go (inr le) = cond-false _ _ _ (lt-leb (suc (at g n).item) (length counts) (omega arith)) ∙ sym (drop_all (at g n).item counts le)

    -- the arc is missing, so there is no such path
    pub route_stops : head g a ≡ None → walk g (ahead counts (at g n)) n ≡ None
    route_stops none = go (cases_Bool (ltb (at g n).copies (entry counts (at g n).item)))
      where
        go : (ltb (at g n).copies (entry counts (at g n).item) ≡ true) ⊎ (ltb (at g n).copies (entry counts (at g n).item) ≡ false) → walk g (ahead counts (at g n)) n ≡ None
        go (inl t) = takes_more t ∙ ap (λ o. via (take_arc n) o (walk g ((entry counts (at g n).item - suc (at g n).copies) ∷ drop (at g n).item counts))) (sym (head_take g n) ∙ ap (head g) (sym (e ∙ cond-true _ _ _ t)) ∙ none)
        go (inr t) = passes_on t ∙ ap (λ o. via (pass_arc n) o (walk g (drop (at g n).item counts))) (sym (head_pass g n) ∙ ap (head g) (sym (e ∙ cond-false _ _ _ t)) ∙ none)

    -- the arc leads on
    pub route_goes : (k : ℕ) → head g a ≡ Some k → walk g (ahead counts (at g n)) n ≡ prepend a (walk g (ahead counts (at g k)) k)
    route_goes k leads = go (cases_Bool (ltb (at g n).copies (entry counts (at g n).item)))
      where
        go : (ltb (at g n).copies (entry counts (at g n).item) ≡ true) ⊎ (ltb (at g n).copies (entry counts (at g n).item) ≡ false) → walk g (ahead counts (at g n)) n ≡ prepend a (walk g (ahead counts (at g k)) k)
        go (inl t) =
            let is : a ≡ take_arc n = e ∙ cond-true _ _ _ t in
            let arc : (at g n).take ≡ Some k = sym (head_take g n) ∙ ap (head g) (sym is) ∙ leads in
            takes_more t ∙ ap (λ o. via (take_arc n) o (walk g ((entry counts (at g n).item - suc (at g n).copies) ∷ drop (at g n).item counts))) arc
            ∙ ap (λ c. prepend (take_arc n) (walk g c k)) (sym (after_take k arc)) ∙ ap (λ b. prepend b (walk g (ahead counts (at g k)) k)) (sym is)
        go (inr t) =
            let is : a ≡ pass_arc n = e ∙ cond-false _ _ _ t in
            let arc : (at g n).pass ≡ Some k = sym (head_pass g n) ∙ ap (head g) (sym is) ∙ leads in
            passes_on t ∙ ap (λ o. via (pass_arc n) o (walk g (drop (at g n).item counts))) arc
            ∙ ap (λ c. prepend (pass_arc n) (walk g c k)) (sym (after_pass k arc)) ∙ ap (λ b. prepend b (walk g (ahead counts (at g k)) k)) (sym is)

    pub route_up : (k : ℕ) → head g a ≡ Some k → (n < k) × (k < length g) × (a / 2 ≡ n)
    route_up k leads = go (cases_Bool (ltb (at g n).copies (entry counts (at g n).item)))
      where
        go : (ltb (at g n).copies (entry counts (at g n).item) ≡ true) ⊎ (ltb (at g n).copies (entry counts (at g n).item) ≡ false) → (n < k) × (k < length g) × (a / 2 ≡ n)
        go (inl t) =
            let is : a ≡ take_arc n = e ∙ cond-true _ _ _ t in
            let arc : (at g n).take ≡ Some k = sym (head_take g n) ∙ ap (head g) (sym is) ∙ leads in
            ((s.take_to n k arc).0, (s.take_to n k arc).1, omega arith)
        go (inr t) =
            let is : a ≡ pass_arc n = e ∙ cond-false _ _ _ t in
            let arc : (at g n).pass ≡ Some k = sym (head_pass g n) ∙ ap (head g) (sym is) ∙ leads in
            ((s.pass_to n k arc).0, (s.pass_to n k arc).1, omega arith)

-- the arc by which the path leaves a node is that node's
pub tail_choice : (g : List Row) (counts : List ℕ) (n a : ℕ) → a ≡ choice g counts n → a / 2 ≡ n
tail_choice g counts n a e = go (cases_Bool (ltb (at g n).copies (entry counts (at g n).item)))
  where
    go : (ltb (at g n).copies (entry counts (at g n).item) ≡ true) ⊎ (ltb (at g n).copies (entry counts (at g n).item) ≡ false) → a / 2 ≡ n
    go (inl t) = omega (arith, e ∙ cond-true _ _ _ t)
    go (inr t) = omega (arith, e ∙ cond-false _ _ _ t)

-- one arc more
verdict_more : (f : List ℕ) (times : ℕ) (over : Bool) (a : ℕ) (r : Option (List ℕ)) → verdict f times over (prepend a r) ≡ verdict f times (over || ltb limit (on f a + times)) r
verdict_more f times over a None = refl
verdict_more f times true a (Some arcs) = refl
verdict_more f times false a (Some arcs) = refl

or_on : (b : Bool) {x : Bool} → x ≡ true → (b || x) ≡ true
or_on true e = refl
or_on false e = e

or_off : (b : Bool) {x : Bool} → x ≡ false → (b || x) ≡ b
or_off true e = refl
or_off false e = e

-- the check has come to node n, and the answer so far tells of the arcs up to it
pub record Checking (g : List Row) (f counts : List ℕ) (times n : ℕ) (answer : Result (Unit {0}) Refusal) : Type 0 where
  pub low : n < length g
  pub over : Bool
  pub told : answer ≡ cond over (Err ArcOverLimit) (Ok tt)
  pub same : verdict f times over (walk g (ahead counts (at g n)) n) ≡ verdict f times false (walk g counts 0)

module _ (g : List Row) (f counts : List ℕ) (times : ℕ) (s : Forward (length counts) g) where
  pub check_start : Checking g f counts times 0 (Ok tt)
  check_start = record { low = omega (arith, s.two); over = false; told = refl; same = ap (verdict f times false) (at_first g counts s) }

  module _ (n a : ℕ) (answer : Result (Unit {0}) Refusal) (w : Checking g f counts times n answer) (inner : suc n < length g) (e : a ≡ choice g counts n) where
    pub check_none : None ≡ head g a → Err NoPattern ≡ verdict f times false (walk g counts 0)
    check_none none = sym (ap (verdict f times w.over) (route_stops g counts s n a inner e (sym none))) ∙ w.same

    module _ (k : ℕ) (leads : Some k ≡ head g a) where
      goes_on : verdict f times (w.over || ltb limit (on f a + times)) (walk g (ahead counts (at g k)) k) ≡ verdict f times false (walk g counts 0)
      goes_on =
          sym (verdict_more f times w.over a (walk g (ahead counts (at g k)) k))
          ∙ sym (ap (verdict f times w.over) (route_goes g counts s n a inner e k (sym leads)))
          ∙ w.same

      pub check_over : times ≤ limit → limit - times < on f a → Checking g f counts times k (Err ArcOverLimit)
      check_over few lt = record {
        low = (route_up g counts s n a inner e k (sym leads)).1;
        over = true;
        told = refl;
        same = ap (λ b. verdict f times b (walk g (ahead counts (at g k)) k)) (sym (or_on w.over (lt-ltb _ _ (omega arith)))) ∙ goes_on;
      }

      pub check_fits : times ≤ limit → on f a ≤ limit - times → Checking g f counts times k answer
      check_fits few le = record {
        low = (route_up g counts s n a inner e k (sym leads)).1;
        over = w.over;
        told = w.told;
        same = ap (λ b. verdict f times b (walk g (ahead counts (at g k)) k)) (sym (or_off w.over (le-ltb _ _ (omega arith)))) ∙ goes_on;
      }

  pub check_end : (n : ℕ) (answer : Result (Unit {0}) Refusal) → Checking g f counts times n answer → suc n ≡ length g → answer ≡ verdict f times false (walk g counts 0)
  check_end n answer w last = w.told ∙ last_is w.over ∙ sym (ap (verdict f times w.over) (at_last g counts s n last)) ∙ w.same
    where
      last_is : (b : Bool) → cond b (Err ArcOverLimit) (Ok tt) ≡ verdict f times b (Some [])
      last_is true = refl
      last_is false = refl

-- the parts of a route that goes on
record Further (a : ℕ) (r : Option (List ℕ)) (arcs : List ℕ) : Type 0 where
  rest : List ℕ
  is : r ≡ Some rest
  parts : arcs ≡ a ∷ rest

further : (a : ℕ) (r : Option (List ℕ)) (arcs : List ℕ) → prepend a r ≡ Some arcs → Further a r arcs
further a None arcs e = absurd (some≢none arcs (sym e))
further a (Some rest) arcs e = record { rest = rest; is = refl; parts = (cc) }

-- The addition is about to take arc a: the arcs ahead, and the flow f so far.
pub record Adding (g : List Row) (f₀ f counts whole : List ℕ) (times a : ℕ) : Type 0 where
  pub low : a / 2 < length g
  pub arc : a ≡ choice g counts (a / 2)
  pub long : length f ≡ length f₀
  pub arcs : List ℕ
  pub goes : walk g (ahead counts (at g (a / 2))) (a / 2) ≡ Some arcs
  pub room : overflows f₀ times arcs ≡ false
  pub untouched : (b : ℕ) → 2 * (a / 2) ≤ b → on f b ≡ on f₀ b
  pub pushed : push f arcs times ≡ push f₀ whole times

module _ (g : List Row) (f₀ counts whole : List ℕ) (times : ℕ) (s : Forward (length counts) g) where
  adding_at : (f : List ℕ) (n a : ℕ) (arcs : List ℕ) → n < length g → a ≡ choice g counts n → length f ≡ length f₀ → walk g (ahead counts (at g n)) n ≡ Some arcs → overflows f₀ times arcs ≡ false →
      ((b : ℕ) → 2 * n ≤ b → on f b ≡ on f₀ b) → push f arcs times ≡ push f₀ whole times → Adding g f₀ f counts whole times a
  adding_at f n a arcs low e long goes room untouched pushed =
      let is : a / 2 ≡ n = tail_choice g counts n a e in
      record { low = omega arith; arc = e ∙ ap (choice g counts) (sym is); long = long; arcs = arcs; goes = ap (λ v. walk g (ahead counts (at g v)) v) is ∙ goes; room = room; untouched = λ b le. untouched b (omega arith); pushed = pushed }

  pub add_start : (a : ℕ) → walk g counts 0 ≡ Some whole → overflows f₀ times whole ≡ false → a ≡ choice g counts 0 → Adding g f₀ f₀ counts whole times a
  add_start a e room first = adding_at f₀ 0 a whole (omega (arith, s.two)) first refl (at_first g counts s ∙ e) room (λ b le. refl) refl

  module _ (f : List ℕ) (a : ℕ) (w : Adding g f₀ f counts whole times a) where
    pub add_end : None ≡ head g a → f ≡ push f₀ whole times
    add_end none = ap (λ arcs. push f arcs times) (ended (cases_eq (suc (a / 2)) (length g))) ∙ w.pushed
      where
        ended : (suc (a / 2) ≡ length g) ⊎ (suc (a / 2) ≢ length g) → [] ≡ w.arcs
        ended (inl last) = let z = sym (at_last g counts s (a / 2) last) ∙ w.goes in cc
        ended (inr ne) = absurd (some≢none w.arcs (sym w.goes ∙ route_stops g counts s (a / 2) a (omega (arith, w.low)) w.arc (sym none)))

    module _ (k : ℕ) (leads : Some k ≡ head g a) where
      pub add_up : (a / 2 < k) × (k < length g)
      add_up = upward s a k (sym leads)

      inner : suc (a / 2) < length g
      inner = omega (arith, add_up)

      on_to : Further a (walk g (ahead counts (at g k)) k) w.arcs
      on_to = further a (walk g (ahead counts (at g k)) k) w.arcs (sym (route_goes g counts s (a / 2) a inner w.arc k (sym leads)) ∙ w.goes)

      rooms : (ltb limit (on f₀ a + times) ≡ false) × (overflows f₀ times on_to.rest ≡ false)
      rooms = or_parts (ltb limit (on f₀ a + times)) (overflows f₀ times on_to.rest) (sym (ap (overflows f₀ times) on_to.parts) ∙ w.room)

      pub add_fits : on f a + times ≤ limit
      add_fits = omega (arith, ltb-false limit (on f₀ a + times) rooms.0, w.untouched a (omega arith))

      pub add_step : (b : ℕ) → b ≡ choice g counts k → Adding g f₀ (set f a (on f a + times)) counts whole times b
      add_step b next =
          adding_at (set f a (on f a + times)) k b on_to.rest add_up.1 next (length-set f a (on f a + times) ∙ w.long) on_to.is rooms.1
          (λ e le. get_or-set_other f a e (on f a + times) 0 (omega (arith, add_up)) ∙ w.untouched e (omega (arith, add_up)))
          (sym (ap (λ arcs. push f arcs times) on_to.parts) ∙ w.pushed)

-- One flow set.
pub limited_set : (f : List ℕ) (a x k : ℕ) → on f k ≤ limit → x ≤ limit → on (set f a x) k ≤ limit
limited_set f a x k h le = ⊎_elim (λ (e : k ≡ a). rw e (⊎_elim (λ (lt : a < length f). rw get_or-set_same le) (λ (past : length f ≤ a). rw set_past (rw e at h)) (cases_lt a (length f)))) (λ (ne : k ≢ a). rw get_or-set_other h) (cases_eq k a)

-- a write below rising arcs leaves their room
room_set : (arcs f : List ℕ) (t a x m : ℕ) → a < m → Rising m arcs → overflows (set f a x) t arcs ≡ overflows f t arcs
room_set [] f t a x m h r = refl
room_set (b ∷ arcs) f t a x m h r =
    λ i. ltb limit (get_or-set_other f a b x 0 (omega (arith, r.0)) i + t) || room_set arcs f t a x (suc b) (omega (arith, r.0)) r.1 i

-- where there is room, the flow stays within the limit
pub push_limited : (arcs f : List ℕ) (t m : ℕ) → Rising m arcs → overflows f t arcs ≡ false → ((b : ℕ) → on f b ≤ limit) → (b : ℕ) → on (push f arcs t) b ≤ limit
push_limited [] f t m r h few b = few b
push_limited (a ∷ arcs) f t m r h few b =
    let parts = or_parts (ltb limit (on f a + t)) (overflows f t arcs) h in
    push_limited arcs (set f a (on f a + t)) t (suc a) r.1 (room_set arcs f t a (on f a + t) (suc a) (omega arith) r.1 ∙ parts.1)
    (λ c. limited_set f a (on f a + t) c (few c) (ltb-false limit (on f a + t) parts.0)) b

-- what the verdict says
pub record Fitting (f : List ℕ) (times : ℕ) (r : Option (List ℕ)) : Type 0 where
  pub is : r ≡ Some (arcs_along r)
  pub room : overflows f times (arcs_along r) ≡ false

pub fitting : (f : List ℕ) (times : ℕ) (r : Option (List ℕ)) → Ok tt ≡ verdict f times false r → Fitting f times r
fitting f times None e = let z : ◌≡◌ {A = ℕ} 0 1 = cc in absurd (omega arith)
fitting f times (Some arcs) e = go (cases_Bool (overflows f times arcs))
  where
    go : (overflows f times arcs ≡ true) ⊎ (overflows f times arcs ≡ false) → Fitting f times (Some arcs)
    go (inl t) = let p : Ok tt ≡ Err ArcOverLimit = e ∙ cond-true _ _ _ t in let z : ◌≡◌ {A = ℕ} 0 1 = cc in absurd (omega arith)
    go (inr t) = record { is = refl; room = t }
