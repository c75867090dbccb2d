-- What accept tests, and that it is what the model's rows ask.
use Rattle.std.proofs.Common.{◌≡◌, ℕ, zero, suc, ◌-◌, ◌<◌, ◌≤◌, Bool, true, false, cond, not, ◌&&◌, eqb, ltb, ◌⊎◌, List, [], ◌∷◌, ◌++◌, length, Some, None, Option, sym, refl, ap, ◌∙◌, ap₂, inl, inr, arith}
use Rattle.std.proofs.lemmas.Bool.{cases_eq, cases_Bool, eq-eqb, eqb-true, lt-ltb, le-ltb, ltb-false, and_right, and_left, not_from_true, false≢true, cond-false}
use Rattle.flow.proofs.Shape.{not_none}
use Rattle.flow.specs.Arcs.{numbers}
use Rattle.flow.specs.Flow.{inflow, outflow, value, copies_of, carrying, Balanced}
use Rattle.packing.specs.Problem.{entry}
use Rattle.refusal.specs.declared.Refusal.{Refusal}
use Rattle.refusal.specs.declared.Refusal.TheVariants.{Unbalanced, ValueOverLimit, BelowDemand}
use Rattle.flow.specs.Job.{limit, Content, View, View.Open, View.Accepted, Outcome, Answer.Done, Reply.Worth, first, lowest, unbalanced, lacking, refuse, refuse_at, accept}

-- Searching for the lowest.
first_parts : (xs ys : List ℕ) → first (xs ++ ys) ≡ None → (first xs ≡ None) × (first ys ≡ None)
first_parts [] ys e = (refl, e)
first_parts (x ∷ xs) ys e = absurd (not_none (Some x) x refl e)

first_cond : (b : Bool) (n : ℕ) → first (cond b (n ∷ []) []) ≡ None → b ≡ false
first_cond true n e = absurd (not_none (Some n) n refl e)
first_cond false n e = refl

pub lowest_none : (p : ℕ → Bool) (n : ℕ) → lowest p n ≡ None → (a : ℕ) → a < n → p a ≡ false
lowest_none p zero e a h = absurd (omega arith)
lowest_none p (suc n) e a h = go (lowest_none p n (first_parts (numbers p n) (cond (p n) (n ∷ []) []) e).0 a) (cases_eq a n)
  where
    go : (a < n → p a ≡ false) → (a ≡ n) ⊎ (a ≡ n → ⊥) → p a ≡ false
    go ih (inl i) = ap p i ∙ first_cond (p n) n (first_parts (numbers p n) (cond (p n) (n ∷ []) []) e).1
    go ih (inr i) = ih (omega arith)

numbers_none : (p : ℕ → Bool) (n : ℕ) → ((a : ℕ) → a < n → p a ≡ false) → numbers p n ≡ []
numbers_none p zero h = refl
numbers_none p (suc n) h =
    ap (λ xs. xs ++ cond (p n) (n ∷ []) []) (numbers_none p n (λ a l. h a (omega arith))) ∙ ap (λ b. cond b (n ∷ []) []) (h n (omega arith))

pub none_lowest : (p : ℕ → Bool) (n : ℕ) → ((a : ℕ) → a < n → p a ≡ false) → lowest p n ≡ None
none_lowest p n h = ap first (numbers_none p n h)

-- What accept asks of a flow.
pub record Acceptable (j : Content) : Type 0 where
  pub balanced : Balanced j.graph j.flow
  pub within : value j.flow ≤ limit
  pub covers : (i : ℕ) → 1 ≤ i → i ≤ length j.demands → entry j.demands i ≤ copies_of j.graph j.flow i

module _ (j : Content) where
  -- a node that is off balance
  abbrev pub off : ℕ → Bool
  off v = ltb 0 v && not (eqb (inflow j.graph j.flow v) (outflow j.flow v))

  -- an item with fewer copies than its demand
  abbrev pub short : ℕ → Bool
  short i = ltb (copies_of j.graph j.flow i) (entry j.demands i)

  pub balanced_from : unbalanced j ≡ None → Balanced j.graph j.flow
  balanced_from none v inside below = go (cases_Bool (eqb (inflow j.graph j.flow v) (outflow j.flow v)))
    where
      go : (eqb (inflow j.graph j.flow v) (outflow j.flow v) ≡ true) ⊎ (eqb (inflow j.graph j.flow v) (outflow j.flow v) ≡ false) →
          inflow j.graph j.flow v ≡ outflow j.flow v
      go (inl t) = eqb-true (inflow j.graph j.flow v) (outflow j.flow v) t
      go (inr t) =
          let yes' : off v ≡ true = ap₂ (λ a b. a && not b) (lt-ltb 0 v inside) t in
          absurd (false≢true (sym (lowest_none off (length j.graph - 1) none v (omega arith)) ∙ yes'))

  pub from_balanced : Balanced j.graph j.flow → unbalanced j ≡ None
  from_balanced bal = none_lowest off (length j.graph - 1) even
    where
      even : (v : ℕ) → v < length j.graph - 1 → off v ≡ false
      even zero h = and_left (ltb 0 0) (not (eqb (inflow j.graph j.flow 0) (outflow j.flow 0))) refl
      even (suc v) h =
          and_right (ltb 0 (suc v)) (not (eqb (inflow j.graph j.flow (suc v)) (outflow j.flow (suc v))))
          (not_from_true (eqb (inflow j.graph j.flow (suc v)) (outflow j.flow (suc v)))
          (eq-eqb (inflow j.graph j.flow (suc v)) (outflow j.flow (suc v)) (bal (suc v) (omega arith) (omega arith))))

  pub covers_from : lacking j ≡ None → (i : ℕ) → 1 ≤ i → i ≤ length j.demands → entry j.demands i ≤ copies_of j.graph j.flow i
  covers_from none i low high =
      ltb-false (copies_of j.graph j.flow i) (entry j.demands i) (lowest_none short (suc (length j.demands)) none i (omega arith))

  pub from_covers : ((i : ℕ) → 1 ≤ i → i ≤ length j.demands → entry j.demands i ≤ copies_of j.graph j.flow i) → lacking j ≡ None
  from_covers h = none_lowest short (suc (length j.demands)) enough
    where
      enough : (i : ℕ) → i < suc (length j.demands) → short i ≡ false
      enough zero l = le-ltb (copies_of j.graph j.flow 0) 0 (omega arith)
      enough (suc k) l = le-ltb (copies_of j.graph j.flow (suc k)) (entry j.demands (suc k)) (h (suc k) (omega arith) (omega arith))

  abbrev said_yes : Outcome
  said_yes = (Done (Worth (value j.flow) (carrying j.flow)), Accepted j)

  pub accepts : Acceptable j → accept (Open j) ≡ said_yes
  accepts ok =
      ap (λ o. refuse_at (Open j) Unbalanced o (cond (ltb limit (value j.flow)) (refuse (Open j) ValueOverLimit) (refuse_at (Open j) BelowDemand (lacking j) said_yes))) (from_balanced ok.balanced)
      ∙ cond-false (ltb limit (value j.flow)) (refuse (Open j) ValueOverLimit) (refuse_at (Open j) BelowDemand (lacking j) said_yes) (le-ltb limit (value j.flow) ok.within)
      ∙ ap (λ o. refuse_at (Open j) BelowDemand o said_yes) (from_covers ok.covers)

-- A refusal with a number found, by cases.
pub at_cases : (P : Outcome → Type 0) (v : View) (r : ℕ → Refusal) (o : Option ℕ) (next : Outcome) →
    ((a : ℕ) → o ≡ Some a → P (refuse v (r a))) → (o ≡ None → P next) → P (refuse_at v r o next)
at_cases P v r None next yes' no' = no' refl
at_cases P v r (Some a) next yes' no' = yes' a refl
