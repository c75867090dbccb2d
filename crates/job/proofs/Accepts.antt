-- The ways out of accept.
use Rattle.std.proofs.Common.{◌≡◌, ℕ, suc, ◌<◌, ◌≤◌, cond, ltb, List, ◌++◌, drop, [], Some, None, Option, sym, ap, ◌∙◌, subst, arith, MutBor}
use Rattle.std.proofs.lemmas.List.{take-append-drop}
use Rattle.std.proofs.lemmas.Bool.{cond-true, cond-false, lt-ltb, le-ltb}
use Rattle.arrayvec.specs.ArrayVec.{ArrayVec, with_items}
use Rattle.graph.specs.declared.Row.{Row}
use Rattle.flow.specs.Scans.{holding}
use Rattle.flow.specs.declared.ItemRecord.{ItemRecord}
use Rattle.refusal.specs.declared.Refusal.TheVariants.{Unbalanced, ValueOverLimit, BelowDemand}
use Rattle.flow.specs.Flow.{copies_of, value, carrying}
use Rattle.flow.specs.Job.{limit, Content, View.Open, View.Accepted, Call.Accept, Reply.Worth, Answer.Done, Outcome, refuse, refuse_at, unbalanced, lacking, accept}
use Rattle.flow.proofs.Accept.{balanced_from}
use Rattle.job.specs.declared.state.State.TheVariants
use Rattle.job.specs.declared.job.Job.{Job}
use Rattle.job.specs.View.{graph_of, flow_of, arcs_of, content, shown}
use Rattle.job.specs.Contract.{Follows}
use Rattle.job.specs.Changes.{LeftsSet}
use Rattle.job.proofs.Facts.{loaded_open}
use Rattle.job.proofs.Follow.{Whole, stays, follows, holds_now}
use Rattle.job.proofs.Records.{retold}

module _ (j : Content) where
  abbrev agreed : Outcome
  agreed = (Done (Worth (value j.flow) (carrying j.flow)), Accepted j)

  abbrev covered : Outcome
  covered = refuse_at (Open j) BelowDemand (lacking j) agreed

  balance : (o : Option ℕ) → unbalanced j ≡ o → accept (Open j) ≡ refuse_at (Open j) Unbalanced o (cond (ltb limit (value j.flow)) (refuse (Open j) ValueOverLimit) covered)
  balance o e = ap (λ o. refuse_at (Open j) Unbalanced o (cond (ltb limit (value j.flow)) (refuse (Open j) ValueOverLimit) covered)) e

  pub accept_uneven : (v : ℕ) → unbalanced j ≡ Some v → accept (Open j) ≡ refuse (Open j) (Unbalanced v)
  accept_uneven v e = balance (Some v) e

  pub accept_large : unbalanced j ≡ None → limit < value j.flow → accept (Open j) ≡ refuse (Open j) ValueOverLimit
  accept_large even lt = balance None even ∙ cond-true _ _ _ (lt-ltb limit (value j.flow) lt)

  module _ (even : unbalanced j ≡ None) (small : value j.flow ≤ limit) where
    demand : (o : Option ℕ) → lacking j ≡ o → accept (Open j) ≡ refuse_at (Open j) BelowDemand o agreed
    demand o e = balance None even ∙ cond-false _ _ _ (le-ltb limit (value j.flow) small) ∙ ap (λ o. refuse_at (Open j) BelowDemand o agreed) e

    pub accept_short : (i : ℕ) → lacking j ≡ Some i → accept (Open j) ≡ refuse (Open j) (BelowDemand i)
    accept_short i e = demand (Some i) e

    pub accept_done : lacking j ≡ None → accept (Open j) ≡ agreed
    accept_done e = demand None e

-- what a scan of the job's graph and flow finds
pub uneven : (b : Job) (g : List Row) (f : List ℕ) → g ≡ graph_of b → f ≡ flow_of b → unbalanced (holding g f []) ≡ unbalanced (content b)
uneven b g f rows arcs = λ i. unbalanced (holding (rows i) (arcs i) [])

-- the records xs of a job, as new, told of the flow f on graph g
pub tallied : (b : Job) (g : List Row) (f : List ℕ) (xs new : List ItemRecord) → g ≡ graph_of b → f ≡ flow_of b → xs ≡ b.items.items → LeftsSet xs new (λ i. copies_of g f (suc i)) →
    LeftsSet b.items.items (with_items b.items new).items (λ i. copies_of (graph_of b) (flow_of b) (suc i))
tallied b g f xs new rows arcs is h =
    retold b.items (λ _ i. copies_of (graph_of b) (flow_of b) (suc i)) xs new is
    (subst (λ k. LeftsSet xs new (λ i. copies_of (graph_of b) k (suc i))) arcs (subst (λ k. LeftsSet xs new (λ i. copies_of k f (suc i))) rows h))

-- accept, done, with the cells r that the job had
module _ (b : Job) (t : ArrayVec ItemRecord) (opened : b.state ≡ TheVariants.Open) (h : LeftsSet b.items.items t.items (λ i. copies_of (graph_of b) (flow_of b) (suc i))) (even : unbalanced (content b) ≡ None)
    (r : MutBor (List ℕ)) (same : r ≡ b.cells) where
  wrote : r.now ≡ flow_of b ++ drop (arcs_of b) b.cells.now
  wrote = ap (λ c. c.now) same ∙ sym (take-append-drop (arcs_of b) b.cells.now)

  pub accepted_stays : Whole TheVariants.Accepted (graph_of b) r.now t.items
  accepted_stays =
      let l = loaded_open b opened in
      stays b (flow_of b) (holds_now b l) r.now wrote TheVariants.Accepted t.items l
      (λ e. record { balanced = balanced_from (content b) even; left = λ i lt. h.told i (omega (arith, h.long)) }) h.demands

  pub accepted : (whole : Whole TheVariants.Accepted (graph_of b) r.now t.items) (z n : ℕ) → z ≡ value (flow_of b) → z ≤ limit → lacking (content b) ≡ None → n ≡ carrying (flow_of b) →
      Follows b (record { rows = b.rows; cells = r; items = t; state = TheVariants.Accepted; sound = whole }) Accept (Done (Worth z n))
  accepted whole z n is small short counts =
      follows b r t TheVariants.Accepted whole (flow_of b) (holds_now b (loaded_open b opened)) wrote Accept (Worth z n) (ap (λ c. c.ghost_name) same) h.demands
      (ap (λ s. accept (shown s (content b))) opened ∙ accept_done (content b) even (omega arith) short ∙ (λ i. (Done (Worth (sym is i) (sym counts i)), Accepted (content b))))
