-- What a job answers to questions.
use Rattle.std.proofs.Common.{◌≡◌, ℕ, suc, ◌-◌, ◌<◌, ◌≤◌, true, false, ◌&&◌, ltb, leb, ◌⊎◌, length, get_or, sym, refl, ap, ◌∙◌, inl, inr, arith}
use Rattle.std.proofs.lemmas.Bool.{cond-true, cond-false, and_left, and_right, and_from, le-leb, lt-leb, lt-ltb, le-ltb}
use Rattle.refusal.specs.declared.Refusal.TheVariants.{Absent}
use Rattle.flow.specs.Flow.{copies_of}
use Rattle.flow.specs.Job.{Content, Call.Ask, Question.CopiesLeft, Answer, Answer.Refused, Fact.Amount, Outcome, told, step, unless_empty}
use Rattle.flow.specs.Scans.{no_item}
use Rattle.job.specs.declared.state.State.{State}
use Rattle.job.specs.declared.state.State.TheVariants
use Rattle.job.specs.declared.job.Job.{Job}
use Rattle.job.specs.View.{graph_of, flow_of, count_of, demanded, content, size, shown, view}
use Rattle.job.proofs.Facts.{kept, demands_count}
use Rattle.job.proofs.Follow.{when_accepted}

pub asked_loaded : (s : State) → (s ≡ TheVariants.Empty → ⊥) → (answer : Content → Answer) (j : Content) → unless_empty answer (shown s j) ≡ answer j
asked_loaded TheVariants.Empty ne answer j = absurd (ne refl)
asked_loaded TheVariants.Open ne answer j = refl
asked_loaded TheVariants.Accepted ne answer j = refl

-- a question about what is loaded
pub asks : (b : Job) (answer : Content → Answer) (r : Answer) → (b.state ≡ TheVariants.Empty → ⊥) → answer (content b) ≡ r → ◌≡◌ {A = Outcome} (unless_empty answer (view b), view b) (r, view b)
asks b answer r ne says = ap (λ x. (x, view b)) (asked_loaded b.state ne answer (content b) ∙ says)

-- the copies left of an item that is not there, or is
module _ (b : Job) (accepted : b.state ≡ TheVariants.Accepted) (i : ℕ) where
  pub no_copies : (i ≡ 0) ⊎ (count_of b < i) → step (size b) (view b) (Ask (CopiesLeft i)) ≡ (Refused (Absent i), view b)
  no_copies h = when_accepted b (Ask (CopiesLeft i)) _ _ accepted (ap (λ x. (x, shown TheVariants.Accepted (content b))) (cond-false _ _ _ (out h)))
    where
      out : (i ≡ 0) ⊎ (count_of b < i) → (ltb 0 i && leb i (length (demanded b))) ≡ false
      out (inl e) = and_left (ltb 0 i) _ (le-ltb 0 i (omega arith))
      out (inr lt) = and_right (ltb 0 i) (leb i (length (demanded b))) (lt-leb i (length (demanded b)) (omega (arith, demands_count b)))

  pub some_copies : (i ≡ 0 → ⊥) → i ≤ count_of b → step (size b) (view b) (Ask (CopiesLeft i)) ≡ (told (Amount (get_or b.items.items (i - 1) no_item).left), view b)
  some_copies ne le = when_accepted b (Ask (CopiesLeft i)) _ _ accepted (ap (λ x. (x, shown TheVariants.Accepted (content b))) (cond-true _ _ _ inside ∙ ap (λ x. told (Amount x)) left_is))
    where
      inside : (ltb 0 i && leb i (length (demanded b))) ≡ true
      inside = and_from (ltb 0 i) _ (lt-ltb 0 i (omega arith)) (le-leb i (length (demanded b)) (omega (arith, demands_count b)))

      left_is : copies_of (graph_of b) (flow_of b) i ≡ (get_or b.items.items (i - 1) no_item).left
      left_is = ap (copies_of (graph_of b) (flow_of b)) (let e : i ≡ suc (i - 1) = omega arith in e) ∙ sym (((kept b).settled accepted).left (i - 1) (omega arith))
