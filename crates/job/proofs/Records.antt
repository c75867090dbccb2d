-- Writing the copies left, record by record.
use Rattle.std.proofs.Common.{◌≡◌, ℕ, ◌<◌, ◌≤◌, List, length, get_or, sym, ap, ◌∙◌, subst, arith}
use Rattle.std.proofs.lemmas.List.{get_or-map, length-map, ext_get_or}
use Rattle.arrayvec.specs.ArrayVec.{ArrayVec, with_items}
use Rattle.arrayvec.proofs.ArrayVecLemmas.{items-with_items}
use Rattle.flow.specs.declared.ItemRecord.{ItemRecord}
use Rattle.flow.specs.Scans.{no_item, demands_of}
use Rattle.job.specs.Changes.{LeftsSet}

-- the records b with these copies left in the first n of them, which are c
pub record LeftsTo (b c : List ItemRecord) (n : ℕ) (left : ℕ → ℕ) : Type 0 where
  pub long : length c ≡ length b
  pub demand : (i : ℕ) → (get_or c i no_item).demand ≡ (get_or b i no_item).demand
  pub told : (i : ℕ) → i < n → (get_or c i no_item).left ≡ left i
  pub rest : (i : ℕ) → n ≤ i → (get_or c i no_item).left ≡ (get_or b i no_item).left

pub lefts_end : (b c : List ItemRecord) (n : ℕ) (left : ℕ → ℕ) → LeftsTo b c n left → length b ≤ n → LeftsSet b c left
lefts_end b c n left h le = record {
  long = h.long;
  demands = ext_get_or 0 (demands_of c) (demands_of b) (length-map c demand ∙ h.long ∙ sym (length-map b demand))
      (λ i lt. get_or-map demand c i no_item 0 (omega (arith, length-map c demand)) ∙ h.demand i ∙ sym (get_or-map demand b i no_item 0 (omega (arith, length-map c demand, h.long))));
  told = λ i lt. h.told i (omega arith);
}
  where
    demand : ItemRecord → ℕ
    demand r = r.demand

-- records that were written as the slice of a vector
pub retold : (v : ArrayVec ItemRecord) (left : List ItemRecord → ℕ → ℕ) (xs new : List ItemRecord) → xs ≡ v.items → LeftsSet xs new (left xs) → LeftsSet v.items (with_items v new).items (left v.items)
retold v left xs new is h =
    subst (λ ys. LeftsSet v.items ys (left v.items)) (sym (items-with_items v new (h.long ∙ ap length is))) (subst (λ ys. LeftsSet ys new (left ys)) is h)
