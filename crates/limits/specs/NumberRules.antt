-- The rules hold for amounts of one number for each limit. A law of an impl cites them, so they stand in specs/.
use Rattle.std.specs.Prelude.{◌≡◌, ℕ, ◌+◌, ◌≤◌, Bool, true, false, List, [], ◌∷◌, map, length, IfSome, None, ◌==◌, nat_le, refl}
use Rattle.std.proofs.Common.{sym, ◌∙◌, add_assoc, add_comm, zero-add, arith}
use Rattle.std.proofs.Math.Dec.{leb-zero}
use Rattle.std.proofs.lemmas.List.{length-map}
use Rattle.std.proofs.lemmas.Bool.{eqb-true, eq-eqb, ne_eqb, and_parts, and_from, leb-true, le-leb, both_ways}
use Rattle.std.specs.Bool.{then_some}
use Rattle.limits.specs.Meaning.{Rules}
use Rattle.limits.specs.Numbers.{numbers, sums, within, length_meaning, vector_meaning}

sums_length : (a b : List ℕ) → length a ≡ length b → length (sums a b) ≡ length a
sums_length [] b e = refl
sums_length (x ∷ a) [] e = omega arith
sums_length (x ∷ a) (y ∷ b) e = let h = sums_length a b (omega arith) in omega arith

sums_assoc : (a b c : List ℕ) → sums (sums a b) c ≡ sums a (sums b c)
sums_assoc [] b c = refl
sums_assoc (x ∷ a) [] c = refl
sums_assoc (x ∷ a) (y ∷ b) [] = refl
sums_assoc (x ∷ a) (y ∷ b) (z ∷ c) = let h = sums_assoc a b c in cc (add_assoc x y z)

sums_comm : (a b : List ℕ) → sums a b ≡ sums b a
sums_comm [] [] = refl
sums_comm [] (y ∷ b) = refl
sums_comm (x ∷ a) [] = refl
sums_comm (x ∷ a) (y ∷ b) = let h = sums_comm a b in cc (add_comm x y)

zeros_neutral : (limits a : List ℕ) → length a ≡ length limits → sums (map (λ _. 0) limits) a ≡ a
zeros_neutral [] [] e = refl
zeros_neutral [] (x ∷ a) e = absurd (omega arith)
zeros_neutral (w ∷ limits) [] e = absurd (omega arith)
zeros_neutral (w ∷ limits) (x ∷ a) e = let h = zeros_neutral limits a (omega arith) in cc (zero-add x)

zeros_within : (limits : List ℕ) → within (map (λ _. 0) limits) limits ≡ true
zeros_within [] = refl
zeros_within (w ∷ limits) = and_from _ _ (leb-zero w) (zeros_within limits)

part_within : (limits a b : List ℕ) → length a ≡ length b → within (sums a b) limits ≡ true → within a limits ≡ true
part_within limits [] b e h = refl
part_within limits (x ∷ a) [] e h = absurd (omega arith)
part_within [] (x ∷ a) (y ∷ b) e h = h
part_within (w ∷ limits) (x ∷ a) (y ∷ b) e h =
    let both = and_parts (nat_le (x + y) w) (within (sums a b) limits) h in
    let low : x ≤ w = omega (arith, leb-true (x + y) w both.0) in
    and_from _ _ (le-leb x w low) (part_within limits a b (omega arith) both.1)

whole_amount : (limits f : List ℕ) (t : Bool) → (length f == length limits) ≡ t → IfSome (then_some t f) (λ a. (length a == length limits) ≡ true)
whole_amount limits f true e = e
whole_amount limits f false e = tt

other_length : (f : List ℕ) (t : Bool) → t ≡ false → then_some t f ≡ None
other_length f true e = absurd (both_ways true e refl)
other_length f false e = refl

pub numbers_rules : (limits : List ℕ) → 1 ≤ length limits → length limits ≤ 4 → Rules (numbers limits)
numbers_rules limits low high = record {
  empty_amount = eq-eqb _ _ (length-map limits (λ _. 0));
  plus_amount = λ a b p q.
      let l = eqb-true (length a) (length limits) p in
      let m = eqb-true (length b) (length limits) q in
      let s = sums_length a b (l ∙ sym m) in
      eq-eqb _ _ (s ∙ l);
  assoc = λ a b c _ _ _. sums_assoc a b c;
  comm = λ a b _ _. sums_comm a b;
  neutral = λ a p. zeros_neutral limits a (eqb-true _ _ p);
  empty_fits = zeros_within limits;
  part_fits = λ a b p q h. part_within limits a b (eqb-true (length a) (length limits) p ∙ sym (eqb-true (length b) (length limits) q)) h;
  weight_amount = λ f. whole_amount limits f _ refl;
  weight_arity = λ f ne. other_length f _ (ne_eqb _ _ ne);
  arity_low = low;
  arity_high = high;
}

pub length_rules : (w : ℕ) → Rules (length_meaning w)
length_rules w = numbers_rules (w ∷ []) (omega arith) (omega arith)

pub vector_rules : (w x y z : ℕ) → Rules (vector_meaning w x y z)
vector_rules w x y z = numbers_rules (w ∷ (x ∷ (y ∷ (z ∷ [])))) (omega arith) (omega arith)
