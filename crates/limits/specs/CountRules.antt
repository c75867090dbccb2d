-- The rules hold for a count over a kind, if they hold for the kind. A law of an impl cites them, so they stand in specs/.
use Rattle.std.specs.Prelude.{◌≡◌, ℕ, ◌+◌, ◌≤◌, true, false, List, [], ◌∷◌, IfSome, Some, None, Option, nat_le, refl}
use Rattle.std.proofs.Common.{ap, add_assoc, add_comm, zero-add, arith}
use Rattle.std.proofs.Math.Dec.{leb-zero}
use Rattle.std.proofs.lemmas.Bool.{and_parts, and_from, leb-true, le-leb, both_ways}
use Rattle.std.specs.Option.{option_map}
use Rattle.limits.specs.Meaning.{Meaning, Rules}
use Rattle.limits.specs.Counted.{counted_meaning, counted_amount, counted_plus, counted_fits}

module _ (most : ℕ) (k : Meaning) (rules : Rules k) where
  counted_plus_amount : (a b : List ℕ) → counted_amount k a ≡ true → counted_amount k b ≡ true → counted_amount k (counted_plus k a b) ≡ true
  counted_plus_amount [] b p q = p
  counted_plus_amount (m ∷ a) [] p q = q
  counted_plus_amount (m ∷ a) (n ∷ b) p q = rules.plus_amount a b p q

  counted_assoc : (a b c : List ℕ) → counted_amount k a ≡ true → counted_amount k b ≡ true → counted_amount k c ≡ true → counted_plus k (counted_plus k a b) c ≡ counted_plus k a (counted_plus k b c)
  counted_assoc [] b c p q r = refl
  counted_assoc (l ∷ a) [] c p q r = refl
  counted_assoc (l ∷ a) (m ∷ b) [] p q r = refl
  counted_assoc (l ∷ a) (m ∷ b) (n ∷ c) p q r = let h = rules.assoc a b c p q r in cc (add_assoc l m n)

  counted_comm : (a b : List ℕ) → counted_amount k a ≡ true → counted_amount k b ≡ true → counted_plus k a b ≡ counted_plus k b a
  counted_comm [] [] p q = refl
  counted_comm [] (n ∷ b) p q = refl
  counted_comm (m ∷ a) [] p q = refl
  counted_comm (m ∷ a) (n ∷ b) p q = let h = rules.comm a b p q in cc (add_comm m n)

  counted_neutral : (a : List ℕ) → counted_amount k a ≡ true → counted_plus k (0 ∷ k.empty) a ≡ a
  counted_neutral [] p = refl
  counted_neutral (n ∷ a) p = let h = rules.neutral a p in cc (zero-add n)

  counted_part : (a b : List ℕ) → counted_amount k a ≡ true → counted_amount k b ≡ true → counted_fits most k (counted_plus k a b) ≡ true → counted_fits most k a ≡ true
  counted_part [] b p q h = h
  counted_part (m ∷ a) [] p q h = absurd (both_ways false refl h)
  counted_part (m ∷ a) (n ∷ b) p q h =
      let both = and_parts (nat_le (m + n) most) (k.fits (k.plus a b)) h in
      let low : m ≤ most = omega (arith, leb-true (m + n) most both.0) in
      and_from _ _ (le-leb m most low) (rules.part_fits a b p q both.1)

  counted_weight : (w : Option (List ℕ)) → IfSome w (λ a. k.amount a ≡ true) → IfSome (option_map (λ a. 1 ∷ a) w) (λ a. counted_amount k a ≡ true)
  counted_weight None h = tt
  counted_weight (Some a) h = h

  pub counted_rules : Rules (counted_meaning most k)
  counted_rules = record {
    empty_amount = rules.empty_amount;
    plus_amount = counted_plus_amount;
    assoc = counted_assoc;
    comm = counted_comm;
    neutral = counted_neutral;
    empty_fits = and_from _ _ (leb-zero most) rules.empty_fits;
    part_fits = counted_part;
    weight_amount = λ f. counted_weight (k.weight f) (rules.weight_amount f);
    weight_arity = λ f ne. ap (option_map (λ a. 1 ∷ a)) (rules.weight_arity f ne);
    arity_low = rules.arity_low;
    arity_high = rules.arity_high;
  }
