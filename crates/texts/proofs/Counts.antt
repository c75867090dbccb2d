-- Words that are counted one by one.
use Rattle.std.proofs.Common.{◌≡◌, ℕ, suc, ◌+◌, ◌-◌, ◌<◌, Bool, true, false, cond, eqb, MatchOption, Option, Some, None, List, [], ◌∷◌, ◌++◌, length, drop, sym, refl, arith}
use Rattle.std.proofs.lemmas.Bool.{cond-false, ne_eqb}
use Rattle.texts.specs.declared.fields.Fields.{Fields}
use Rattle.texts.specs.declared.fields.Part.{Part}
use Rattle.texts.specs.Parts.{words_left, FieldsEnded, PartGiven}
use Rattle.texts.specs.Grammar.{and_then, just, number_at, numbers_at}

one_less : (n i : ℕ) → i < n → n - i ≡ suc (n - (i + 1))
one_less n i h = omega arith

-- one word of several: t says that it is missing or empty
pub just_step : (n i : ℕ) (was is : Fields) (o : Option Part) (t : Bool) → i < n → MatchOption o (FieldsEnded was is) (λ p. PartGiven was p is) → MatchOption o (t ≡ true) (λ p. t ≡ eqb (length p.bytes.now) 0) → just (n - i) (words_left was) ≡ cond t false (just (n - (i + 1)) (words_left is))
just_step n i was is None t h ended e = rw (one_less n i h, ended.left, e)
just_step n i was is (Some p) t h given e = rw (one_less n i h, given.left, e) (word p.bytes.now)
  where
    word : (w : List ℕ) → just (suc (n - (i + 1))) (w ∷ words_left is) ≡ cond (eqb (length w) 0) false (just (n - (i + 1)) (words_left is))
    word [] = refl
    word (b ∷ w) = sym (cond-false _ _ _ (ne_eqb (length (b ∷ w)) 0 (λ e. omega arith)))

-- one number more of n, where i are read
pub numbers_step : (line k n i : ℕ) (ws : List (List ℕ)) (xs : List ℕ) → i < n → numbers_at line k (n - i) ws xs ≡ and_then (number_at 0 1000000000 line k ws) (λ x. numbers_at line (k + 1) (n - (i + 1)) (drop 1 ws) (xs ++ x ∷ []))
unfolding numbers_at
numbers_step line k n i ws xs h = rw (one_less n i h)
