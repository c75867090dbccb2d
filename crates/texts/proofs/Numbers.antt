-- A number read digit by digit.
use Rattle.std.proofs.Common.{◌≡◌, ℕ, ◌+◌, ◌-◌, ◌*◌, ◌<◌, ◌≤◌, Bool, true, false, cond, leb, ◌&&◌, List, [], ◌∷◌, length, get_or, drop, Some, None, Option, refl, arith}
use Rattle.std.specs.Char.{is_ascii_digit}
use Rattle.std.specs.Option.{option_and_then}
use Rattle.std.proofs.lemmas.List.{drop_more, drop_all}
use Rattle.std.proofs.lemmas.Bool.{leb-false, lt-leb, le-leb, cond-false, and_right}
use Rattle.texts.specs.Words.{all_digits, value, number_from, with_digit}

value_le : (n : ℕ) (bs : List ℕ) → n ≤ value n bs
value_le n [] = omega arith
value_le n (b ∷ bs) = omega (arith, value_le (n * 10 + (b - 48)) bs)

number_large : (n : ℕ) (bs : List ℕ) → 1000000000 < n → number_from n bs ≡ None
unfolding number_from
number_large n bs h = cond-false _ _ _ (and_right (all_digits bs) _ (lt-leb (value n bs) 1000000000 (omega (arith, value_le n bs))))

-- one digit more, or no number
next : (n b : ℕ) (bs : List ℕ) → number_from n (b ∷ bs) ≡ option_and_then (λ m. number_from m bs) (with_digit n b)
unfolding number_from
next n b bs = by (is_ascii_digit b) (leb v 1000000000) refl refl
  where
    v : ℕ
    v = n * 10 + (b - 48)

    by : (d t : Bool) → is_ascii_digit b ≡ d → leb v 1000000000 ≡ t → number_from n (b ∷ bs) ≡ option_and_then (λ m. number_from m bs) (cond (d && t) (Some v) None)
    by true true e f = rw e
    by true false e f = rw e (number_large v bs (leb-false v 1000000000 f))
    by false t e f = rw e

-- the same where a loop stands at place i
pub number_next : (n i : ℕ) (bs : List ℕ) {r : Option ℕ} → i < length bs → r ≡ with_digit n (get_or bs i 0) → number_from n (drop i bs) ≡ option_and_then (λ m. number_from m (drop (i + 1) bs)) r
number_next n i bs h e = rw (drop_more bs i 0 h, e) (next n (get_or bs i 0) (drop (i + 1) bs))

pub number_end : (n i : ℕ) (bs : List ℕ) → length bs ≤ i → n ≤ 1000000000 → number_from n (drop i bs) ≡ Some n
unfolding number_from
number_end n i bs h e = rw (drop_all i bs h, le-leb n 1000000000 e)
