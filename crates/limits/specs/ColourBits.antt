-- A word has its colours in rising order. A law of an impl cites this, so it stands in specs/.
use Rattle.std.specs.Prelude.{◌≡◌, ℕ, zero, suc, ◌+◌, ◌/◌, ◌%◌, ◌<◌, ◌≤◌, true, ◌⊎◌, ◌∷◌, ◌==◌, refl}
use Rattle.std.proofs.Common.{inl, inr, arith}
use Rattle.std.proofs.lemmas.Nat.{mod_below}
use Rattle.std.proofs.lemmas.Bool.{eq-eqb, ne_eqb, cond-true, cond-false}
use Rattle.limits.specs.Colours.{rising, digits, members}
use Rattle.limits.specs.ColourRules.{rising_cons, rising_lower}

pub parity : (n : ℕ) → (n % 2 ≡ 0) ⊎ (n % 2 ≡ 1)
parity n = digit (n % 2) (mod_below n 2 (omega arith))
  where
    digit : (d : ℕ) → d < 2 → (d ≡ 0) ⊎ (d ≡ 1)
    digit zero h = inl refl
    digit (suc zero) h = inr refl
    digit (suc (suc d)) h = absurd (omega arith)

pub digits_even : (k low n : ℕ) → n % 2 ≡ 0 → digits (suc k) low n ≡ digits k (suc low) (n / 2)
digits_even k low n e = cond-false (n % 2 == 1) _ _ (ne_eqb (n % 2) 1 (λ h. omega arith))

pub digits_odd : (k low n : ℕ) → n % 2 ≡ 1 → digits (suc k) low n ≡ low ∷ digits k (suc low) (n / 2)
digits_odd k low n e = cond-true (n % 2 == 1) _ _ (eq-eqb (n % 2) 1 e)

digits_rising_at : (k low n : ℕ) → low < 64 → rising (suc low) (digits k (suc low) (n / 2)) ≡ true → (n % 2 ≡ 0) ⊎ (n % 2 ≡ 1) → rising low (digits (suc k) low n) ≡ true
digits_rising_at k low n p h (inl e) = rw (digits_even k low n e) (rising_lower low (suc low) _ (omega arith) h)
digits_rising_at k low n p h (inr e) = rw (digits_odd k low n e) (rising_cons low low _ (omega arith) p h)

pub digits_rising : (k low n : ℕ) → low + k ≤ 64 → rising low (digits k low n) ≡ true
digits_rising zero low n p = refl
digits_rising (suc k) low n p = digits_rising_at k low n (omega arith) (digits_rising k (suc low) (n / 2) (omega arith)) (parity n)

pub members_rising : (n : ℕ) → rising 0 (members n) ≡ true
unfolding members
members_rising n = digits_rising 64 0 n (omega arith)
