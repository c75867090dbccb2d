-- What a kind of limit means, as plain mathematics: which lists of numbers are amounts, how they add up, which of them fit,
-- and what a list of fields weighs.
use Rattle.std.specs.Prelude.{◌≡◌, ℕ, ◌≤◌, Bool, true, ◌≢◌, List, length, IfSome, None, Option}
use Rattle.std.specs.Bool.{then_some}

-- What a kind of limit means.
pub record Meaning : Type 0 where
  -- the number of fields
  pub arity : ℕ
  -- which lists are amounts
  pub amount : List ℕ → Bool
  pub empty : List ℕ
  pub plus : List ℕ → List ℕ → List ℕ
  pub fits : List ℕ → Bool
  -- the amount of a list of fields, if it has one
  pub weight : List ℕ → Option (List ℕ)

-- an amount, where it fits
abbrev pub fitting : Meaning → List ℕ → Option (List ℕ)
fitting k a = then_some (k.fits a) a

-- the sum of two amounts, where it fits
abbrev pub joined : Meaning → List ℕ → List ℕ → Option (List ℕ)
joined k a b = fitting k (k.plus a b)

-- The rules of a kind. Those on sums speak of amounts only.
pub record Rules (k : Meaning) : Type 0 where
  pub empty_amount : k.amount k.empty ≡ true
  pub plus_amount : (a b : List ℕ) → k.amount a ≡ true → k.amount b ≡ true → k.amount (k.plus a b) ≡ true
  pub assoc : (a b c : List ℕ) → k.amount a ≡ true → k.amount b ≡ true → k.amount c ≡ true → k.plus (k.plus a b) c ≡ k.plus a (k.plus b c)
  pub comm : (a b : List ℕ) → k.amount a ≡ true → k.amount b ≡ true → k.plus a b ≡ k.plus b a
  pub neutral : (a : List ℕ) → k.amount a ≡ true → k.plus k.empty a ≡ a
  pub empty_fits : k.fits k.empty ≡ true
  -- a part of what fits, fits; by `comm` the other part does too
  pub part_fits : (a b : List ℕ) → k.amount a ≡ true → k.amount b ≡ true → k.fits (k.plus a b) ≡ true → k.fits a ≡ true
  pub weight_amount : (f : List ℕ) → IfSome (k.weight f) (λ a. k.amount a ≡ true)
  pub weight_arity : (f : List ℕ) → length f ≢ k.arity → k.weight f ≡ None
  pub arity_low : 1 ≤ k.arity
  pub arity_high : k.arity ≤ 4
