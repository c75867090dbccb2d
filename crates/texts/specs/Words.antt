-- The forms of a word: a decimal number, a letter, or any other word.
use Rattle.std.specs.Prelude.{ℕ, ◌+◌, ◌-◌, ◌*◌, Bool, true, false, cond, not, ◌&&◌, List, [], ◌∷◌, Some, None, Option, ◌==◌, nat_le}
use Rattle.std.specs.Char.{is_ascii_digit, is_ascii_alphabetic}
use Rattle.std.specs.List.{list_all}
use Rattle.texts.specs.declared.fields.Field.{Field}
use Rattle.texts.specs.declared.fields.Field.TheVariants.{Word, Number, Letter}

-- Decimal numbers

-- all bytes are decimal digits
abbrev pub all_digits : List ℕ → Bool
all_digits bs = list_all is_ascii_digit bs

-- the number spelled by digits that follow those of n
abbrev pub value : ℕ → List ℕ → ℕ
value n [] = n
value n (b ∷ bs) = value (n * 10 + (b - 48)) bs

-- some byte, and no zero before another
abbrev pub no_leading_zero : List ℕ → Bool
no_leading_zero [] = false
no_leading_zero (b ∷ []) = true
no_leading_zero (b ∷ c ∷ bs) = not (b == 48)

-- the number with one digit more, up to 1,000,000,000
abbrev pub with_digit : ℕ → ℕ → Option ℕ
with_digit n b = cond (is_ascii_digit b && nat_le (n * 10 + (b - 48)) 1000000000) (Some (n * 10 + (b - 48))) None

-- a number of at most 1,000,000,000, where digits follow those of n
unfoldable pub number_from : ℕ → List ℕ → Option ℕ
number_from n bs = cond (all_digits bs && nat_le (value n bs) 1000000000) (Some (value n bs)) None

-- the number that decimal digits without a leading zero spell
abbrev pub number_of : List ℕ → Option ℕ
number_of bs = cond (no_leading_zero bs) (number_from 0 bs) None

-- a number where there is one, else a word
abbrev pub numeric : Option ℕ → Field
numeric (Some n) = Number n
numeric None = Word

-- one letter, a number, or else a word
abbrev pub form : List ℕ → Field
form [] = Word
form (b ∷ []) = cond (is_ascii_alphabetic b) (Letter b) (numeric (number_of (b ∷ [])))
form (b ∷ c ∷ bs) = numeric (number_of (b ∷ c ∷ bs))
