-- Lines and words of a written text.
use Rattle.std.proofs.Common.{◌≡◌, ℕ, zero, suc, ◌<◌, ◌≤◌, true, false, eqb, leb, List, [], ◌∷◌, ◌++◌, map, length, get_or, Some, decimal, refl, ap, ◌∙◌, arith, rules}
use Rattle.std.specs.Char.{is_ascii_digit, is_ascii_alphabetic}
use Rattle.std.specs.List.{All, AllByRecursion, onto_first}
use Rattle.std.proofs.ByRecursion.{All-append, All-weaker}
use Rattle.std.proofs.lemmas.List.Elements.{All-from_recursion}
use Rattle.std.proofs.lemmas.List.Splits.{slice_split_at, slice_split_none}
use Rattle.std.proofs.lemmas.Fmt.{decimal_digit, digits_decimal, digits_value-decimal, first_decimal, length-decimal-le, decimal_nonempty}
use Rattle.std.proofs.lemmas.Str.Parse.{IsNumeralModel, numerals_by_fold}
use Rattle.std.proofs.lemmas.Bool.{and_parts, and_from, le-leb, ne_eqb, leb-true, not_from_false, both_ways, cond-true, cond-false}
use Rattle.std.proofs.lemmas.Bool.Decides.{nat_tests}
use Rattle.texts.specs.declared.fields.Field.TheVariants.{Number}
use Rattle.texts.specs.Split.{lines, words}
use Rattle.texts.specs.Words.{form, numeric, number_of, all_digits, value, no_leading_zero, number_from}
use Rattle.texts.specs.Grammar.{printable}
use Rattle.texts.specs.Valid.{Within}
use Rattle.texts.specs.Written.{spaced, text_of}

-- a word of a text: 1 to 16 printable bytes other than space
pub record Clean (w : List ℕ) : Type 0 where
  pub size : Within 1 16 (length w)
  pub bytes : AllByRecursion (Within 33 126) w

other : (low b mark : ℕ) → low ≤ b → mark < low → eqb b mark ≡ false
other low b mark h l = ne_eqb b mark (λ e. omega arith)

-- The words of a line

-- no space stands in a word
no_space : (w : List ℕ) → AllByRecursion (Within 33 126) w → All (λ b. eqb b 32 ≡ false) w
no_space w a = All-from_recursion _ w (All-weaker (Within 33 126) (λ b. eqb b 32 ≡ false) (λ b h. other 33 b 32 h.0 (omega arith)) w a)

pub words_spaced : (w : List ℕ) (ws : List (List ℕ)) → AllByRecursion Clean (w ∷ ws) → words (spaced (w ∷ ws)) ≡ w ∷ ws
unfolding words
words_spaced w [] a = slice_split_none (λ b. eqb b 32) w (no_space w a.0.bytes)
words_spaced w (v ∷ ws) a = slice_split_at (λ b. eqb b 32) w 32 (spaced (v ∷ ws)) (no_space w a.0.bytes) refl ∙ ap (λ l. w ∷ l) (words_spaced v ws a.1)

-- The lines of a text

-- bytes that may stand in a line
abbrev Line : List ℕ → Type 0
Line x = AllByRecursion (Within 32 126) x

-- a word may stand in a line
word_line : (w : List ℕ) → AllByRecursion (Within 33 126) w → Line w
word_line w a = All-weaker (Within 33 126) (Within 32 126) (λ b h. (omega (arith, h.0), h.1)) w a

pub spaced_line : (ws : List (List ℕ)) → AllByRecursion Clean ws → Line (spaced ws)
spaced_line [] a = tt
spaced_line (w ∷ []) a = word_line w a.0.bytes
spaced_line (w ∷ v ∷ ws) a = All-append (Within 32 126) w (32 ∷ spaced (v ∷ ws)) (word_line w a.0.bytes) ((omega arith, omega arith), spaced_line (v ∷ ws) a.1)

pub line_printable : (x : List ℕ) → Line x → printable x ≡ true
line_printable [] a = refl
line_printable (b ∷ x) a = and_from _ _ (and_from _ _ (le-leb 32 b a.0.0) (le-leb b 126 a.0.1)) (line_printable x a.1)

first_line : (x rest : List ℕ) → Line x → lines (x ++ 10 ∷ rest) ≡ x ∷ lines rest
unfolding lines
first_line [] rest a = refl
first_line (b ∷ x) rest a = cond-false _ _ _ (other 32 b 10 a.0.0 (omega arith)) ∙ ap (onto_first b) (first_line x rest a.1)

pub lines_text : (ls : List (List (List ℕ))) → AllByRecursion (AllByRecursion Clean) ls → lines (text_of ls) ≡ map spaced ls
unfolding lines
lines_text [] a = refl
lines_text (ws ∷ ls) a = first_line (spaced ws) (text_of ls) (spaced_line ws a.0) ∙ ap (λ l. spaced ws ∷ l) (lines_text ls a.1)

-- Numbers

own : IsNumeralModel (λ ds. all_digits ds ≡ true) (value 0)
own = numerals_by_fold _ (search rules) value (search rules)

digit_letter : (b : ℕ) → is_ascii_digit b ≡ true → is_ascii_alphabetic b ≡ false
digit_letter b h = grind (arith, nat_tests)

number_digits : (bs : List ℕ) (n : ℕ) → all_digits bs ≡ true → no_leading_zero bs ≡ true → value 0 bs ≡ n → n ≤ 1000000000 → number_of bs ≡ Some n
unfolding number_from
number_digits bs n d z v h = cond-true _ _ _ z ∙ cond-true _ _ _ (and_from _ _ d (le-leb (value 0 bs) 1000000000 (omega arith))) ∙ ap Some v

form_digits : (bs : List ℕ) (n : ℕ) → all_digits bs ≡ true → no_leading_zero bs ≡ true → value 0 bs ≡ n → n ≤ 1000000000 → form bs ≡ Number n
form_digits [] n d z v h = absurd (both_ways false refl z)
form_digits (b ∷ []) n d z v h = cond-false _ _ _ (digit_letter b (and_parts (is_ascii_digit b) true d).0) ∙ ap numeric (number_digits (b ∷ []) n d z v h)
form_digits (b ∷ c ∷ bs) n d z v h = ap numeric (number_digits (b ∷ c ∷ bs) n d z v h)

no_zero : (bs : List ℕ) → 0 < length bs → 48 < get_or bs 0 0 → no_leading_zero bs ≡ true
no_zero [] l h = absurd (omega arith)
no_zero (b ∷ []) l h = refl
no_zero (b ∷ c ∷ bs) l h = not_from_false _ (ne_eqb b 48 (λ e. omega arith))

digits_bytes : (bs : List ℕ) → all_digits bs ≡ true → AllByRecursion (Within 33 126) bs
digits_bytes [] d = tt
digits_bytes (b ∷ bs) d =
    let p = and_parts (is_ascii_digit b) (all_digits bs) d in
    let q = and_parts (leb 48 b) (leb b 57) p.0 in
    let low = leb-true 48 b q.0 in
    let high = leb-true b 57 q.1 in
    ((omega arith, omega arith), digits_bytes bs p.1)

decimal_starts : (n : ℕ) → n ≤ 1000000000 → no_leading_zero (decimal n) ≡ true
decimal_starts zero h = ap no_leading_zero (decimal_digit 0 (omega arith))
decimal_starts (suc n) h = no_zero _ (decimal_nonempty (suc n) (omega arith)) (first_decimal (suc n) (omega arith) (omega arith))

pub decimal_form : (n : ℕ) → n ≤ 1000000000 → form (decimal n) ≡ Number n
decimal_form n h = form_digits (decimal n) n (digits_decimal own n (omega arith)) (decimal_starts n h) (digits_value-decimal own n (omega arith)) h

pub decimal_clean : (n : ℕ) → n ≤ 1000000000 → Clean (decimal n)
decimal_clean n h =
    let some = decimal_nonempty n (omega arith) in
    let short = length-decimal-le 10 n (omega arith) (omega arith) (omega arith) in
    record { size = (omega arith, omega arith); bytes = digits_bytes _ (digits_decimal own n (omega arith)) }
