-- Texts with what they spell, or why they are refused.
use Rattle.std.specs.Prelude.{◌≡◌, ℕ, List, [], ◌∷◌, ◌++◌, Some, None, Ok, Err, codes}
use Prim.Native.String.{String}
use Rattle.refusal.specs.declared.Refusal.TheVariants.{BadByte, NotANumber, WrongFieldCount, UnknownLetter, OutOfRange, BadName, MalformedText, WrongLineCount}
use Rattle.texts.specs.declared.instance.Base.TheVariants.{Length, Vector, Colours}
use Rattle.texts.specs.Grammar.{reads}

-- lines, each with its line feed
abbrev pub text_from : List String → List ℕ
text_from [] = []
text_from (l ∷ ls) = codes l ++ (10 ∷ text_from ls)

-- what is read of some texts
pub record Examples : Type 0 where
  pub boards : reads (text_from ("1" ∷ "L 5" ∷ "2" ∷ "board 3 1" ∷ "rail 2 2" ∷ [])) ≡ Ok (record { limits = record { base = Length 5; count = None }; items = record { name = codes "board"; line = 4; fields = 3 ∷ []; demand = 1 } ∷ record { name = codes "rail"; line = 5; fields = 2 ∷ []; demand = 2 } ∷ [] })
  pub colours : reads (text_from ("2" ∷ "C 1" ∷ "N 100000" ∷ "1" ∷ "red 0 2" ∷ [])) ≡ Ok (record { limits = record { base = Colours 1; count = Some 100000 }; items = record { name = codes "red"; line = 5; fields = 0 ∷ []; demand = 2 } ∷ [] })
  pub vector : reads (text_from ("1" ∷ "V 0 1 2 1000000000" ∷ "1" ∷ "~ 3 2 1 1000000000 4095" ∷ [])) ≡ Ok (record { limits = record { base = Vector (0 ∷ 1 ∷ 2 ∷ 1000000000 ∷ []); count = None }; items = record { name = codes "~"; line = 4; fields = 3 ∷ 2 ∷ 1 ∷ 1000000000 ∷ []; demand = 4095 } ∷ [] })
  pub empty : reads [] ≡ Err MalformedText
  pub cut : reads (codes "1") ≡ Err MalformedText
  pub early : reads (text_from ("1" ∷ "L 5" ∷ [])) ≡ Err (WrongLineCount 3)
  pub late : reads (text_from ("1" ∷ "L 5" ∷ "1" ∷ "a 1 1" ∷ "b 1 1" ∷ [])) ≡ Err (WrongLineCount 5)
  pub tab : reads (text_from ("1" ∷ "L 5" ∷ []) ++ (9 ∷ 10 ∷ [])) ≡ Err (BadByte 3)
  pub zero_first : reads (text_from ("01" ∷ [])) ≡ Err (NotANumber 1 1)
  pub too_large : reads (text_from ("1" ∷ "L 1000000001" ∷ [])) ≡ Err (NotANumber 2 2)
  pub late_byte : reads (text_from ("1" ∷ "L 5" ∷ "1" ∷ "a 1 1" ∷ []) ++ (9 ∷ 10 ∷ [])) ≡ Err (WrongLineCount 5)
  pub two_spaces : reads (text_from ("1" ∷ "L  5" ∷ [])) ≡ Err (WrongFieldCount 2)
  pub letter_first : reads (text_from ("1" ∷ "X" ∷ [])) ≡ Err (UnknownLetter 2 1)
  pub count_first : reads (text_from ("1" ∷ "N 5" ∷ [])) ≡ Err (UnknownLetter 2 1)
  pub letter_before_count : reads (text_from ("1" ∷ "X 5 5" ∷ [])) ≡ Err (UnknownLetter 2 1)
  pub second_letter : reads (text_from ("2" ∷ "L 5" ∷ "L 5" ∷ [])) ≡ Err (UnknownLetter 3 1)
  pub no_limits : reads (text_from ("0" ∷ [])) ≡ Err (OutOfRange 1 1)
  pub no_length : reads (text_from ("1" ∷ "L 0" ∷ [])) ≡ Err (OutOfRange 2 2)
  pub demand : reads (text_from ("1" ∷ "V 0 0 0 9" ∷ "1" ∷ "a 1 2 3 4 4096" ∷ [])) ≡ Err (OutOfRange 4 6)
  pub digit_first : reads (text_from ("1" ∷ "L 5" ∷ "1" ∷ "1a 1 1" ∷ [])) ≡ Err (BadName 4 1)
  pub long_name : reads (text_from ("1" ∷ "L 5" ∷ "1" ∷ "abcdefghijklmnopq 1 1" ∷ [])) ≡ Err (BadName 4 1)
  pub name_before_field : reads (text_from ("1" ∷ "L 5" ∷ "1" ∷ "1a x 0" ∷ [])) ≡ Err (BadName 4 1)
  pub name_again : reads (text_from ("1" ∷ "L 5" ∷ "2" ∷ "a 1 1" ∷ "a 2 1" ∷ [])) ≡ Err (BadName 5 1)
