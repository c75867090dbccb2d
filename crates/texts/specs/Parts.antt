-- What a reader of fields has left, and what it hands out.
use Rattle.std.specs.Prelude.{◌≡◌, ℕ, ◌+◌, List, [], ◌∷◌, drop, Some, None, Option, ◌==◌}
use Rattle.std.specs.List.{before_first}
use Rattle.std.specs.Option.{ForSome, option_copied}
use Rattle.refusal.specs.declared.Refusal.{Refusal}
use Rattle.refusal.specs.declared.Refusal.TheVariants.{WrongFieldCount}
use Rattle.texts.specs.declared.lines.Line.{Line}
use Rattle.texts.specs.declared.fields.Part.{Part}
use Rattle.texts.specs.declared.fields.Fields.{Fields}
use Rattle.texts.specs.Split.{after_mark, words}

-- the words of what is left of a line; there are none where the line has ended
abbrev pub words_of : Option (List ℕ) → List (List ℕ)
words_of None = []
words_of (Some bs) = words bs

-- the words that are yet to come
abbrev pub words_left : Fields → List (List ℕ)
words_left r = words_of (option_copied r.rest)

-- a reader handed out what it had left up to the next space, with its place, and has left what stands after that, if anything
pub record PartGiven (was : Fields) (part : Part) (is : Fields) : Type 0 where
  pub bytes : ForSome was.rest (λ bs. part.bytes.now ≡ before_first (λ b. b == 32) bs.now)
  pub after : ForSome was.rest (λ bs. option_copied is.rest ≡ after_mark 32 bs.now)
  pub line : part.line ≡ was.line
  pub number : part.number ≡ was.number + 1
  pub counted : is.number ≡ was.number + 1
  pub same_line : is.line ≡ was.line
  pub left : words_left was ≡ part.bytes.now ∷ words_left is

-- no word is left, which is told by the line, and the reader stays as it is
pub record PartMissing (was : Fields) (e : Refusal) (is : Fields) : Type 0 where
  pub error : e ≡ WrongFieldCount was.line
  pub same : is ≡ was
  pub left : words_left was ≡ []

-- a reader with no field left stays as it is
pub record FieldsEnded (was is : Fields) : Type 0 where
  pub same : is ≡ was
  pub left : words_left was ≡ []

-- a reader of a whole line
pub record AllFields (whole : Line) (is : Fields) : Type 0 where
  pub text : option_copied is.rest ≡ Some whole.bytes.now
  pub line : is.line ≡ whole.number
  pub number : is.number ≡ 0
  pub left : words_left is ≡ words whole.bytes.now

-- a reader has gone on by n fields
pub record Moved (n : ℕ) (was is : Fields) : Type 0 where
  pub line : is.line ≡ was.line
  pub number : is.number ≡ was.number + n
  pub left : words_left is ≡ drop n (words_left was)
