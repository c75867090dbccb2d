-- What a reader of lines has left, and what it hands out.
use Rattle.std.specs.Prelude.{◌≡◌, ℕ, ◌+◌, List, [], ◌∷◌, drop, Ok, ◌==◌}
use Rattle.std.specs.Borrow.{Bor}
use Rattle.std.specs.List.{after_first, before_first}
use Rattle.texts.specs.Grammar.{Read, and_then}
use Rattle.texts.specs.declared.lines.Line.{Line}
use Rattle.texts.specs.declared.lines.Lines.{Lines}
use Rattle.texts.specs.Split.{lines}

-- the lines that are yet to come
abbrev pub lines_left : Lines → List (List ℕ)
lines_left r = lines r.rest.now

-- a reader handed out what it had left up to the next line feed, with its number, and has left what stands after that
pub record LineGiven (was : Lines) (line : Line) (is : Lines) : Type 0 where
  pub part : line.bytes.now ≡ before_first (λ b. b == 10) was.rest.now
  pub after : is.rest.now ≡ after_first (λ b. b == 10) was.rest.now
  pub number : line.number ≡ was.number + 1
  pub counted : is.number ≡ was.number + 1
  pub left : lines_left was ≡ line.bytes.now ∷ lines_left is

-- a reader with no line left stays as it is
pub record LinesEnded (was is : Lines) : Type 0 where
  pub same : is ≡ was
  pub left : lines_left was ≡ []

-- a reader of a whole text
pub record AllLines (bytes : List ℕ) (is : Lines) : Type 0 where
  pub text : is.rest.now ≡ bytes
  pub number : is.number ≡ 0
  pub left : lines_left is ≡ lines bytes

-- a reader has gone on by n lines
pub record LinesMoved (n : ℕ) (was is : Lines) : Type 0 where
  pub number : is.number ≡ was.number + n
  pub left : lines_left is ≡ drop n (lines_left was)

-- what a part of the definition says where a reader stands
abbrev pub reading : {A : Type 0} → (ℕ → List (List ℕ) → Read A) → Lines → Read A
reading part r = part r.number (lines_left r)

-- what is read of a part of the text, by its bytes
abbrev pub seen : Read (Bor (List ℕ)) → Read (List ℕ)
seen r = and_then r (λ x. Ok x.now)

-- the same of a line
abbrev pub line_seen : Read Line → Read (List ℕ)
line_seen r = and_then r (λ l. Ok l.bytes.now)
