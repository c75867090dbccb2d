-- The instance text: which instance it spells, or why it is refused. Lines are counted from 1, and so are the words of a
-- line, which are its fields.
use Rattle.std.specs.Prelude.{ℕ, zero, suc, ◌+◌, ◌-◌, Bool, true, false, cond, not, ◌&&◌, List, [], ◌∷◌, ◌++◌, map, length, drop, Some, None, Ok, Err, Option, Result, ◌==◌, nat_le, slice_index}
use Rattle.std.specs.Char.{is_ascii_digit}
use Rattle.std.specs.List.{list_all, list_any}
use Rattle.std.specs.Str.{bytes_eq}
use Rattle.refusal.specs.declared.Refusal.{Refusal}
use Rattle.refusal.specs.declared.Refusal.TheVariants.{BadByte, NotANumber, WrongFieldCount, UnknownLetter, OutOfRange, BadName, MalformedText, WrongLineCount}
use Rattle.texts.specs.declared.instance.Base.{Base}
use Rattle.texts.specs.declared.instance.Base.TheVariants.{Length, Vector, Colours}
use Rattle.texts.specs.declared.instance.Limits.{Limits}
use Rattle.texts.specs.Split.{lines, words}
use Rattle.texts.specs.declared.fields.Field.{Field}
use Rattle.texts.specs.declared.fields.Field.TheVariants.{Word, Number, Letter}
use Rattle.texts.specs.Words.{form}

-- what was read, or a refusal
abbrev pub Read : Type 0 → Type 0
Read A = Result A Refusal

-- a refusal ends the reading
abbrev pub and_then : {A B : Type 0} → Read A → (A → Read B) → Read B
and_then (Ok a) f = f a
and_then (Err e) f = Err e

-- A line from its word number k on

-- just n words, and none of them empty
abbrev pub just : ℕ → List (List ℕ) → Bool
just zero [] = true
just zero (w ∷ ws) = false
just (suc n) [] = false
just (suc n) ([] ∷ ws) = false
just (suc n) ((b ∷ w) ∷ ws) = just n ws

-- a line whose number of words is not n, or that has an empty one, is refused before its words are looked at
abbrev pub shape : (line n : ℕ) → List (List ℕ) → Read (Unit {0})
shape line n ws = cond (just n ws) (Ok tt) (Err (WrongFieldCount line))

-- a word of some form as a number in a range: its form comes first
abbrev pub number_in : (low high line k : ℕ) → Field → Read ℕ
number_in low high line k Word = Err (NotANumber line k)
number_in low high line k (Number n) = cond (nat_le low n && nat_le n high) (Ok n) (Err (OutOfRange line k))
number_in low high line k (Letter c) = Err (NotANumber line k)

-- the next word as a number in a range
abbrev pub number_at : (low high line k : ℕ) → List (List ℕ) → Read ℕ
number_at low high line k [] = Err (WrongFieldCount line)
number_at low high line k (w ∷ ws) = number_in low high line k (form w)

-- n numbers without a range of their own, after those in xs
unfoldable pub numbers_at : (line k n : ℕ) → List (List ℕ) → List ℕ → Read (List ℕ)
numbers_at line k zero ws xs = Ok xs
numbers_at line k (suc n) ws xs =
    and_then (number_at 0 1000000000 line k ws) (λ x. numbers_at line (k + 1) n (drop 1 ws) (xs ++ x ∷ []))

-- the one number that is left on a line
abbrev pub sole_number : (low high line k : ℕ) → List (List ℕ) → Read ℕ
sole_number low high line k ws = and_then (shape line 1 ws) (λ _. number_at low high line k ws)

-- the four numbers that are left on a line
abbrev pub four_numbers : (line k : ℕ) → List (List ℕ) → Read (List ℕ)
four_numbers line k ws = and_then (shape line 4 ws) (λ _. numbers_at line k 4 ws [])

-- A text from a line on

-- printable ASCII
abbrev pub prints_of : ℕ → Bool
prints_of b = nat_le 32 b && nat_le b 126

-- all bytes are printable ASCII
abbrev pub printable : List ℕ → Bool
printable bs = list_all prints_of bs

-- the next line, which has to be there and to be printable
abbrev pub line_at : (line : ℕ) → List (List ℕ) → Read (List ℕ)
line_at line [] = Err (WrongLineCount line)
line_at line (x ∷ xs) = cond (printable x) (Ok x) (Err (BadByte line))

-- a line too many is refused whatever its bytes
abbrev pub end_at : (line : ℕ) → List (List ℕ) → Read (Unit {0})
end_at line [] = Ok tt
end_at line (x ∷ xs) = Err (WrongLineCount line)

-- a line of one number
abbrev pub count_at : (low high line : ℕ) → List (List ℕ) → Read ℕ
count_at low high line ls = and_then (line_at line ls) (λ x. sole_number low high line 1 (words x))

-- the letter that a limit line begins with
abbrev pub letter_in : Field → Option ℕ
letter_in Word = None
letter_in (Number n) = None
letter_in (Letter c) = Some c

-- the letter that stands first in a line, if one does
abbrev pub first_letter : List (List ℕ) → Option ℕ
first_letter [] = None
first_letter (w ∷ ws) = letter_in (form w)

-- the first limit is L, V or C; an unknown letter comes before the number of words
abbrev pub base_by : (line : ℕ) → Option ℕ → List (List ℕ) → Read Base
base_by line None ws = Err (UnknownLetter line 1)
base_by line (Some c) ws =
    cond (c == 76) (and_then (sole_number 1 1000000000 line 2 ws) (λ w. Ok (Length w)))
    (cond (c == 86) (and_then (four_numbers line 2 ws) (λ xs. Ok (Vector xs)))
    (cond (c == 67) (and_then (sole_number 0 64 line 2 ws) (λ k. Ok (Colours k)))
    (Err (UnknownLetter line 1))))

-- a limit line that stands first: L, V or C and its limits
abbrev pub base_of : (line : ℕ) → List (List ℕ) → Read Base
base_of line ws = base_by line (first_letter ws) (drop 1 ws)

-- the first limit line
abbrev pub base_at : (line : ℕ) → List (List ℕ) → Read Base
base_at line ls = and_then (line_at line ls) (λ x. base_of line (words x))

-- the second limit is N
abbrev pub count_limit_by : (line : ℕ) → Option ℕ → List (List ℕ) → Read ℕ
count_limit_by line None ws = Err (UnknownLetter line 1)
count_limit_by line (Some c) ws = cond (c == 78) (sole_number 1 100000 line 2 ws) (Err (UnknownLetter line 1))

-- a limit line that stands second: N and its limit
abbrev pub count_limit_of : (line : ℕ) → List (List ℕ) → Read ℕ
count_limit_of line ws = count_limit_by line (first_letter ws) (drop 1 ws)

-- the second limit line
abbrev pub count_limit_at : (line : ℕ) → List (List ℕ) → Read ℕ
count_limit_at line ls = and_then (line_at line ls) (λ x. count_limit_of line (words x))

-- the second limit line, where there are two
abbrev pub second_at : (limits line : ℕ) → List (List ℕ) → Read (Option ℕ)
second_at limits line ls = cond (nat_le 2 limits) (and_then (count_limit_at line ls) (λ n. Ok (Some n))) (Ok None)

-- Items

-- an item by its line of the text
pub record Entry : Type 0 where
  pub name : List ℕ
  pub line : ℕ
  pub fields : List ℕ
  pub demand : ℕ

-- whether a name is among others
abbrev pub known : List ℕ → List (List ℕ) → Bool
known w names = list_any (λ n. bytes_eq n w) names

-- 1 to 16 bytes, no digit first, and none of the earlier names
abbrev pub good_name : List (List ℕ) → List ℕ → Bool
good_name names w = ((nat_le 1 (length w) && nat_le (length w) 16) && not (is_ascii_digit (slice_index w 0))) && not (known w names)

-- the next word as a name
abbrev pub name_at : (line k : ℕ) → List (List ℕ) → List (List ℕ) → Read (List ℕ)
name_at line k names [] = Err (WrongFieldCount line)
name_at line k names (w ∷ ws) = cond (good_name names w) (Ok w) (Err (BadName line k))

-- how many fields an item has under a limit
abbrev pub field_count_of : Base → ℕ
field_count_of (Length w) = 1
field_count_of (Vector ws) = 4
field_count_of (Colours k) = 1

-- a name, so many fields and a demand
abbrev pub item_of : (count line : ℕ) → List (List ℕ) → List (List ℕ) → Read Entry
item_of count line names ws =
    and_then (shape line (count + 2) ws) (λ _.
    and_then (name_at line 1 names ws) (λ name.
    and_then (numbers_at line 2 count (drop 1 ws) []) (λ xs.
    and_then (number_at 1 4095 line (count + 2) (drop count (drop 1 ws))) (λ d.
    Ok (record { name = name; line = line; fields = xs; demand = d })))))

-- the next line as an item
abbrev pub item_at : (count line : ℕ) → List (List ℕ) → List (List ℕ) → Read Entry
item_at count line names ls = and_then (line_at line ls) (λ x. item_of count line names (words x))

-- the names of items
abbrev pub names_of : List Entry → List (List ℕ)
names_of es = map (λ e. e.name) es

-- n items, one to a line, after those in es
unfoldable pub items_at : (count line n : ℕ) → List (List ℕ) → List Entry → Read (List Entry)
items_at count line zero ls es = Ok es
items_at count line (suc n) ls es = and_then (item_at count line (names_of es) ls) (λ e. items_at count (line + 1) n (drop 1 ls) (es ++ e ∷ []))

-- The whole text

-- an instance by its text
pub record Spelled : Type 0 where
  pub limits : Limits
  pub items : List Entry

-- limits that were read, with the items in a table
abbrev pub spelled : Read Limits → List Entry → Read Spelled
spelled r es = and_then r (λ limits. Ok (record { limits = limits; items = es }))

-- 1 to 65,536 bytes, the last of them a line feed
abbrev pub well_formed : List ℕ → Bool
well_formed text = (nat_le 1 (length text) && nat_le (length text) 65536) && slice_index text (length text - 1) == 10

-- a part of the text that takes n lines, read after l lines, and what follows it
unfoldable pub section : {A B : Type 0} → (n : ℕ) → (ℕ → List (List ℕ) → Read A) → (A → ℕ → List (List ℕ) → Read B) → ℕ → List (List ℕ) → Read B
section n part follows l ls = and_then (part (l + 1) ls) (λ a. follows a (l + n) (drop n ls))

-- From the end of the text back to its first line: what is read there, after all that was read before it.

-- nothing follows the items
abbrev pub text_end : Base → Option ℕ → List Entry → ℕ → List (List ℕ) → Read Spelled
text_end base count es = section 0 end_at (λ _ l ls. Ok (record { limits = record { base = base; count = count }; items = es }))

-- m item lines, and the end
abbrev pub item_lines : Base → Option ℕ → ℕ → ℕ → List (List ℕ) → Read Spelled
item_lines base count m = section m (λ l ls. items_at (field_count_of base) l m ls []) (text_end base count)

-- the count of items, and the items
abbrev pub items_section : Base → Option ℕ → ℕ → List (List ℕ) → Read Spelled
items_section base count = section 1 (count_at 1 64) (item_lines base count)

-- the second limit line, and the items
abbrev pub second_line : ℕ → Base → ℕ → List (List ℕ) → Read Spelled
second_line k base = section (k - 1) (second_at k) (items_section base)

-- k limit lines, and the items
abbrev pub limit_lines : ℕ → ℕ → List (List ℕ) → Read Spelled
limit_lines k = section 1 base_at (second_line k)

-- both sections
abbrev pub sections : ℕ → List (List ℕ) → Read Spelled
sections = section 1 (count_at 1 2) limit_lines

-- a text that is not well formed is refused before its lines are looked at
abbrev pub formed : List ℕ → Read (Unit {0})
formed text = cond (well_formed text) (Ok tt) (Err MalformedText)

-- the instance that a text spells, or its refusal
unfoldable pub reads : List ℕ → Read Spelled
reads text = and_then (formed text) (λ _. sections 0 (lines text))
