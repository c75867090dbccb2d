-- The instances of the problem, in the problem's own words: just these have a text.
use Rattle.std.specs.Prelude.{◌≡◌, ℕ, ◌+◌, ◌≤◌, false, List, [], ◌∷◌, length, Some, None, Ok, Option, ◌≢◌, slice_index}
use Rattle.std.specs.Char.{is_ascii_digit}
use Rattle.std.specs.List.{AllByRecursion}
use Rattle.texts.specs.declared.instance.Base.{Base}
use Rattle.texts.specs.declared.instance.Base.TheVariants.{Length, Vector, Colours}
use Rattle.texts.specs.Grammar.{Entry, Spelled, field_count_of, names_of, reads}

-- a number in a range
abbrev pub Within : ℕ → ℕ → ℕ → Type 0
Within low high n = (low ≤ n) × (n ≤ high)

-- 1 to 16 printable bytes other than space, the first of them no digit
pub record Name (w : List ℕ) : Type 0 where
  pub size : Within 1 16 (length w)
  pub bytes : AllByRecursion (Within 33 126) w
  pub first : is_ascii_digit (slice_index w 0) ≡ false

-- an item with so many fields
pub record Item (fields : ℕ) (e : Entry) : Type 0 where
  pub name : Name e.name
  pub count : length e.fields ≡ fields
  pub values : AllByRecursion (Within 0 1000000000) e.fields
  pub demand : Within 1 4095 e.demand

-- the limits of a bin are in their ranges
abbrev pub Limit : Base → Type 0
Limit (Length n) = Within 1 1000000000 n
Limit (Vector ns) = (length ns ≡ 4) × AllByRecursion (Within 0 1000000000) ns
Limit (Colours n) = Within 0 64 n

-- the most items in a bin, where that is limited, is in its range
abbrev pub CountLimit : Option ℕ → Type 0
CountLimit None = Unit {0}
CountLimit (Some n) = Within 1 100000 n

-- no name is among those after it
abbrev pub Distinct : List (List ℕ) → Type 0
Distinct [] = Unit {0}
Distinct (w ∷ ws) = AllByRecursion (λ v. v ≢ w) ws × Distinct ws

-- the items stand on lines that follow one another
abbrev pub OnLines : (from : ℕ) → List Entry → Type 0
OnLines from [] = Unit {0}
OnLines from (e ∷ es) = (e.line ≡ from) × OnLines (from + 1) es

-- the line of the first item, after one or two limit lines
abbrev pub first_item : Option ℕ → ℕ
first_item None = 4
first_item (Some n) = 5

-- An instance as the problem means it.
pub record Valid (s : Spelled) : Type 0 where
  pub limit : Limit s.limits.base
  pub count_limit : CountLimit s.limits.count
  pub size : Within 1 64 (length s.items)
  pub items : AllByRecursion (Item (field_count_of s.limits.base)) s.items
  pub names : Distinct (names_of s.items)
  pub lines : OnLines (first_item s.limits.count) s.items

-- what a text spells is valid
abbrev pub ReadsValid : Type 0
ReadsValid = (text : List ℕ) (s : Spelled) → reads text ≡ Ok s → Valid s
