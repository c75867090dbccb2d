-- The text of an instance, which is read back as the instance.
use Rattle.std.specs.Prelude.{◌≡◌, ℕ, List, [], ◌∷◌, ◌++◌, map, length, Some, None, Ok, codes, decimal, Option}
use Rattle.texts.specs.declared.instance.Base.{Base}
use Rattle.texts.specs.declared.instance.Base.TheVariants.{Length, Vector, Colours}
use Rattle.texts.specs.Grammar.{Entry, Spelled, reads}
use Rattle.texts.specs.Valid.{Valid}

-- words with one space between them
abbrev pub spaced : List (List ℕ) → List ℕ
spaced [] = []
spaced (w ∷ []) = w
spaced (w ∷ v ∷ ws) = w ++ 32 ∷ spaced (v ∷ ws)

-- lines of words, each ended by a line feed
abbrev pub text_of : List (List (List ℕ)) → List ℕ
text_of [] = []
text_of (ws ∷ ls) = spaced ws ++ 10 ∷ text_of ls

-- the words of the first limit line
abbrev pub base_words : Base → List (List ℕ)
base_words (Length n) = codes "L" ∷ decimal n ∷ []
base_words (Vector ns) = codes "V" ∷ map decimal ns
base_words (Colours n) = codes "C" ∷ decimal n ∷ []

-- the words of the limit lines
abbrev pub limit_lines_of : Base → Option ℕ → List (List (List ℕ))
limit_lines_of base None = base_words base ∷ []
limit_lines_of base (Some n) = base_words base ∷ (codes "N" ∷ decimal n ∷ []) ∷ []

-- the words of an item line
abbrev pub item_words : Entry → List (List ℕ)
item_words e = e.name ∷ map decimal e.fields ++ decimal e.demand ∷ []

-- a section: a line with its count, and its lines
abbrev pub counted : List (List (List ℕ)) → List (List (List ℕ))
counted ls = (decimal (length ls) ∷ []) ∷ ls

-- the words of all lines
abbrev pub lines_of : Spelled → List (List (List ℕ))
lines_of s = counted (limit_lines_of s.limits.base s.limits.count) ++ counted (map item_words s.items)

-- the text of an instance
unfoldable pub written : Spelled → List ℕ
written s = text_of (lines_of s)

-- every valid instance has a text
abbrev pub ReadsWritten : Type 0
ReadsWritten = (s : Spelled) → Valid s → reads (written s) ≡ Ok s
