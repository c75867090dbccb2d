-- Items as they are read, by the text that they were read from.
use Rattle.std.specs.Prelude.{◌≡◌, ℕ, ◌<◌, List, map, Ok, Err, vec_items, Result}
use Rattle.packing.specs.declared.Item.{Item}
use Rattle.packing.specs.Given.{fields_of}
use Rattle.texts.specs.declared.instance.Instance.{Instance}
use Rattle.texts.specs.declared.instance.ReadError.{ReadError}
use Rattle.texts.specs.declared.instance.ReadError.TheVariants.{Refused, OutOfMemory}
use Rattle.texts.specs.Grammar.{Read, Entry, Spelled, and_then, reads}

-- an item in memory, by its line of the text
abbrev pub entry_of : Item → Entry
entry_of i = record { name = i.name.now; line = i.line; fields = fields_of i; demand = i.demand }

-- the items of a table
abbrev pub entries_in : List Item → List Entry
entries_in is = map entry_of is

-- the names of the items of a table
abbrev pub names_in : List Item → List (List ℕ)
names_in is = map (λ i. i.name.now) is

-- an item that was read, by its line of the text
abbrev pub entry_seen : Read Item → Read Entry
entry_seen r = and_then r (λ i. Ok (entry_of i))

-- an instance in memory, by its text
abbrev pub spelled_in : Instance → Spelled
spelled_in i = record { limits = i.limits; items = entries_in (vec_items i.items) }

-- the answer to a text whose items go into a table with so much room: what is then found is what the text spells, or the
-- refusal is the text's; memory is wanting only where there was no room for 64 items
abbrev pub Answers : (room : ℕ) → List ℕ → Spelled → Result (Unit {0}) ReadError → Type 0
Answers room text found (Ok u) = reads text ≡ Ok found
Answers room text found (Err (Refused e)) = reads text ≡ Err e
Answers room text found (Err OutOfMemory) = room < 64
