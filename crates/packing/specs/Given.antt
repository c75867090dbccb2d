-- Items as they are given in memory, by what they ask for.
use Rattle.std.specs.Prelude.{ℕ, List, map, take}
use Rattle.packing.specs.declared.Item.{Item}
use Rattle.packing.specs.Problem.{Order}

-- the fields are the first of the four numbers; all of them where the count is above four
abbrev pub fields_of : Item → List ℕ
fields_of i = take i.field_count i.values

-- what an item asks for
abbrev pub order_of : Item → Order
order_of i = record { fields = fields_of i; demand = i.demand }

-- what all items ask for
abbrev pub orders_of : List Item → List Order
orders_of items = map order_of items
