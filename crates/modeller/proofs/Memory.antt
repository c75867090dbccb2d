-- The memory in which a model is made, and the items of an instance as orders.
use Rattle.std.proofs.Common.{◌≡◌, ℕ, ◌/◌, min, List, [], ◌∷◌, refl, ap}
use Rattle.limits.specs.Meaning.{Meaning}
use Rattle.packing.specs.declared.Item.{Item}
use Rattle.packing.specs.Given.{order_of, orders_of}
use Rattle.packing.specs.Problem.{Order}
use Rattle.flow.specs.Job.{View.Empty, answers}
use Rattle.texts.specs.Entries.{entries_in}
use Rattle.modeller.specs.Printed.{calls, modelled, orders_in, shown}

pub modelled_in : (k : Meaning) (orders : List Order) (rows cells loads bytes : ℕ) → rows ≡ 512 → cells ≡ 1024 → loads ≡ 512 → bytes ≡ 65536
    → shown (answers (min (min rows (cells / 2)) 65535) Empty (calls k orders loads bytes)) ≡ modelled k orders
unfolding modelled
modelled_in k orders rows cells loads bytes r c l b = λ i. shown (answers (min (min (r i) (c i / 2)) 65535) Empty (calls k orders (l i) (b i)))

pub orders_read : (is : List Item) → orders_in (entries_in is) ≡ orders_of is
orders_read [] = refl
orders_read (i ∷ is) = ap (λ os. order_of i ∷ os) (orders_read is)
