-- What is printed for a text: the model of the instance that it spells, or the line of a refusal.
use Rattle.std.specs.Prelude.{ℕ, List, [], ◌∷◌, ◌++◌, map, take, Some, None, Ok, Err, Option, Result}
use Rattle.refusal.specs.declared.Refusal.{Refusal}
use Rattle.refusal.specs.Refusals.{refused_line}
use Rattle.limits.specs.Meaning.{Meaning}
use Rattle.limits.specs.Numbers.{numbers, length_meaning}
use Rattle.limits.specs.Colours.{colours_meaning}
use Rattle.limits.specs.Counted.{counted_meaning}
use Rattle.packing.specs.Problem.{Order}
use Rattle.texts.specs.declared.instance.Base.{Base}
use Rattle.texts.specs.declared.instance.Base.TheVariants.{Length, Vector, Colours}
use Rattle.texts.specs.declared.instance.Limits.{Limits}
use Rattle.texts.specs.Grammar.{Read, Entry, Spelled, reads}
use Rattle.flow.specs.Job.{View.Empty, Call, Call.Compile, Call.Reduce, Call.Ask, Question.ModelText, Answer, Answer.Refused, Answer.Done, answers}
use Rattle.flow.specs.Job.{Reply, Reply.Plain, Reply.Nodes, Reply.Worth, Reply.Packed, Reply.Told, Fact.Is, Fact.Node, Fact.Amount, Fact.Text}

-- what limits on a bin mean
abbrev pub base_meaning : Base → Meaning
base_meaning (Length w) = length_meaning w
base_meaning (Vector ws) = numbers ws
base_meaning (Colours k) = colours_meaning k

-- with the number of items limited too, if it is
abbrev pub under_count : Option ℕ → Meaning → Meaning
under_count None k = k
under_count (Some n) k = counted_meaning n k

-- what all limits of an instance mean
abbrev pub limits_meaning : Limits → Meaning
limits_meaning l = under_count l.count (base_meaning l.base)

-- the items of an instance text, by fields and demand
abbrev pub orders_in : List Entry → List Order
orders_in es = map (λ e. record { fields = e.fields; demand = e.demand }) es

-- compile with room for so many loads, reduce, and the model text with room for so many bytes
abbrev pub calls : Meaning → List Order → ℕ → ℕ → List Call
calls k orders loads bytes = Compile k orders loads ∷ Reduce ∷ Ask (ModelText bytes) ∷ []

-- the text in what is replied
abbrev pub text_in : Reply → List ℕ
text_in Plain = []
text_in (Nodes n) = []
text_in (Worth z arcs) = []
text_in (Packed b) = []
text_in (Told (Is s)) = []
text_in (Told (Node r)) = []
text_in (Told (Amount n)) = []
text_in (Told (Text t)) = t

-- the texts of the answers, up to the line of the first refusal
abbrev pub shown : List Answer → List ℕ
shown [] = []
shown (Refused r ∷ rest) = refused_line r
shown (Done x ∷ rest) = text_in x ++ shown rest

-- the model text of orders, made on a new job of 512 nodes, or the line of a refusal
unfoldable pub modelled : Meaning → List Order → List ℕ
modelled k orders = shown (answers 512 Empty (calls k orders 512 65536))

-- what is printed for what was read
abbrev pub printed : Read Spelled → List ℕ
printed (Err e) = refused_line e
printed (Ok s) = modelled (limits_meaning s.limits) (orders_in s.items)

-- what is printed for a text
abbrev pub prints : List ℕ → List ℕ
prints text = printed (reads text)

-- an answer as bytes: the first of the memory, or the line of the refusal
abbrev pub bytes_in : List ℕ → Result ℕ Refusal → List ℕ
bytes_in out (Ok n) = take n out
bytes_in out (Err e) = refused_line e
