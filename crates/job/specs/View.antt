-- A job in memory, as its user sees it, and what its calls answer.
use Rattle.std.specs.Prelude.{◌≡◌, ℕ, ◌+◌, ◌*◌, ◌/◌, min, List, length, take, Ok, Err, Result}
use Rattle.refusal.specs.declared.Refusal.{Refusal}
use Rattle.lists.specs.Entries.{entries, spare}
use Rattle.graph.specs.declared.Row.{Row}
use Rattle.flow.specs.Job.{Content, View, View.Empty, View.Open, View.Accepted, Call.Ask, Question, Phase, Phase.IsEmpty, Phase.IsOpen, Phase.IsAccepted, Fact.Node, Fact.Amount}
use Rattle.flow.specs.Job.{Answer, Answer.Refused, Answer.Done, Reply, Reply.Plain, Reply.Worth, Reply.Packed, Reply.Told, step}
use Rattle.flow.specs.Scans.{demands_of}
use Rattle.job.specs.declared.state.Acceptance.{Acceptance}
use Rattle.job.specs.declared.job.Job.{Job}
use Rattle.job.specs.declared.state.State.{State}
use Rattle.job.specs.declared.state.State.TheVariants

-- the most nodes: the smallest of the rows, half the cells and 65,535
abbrev pub size : Job → ℕ
size c = min (min (length (entries c.rows) + length (spare c.rows)) (length c.cells.now / 2)) 65535

-- the graph: the entries of the rows
abbrev pub graph_of : Job → List Row
graph_of c = entries c.rows

-- the number of arcs' cells
abbrev pub arcs_of : Job → ℕ
arcs_of c = 2 * length (graph_of c)

-- the flow of each arc, by its number
abbrev pub flow_of : Job → List ℕ
flow_of c = take (arcs_of c) c.cells.now

-- the number of items
abbrev pub count_of : Job → ℕ
count_of c = length c.items.items

-- the demands of the items
abbrev pub demanded : Job → List ℕ
demanded c = demands_of c.items.items

-- graph, flow and demands
abbrev pub content : Job → Content
content c = record { graph = graph_of c; flow = flow_of c; demands = demanded c }

-- a job of this state and content, as its user sees it
abbrev pub shown : State → Content → View
shown TheVariants.Empty j = Empty
shown TheVariants.Open j = Open j
shown TheVariants.Accepted j = Accepted j

-- a job as its user sees it
abbrev pub view : Job → View
view c = shown c.state (content c)

-- what a call answers, by what it returns
abbrev pub answered : {A : Type 0} → (A → Reply) → Result A Refusal → Answer
answered reply (Ok x) = Done (reply x)
answered reply (Err e) = Refused e

-- the reply that tells nothing
abbrev pub plain : Unit {0} → Reply
plain u = Plain

-- the reply of accept
abbrev pub worth : Acceptance → Reply
worth a = Worth a.value a.arcs

-- a bin of these counts, so many times
abbrev pub packed : List ℕ → ℕ → Reply
packed counts times = Packed (record { counts = counts; times = times })

-- the reply that tells a row
abbrev pub node : Row → Reply
node r = Told (Node r)

-- the reply that tells a number
abbrev pub quantity : ℕ → Reply
quantity x = Told (Amount x)

-- the state as a job tells it
abbrev pub phase_of : State → Phase
phase_of TheVariants.Empty = IsEmpty
phase_of TheVariants.Open = IsOpen
phase_of TheVariants.Accepted = IsAccepted

-- A question is answered as its definition says, and leaves the job as it is.
abbrev pub Asked : Job → Question → Answer → Type 0
Asked c q r = step (size c) (view c) (Ask q) ≡ (r, view c)
