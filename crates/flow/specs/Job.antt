-- A job and its calls: what each answers, when it refuses, and what it leaves.
use Rattle.std.specs.Prelude.{ℕ, suc, ◌+◌, ◌-◌, ◌*◌, min, Bool, false, cond, not, ◌&&◌, ◌||◌, List, [], ◌∷◌, length, replicate, is_some, Some, None, Option, ◌==◌, nat_le, nat_lt, slice_set}
use Rattle.limits.specs.Meaning.{Meaning}
use Rattle.refusal.specs.declared.Refusal.{Refusal}
use Rattle.refusal.specs.declared.Refusal.TheVariants.{WrongState, BadItem, TooManyNodes, CarriesFlow, Absent, FlowOutOfRange, NoPattern, ArcOverLimit, Unbalanced, ValueOverLimit, BelowDemand, NothingLeft, TooLittleMemory}
use Rattle.graph.specs.declared.Row.{Row}
use Rattle.packing.specs.Problem.{Order, demands, items, flaw, entry, Bin}
use Rattle.graph.specs.Graph.{at, head, walk, spelled}
use Rattle.graph.specs.Compiled.{compiled}
use Rattle.graph.specs.Reduced.{reduced}
use Rattle.flow.specs.Arcs.{numbers}
use Rattle.flow.specs.Flow.{on, inflow, outflow, value, copies_of, carrying, push, pull, least, trail}
use Rattle.flow.specs.Model.{model}
use Rattle.flow.specs.Text.{text}

-- the most that an arc, times or a value may come to
abbrev pub limit : ℕ
limit = 1_000_000_000

-- what a job that is not empty holds: a graph, a flow on its arcs, and the demand of each item
pub record Content : Type 0 where
  pub graph : List Row
  pub flow : List ℕ
  pub demands : List ℕ

-- a job, as its user sees it
pub data View : Type 0 where
  Empty : View
  Open : Content → View
  Accepted : Content → View

-- what a job can be asked
pub data Question : Type 0 where
  State ValueLeft : Question
  RowOf FlowOf CopiesLeft : ℕ → Question
  -- the model's text, with the bytes that are given for it
  ModelText : ℕ → Question

-- The calls. Memory that is given shows as its size: loads for compile, cells for peel.
pub data Call : Type 0 where
  Compile : Meaning → List Order → ℕ → Call
  Reduce : Call
  Carry : ℕ → ℕ → Call
  Place : List ℕ → ℕ → Call
  Accept : Call
  Peel : ℕ → Call
  Clear : Call
  Ask : Question → Call

-- the states of a job
pub data Phase : Type 0 where
  IsEmpty IsOpen IsAccepted : Phase

-- what a question is answered
pub data Fact : Type 0 where
  Is : Phase → Fact
  Node : Row → Fact
  Amount : ℕ → Fact
  Text : List ℕ → Fact

-- what a call that is done answers
pub data Reply : Type 0 where
  Plain : Reply
  Nodes : ℕ → Reply
  -- the value, and how many arcs carry flow
  Worth : ℕ → ℕ → Reply
  Packed : Bin → Reply
  Told : Fact → Reply

-- a call is refused, or it is done and replies
pub data Answer : Type 0 where
  Refused : Refusal → Answer
  Done : Reply → Answer

-- 0 on every arc
abbrev pub no_flow : List Row → List ℕ
no_flow g = replicate (2 * length g) 0

-- a graph without flow
abbrev pub fresh : List Row → List ℕ → Content
fresh g wanted = record { graph = g; flow = no_flow g; demands = wanted }

-- the same graph and demands with another flow
abbrev pub with_flow : Content → List ℕ → Content
with_flow j f = record { graph = j.graph; flow = f; demands = j.demands }

-- the first of a list
abbrev pub first : List ℕ → Option ℕ
first [] = None
first (x ∷ xs) = Some x

-- the lowest number below n that passes a test
abbrev pub lowest : (ℕ → Bool) → ℕ → Option ℕ
lowest p n = first (numbers p n)

-- the lowest arc that carries flow
abbrev pub loaded : Content → Option ℕ
loaded j = lowest (λ a. nat_lt 0 (on j.flow a)) (2 * length j.graph)

-- the lowest node, but for source and target, whose inflow is not its outflow
abbrev pub unbalanced : Content → Option ℕ
unbalanced j = lowest (λ v. nat_lt 0 v && not (inflow j.graph j.flow v == outflow j.flow v)) (length j.graph - 1)

-- the lowest item with fewer copies than its demand
abbrev pub lacking : Content → Option ℕ
lacking j = lowest (λ i. nat_lt (copies_of j.graph j.flow i) (entry j.demands i)) (suc (length j.demands))

-- the arcs of the path that spells these counts, one an item
abbrev pub path_of : Content → List ℕ → Option (List ℕ)
path_of j counts = cond (length counts == length j.demands) (walk j.graph counts 0) None

-- would `times` more bring one of these arcs above the limit?
abbrev pub overflows : List ℕ → ℕ → List ℕ → Bool
overflows f times [] = false
overflows f times (a ∷ arcs) = nat_lt limit (on f a + times) || overflows f times arcs

-- the arcs of the next bin, and the bin
abbrev pub next_arcs : Content → List ℕ
next_arcs j = trail (length j.graph) j.graph j.flow 0

-- the bin that is peeled next
abbrev pub next_bin : Content → Bin
next_bin j = record { counts = spelled (next_arcs j); times = least j.flow (next_arcs j) }

-- what a call answers, and the job that it leaves
abbrev pub Outcome : Type 0
Outcome = Answer × View

-- a refused call leaves the job as it is
abbrev pub refuse : View → Refusal → Outcome
refuse v r = (Refused r, v)

-- refused where a number at fault is found
abbrev pub refuse_at : View → (ℕ → Refusal) → Option ℕ → Outcome → Outcome
refuse_at v r None otherwise = otherwise
refuse_at v r (Some a) otherwise = refuse v (r a)

-- a graph is opened, if there is room for its nodes
abbrev pub opened : ℕ → List Row → List ℕ → Outcome
opened room g wanted = cond (nat_le (length g) room) (Done (Nodes (length g)), Open (fresh g wanted)) (refuse Empty TooManyNodes)

-- Opens the job with the graph of the orders and no flow.
abbrev pub compile : ℕ → View → Meaning → List Order → ℕ → Outcome
compile size v k orders loads = refuse_at v BadItem (flaw k orders) (opened (min (size) loads) (compiled k (items k orders)) (demands orders))

-- Joins the nodes with equal futures; refused while an arc carries flow.
abbrev pub reduce : View → Outcome
reduce Empty = refuse Empty WrongState
reduce (Accepted j) = refuse (Accepted j) WrongState
reduce (Open j) = refuse_at (Open j) CarriesFlow (loaded j) (Done (Nodes (length (reduced j.graph))), Open (fresh (reduced j.graph) j.demands))

-- Sets the flow of one arc that is there.
abbrev pub carry : View → ℕ → ℕ → Outcome
carry Empty a x = refuse Empty WrongState
carry (Accepted j) a x = refuse (Accepted j) WrongState
carry (Open j) a x =
    cond (not (is_some (head j.graph a))) (refuse (Open j) (Absent a))
    (cond (nat_lt limit x) (refuse (Open j) FlowOutOfRange) (Done Plain, Open (with_flow j (slice_set j.flow a x))))

-- `times` more on each arc of a path that is there
abbrev pub place_on : Content → ℕ → Option (List ℕ) → Outcome
place_on j times None = refuse (Open j) NoPattern
place_on j times (Some arcs) = cond (overflows j.flow times arcs) (refuse (Open j) ArcOverLimit) (Done Plain, Open (with_flow j (push j.flow arcs times)))

-- Adds `times` along the path that spells the counts.
abbrev pub place : View → List ℕ → ℕ → Outcome
place Empty counts times = refuse Empty WrongState
place (Accepted j) counts times = refuse (Accepted j) WrongState
place (Open j) counts times = cond (times == 0 || nat_lt limit times) (refuse (Open j) FlowOutOfRange) (place_on j times (path_of j counts))

-- Accepts a flow that is balanced, within the limit, and covers the demands.
abbrev pub accept : View → Outcome
accept Empty = refuse Empty WrongState
accept (Accepted j) = refuse (Accepted j) WrongState
accept (Open j) =
    refuse_at (Open j) Unbalanced (unbalanced j)
    (cond (nat_lt limit (value j.flow)) (refuse (Open j) ValueOverLimit)
    (refuse_at (Open j) BelowDemand (lacking j)
    (Done (Worth (value j.flow) (carrying j.flow)), Accepted j)))

-- Takes the next bin off the flow.
abbrev pub peel : View → ℕ → Outcome
peel Empty cells = refuse Empty WrongState
peel (Open j) cells = refuse (Open j) WrongState
peel (Accepted j) cells =
    cond (value j.flow == 0) (refuse (Accepted j) NothingLeft)
    (cond (nat_lt cells (length j.demands)) (refuse (Accepted j) TooLittleMemory)
    (Done (Packed (next_bin j)), Accepted (with_flow j (pull j.flow (next_arcs j) (next_bin j).times))))

-- Sets all flow to 0.
abbrev pub clear : View → Outcome
clear Empty = refuse Empty WrongState
clear (Open j) = (Done Plain, Open (fresh j.graph j.demands))
clear (Accepted j) = (Done Plain, Open (fresh j.graph j.demands))

-- The questions.
abbrev pub phase : View → Phase
phase Empty = IsEmpty
phase (Open j) = IsOpen
phase (Accepted j) = IsAccepted

-- a question is answered
abbrev pub told : Fact → Answer
told x = Done (Told x)

-- the row of node n, if it is there
abbrev pub row_of : ℕ → Content → Answer
row_of n j = cond (nat_lt n (length j.graph)) (told (Node (at j.graph n))) (Refused (Absent n))

-- the flow of arc a, if it is there
abbrev pub flow_of : ℕ → Content → Answer
flow_of a j = cond (is_some (head j.graph a)) (told (Amount (on j.flow a))) (Refused (Absent a))

-- the copies of item i, if it is there
abbrev pub copies_left : ℕ → Content → Answer
copies_left i j = cond (nat_lt 0 i && nat_le i (length j.demands)) (told (Amount (copies_of j.graph j.flow i))) (Refused (Absent i))

-- a text, where there is room for its bytes
abbrev pub written : List ℕ → ℕ → Answer
written text bytes = cond (nat_le (length text) bytes) (told (Text text)) (Refused TooLittleMemory)

-- an answer that only a job that is not empty has, and one that only an accepted job has
abbrev pub unless_empty : (Content → Answer) → View → Answer
unless_empty answer Empty = Refused WrongState
unless_empty answer (Open j) = answer j
unless_empty answer (Accepted j) = answer j

-- an answer that only an accepted job has
abbrev pub when_accepted : (Content → Answer) → View → Answer
when_accepted answer Empty = Refused WrongState
when_accepted answer (Open j) = Refused WrongState
when_accepted answer (Accepted j) = answer j

-- what a job answers to a question
abbrev pub ask : ℕ → View → Question → Answer
ask size v State = told (Is (phase v))
ask size v ValueLeft = when_accepted (λ j. told (Amount (value j.flow))) v
ask size v (RowOf n) = unless_empty (row_of n) v
ask size v (FlowOf a) = unless_empty (flow_of a) v
ask size v (CopiesLeft i) = when_accepted (copies_left i) v
ask size v (ModelText bytes) = unless_empty (λ j. written (text (model j.graph j.demands)) bytes) v

-- every call: what it answers, and the job that it leaves
abbrev pub step : ℕ → View → Call → Outcome
step size v (Compile k orders loads) = compile size v k orders loads
step size v Reduce = reduce v
step size v (Carry a x) = carry v a x
step size v (Place counts times) = place v counts times
step size v Accept = accept v
step size v (Peel cells) = peel v cells
step size v Clear = clear v
step size v (Ask q) = (ask size v q, v)

-- calls one after the other, and what they answer
abbrev pub answers : ℕ → View → List Call → List Answer
answers size v [] = []
answers size v (c ∷ calls) = (step size v c).0 ∷ answers size (step size v c).1 calls
