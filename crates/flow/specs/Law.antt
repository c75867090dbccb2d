-- The law over whole runs: whatever calls follow one another on a new job, its graph spells the patterns of the problem last
-- compiled, the bins handed out and what is left add up to what was accepted, and every packing can be placed and is accepted.
use Rattle.std.specs.Prelude.{◌≡◌, ℕ, ◌+◌, ◌<◌, ◌≤◌, Bool, true, false, ◌↔◌, List, [], ◌∷◌, ◌++◌, map, length, replicate, IfSome, Some, None, Option}
use Rattle.std.specs.List.{AllByRecursion}
use Rattle.limits.specs.Meaning.{Rules}
use Rattle.refusal.specs.declared.Refusal.TheVariants.{NoPattern}
use Rattle.graph.specs.declared.Row.{Row}
use Rattle.packing.specs.Problem.{Problem, demands, entry, is_pattern, Pattern, Bin, times_of, copies_in, Packing}
use Rattle.graph.specs.Graph.{Path}
use Rattle.flow.specs.Flow.{on, value, copies_of, carrying}
use Rattle.flow.specs.Model.{model, Meets}
use Rattle.flow.specs.Job.{limit, Content, View, View.Empty, View.Open, View.Accepted, Question.ValueLeft, Question.CopiesLeft, Fact.Amount, told, step, answers}
use Rattle.flow.specs.Job.{Call, Call.Compile, Call.Reduce, Call.Carry, Call.Place, Call.Accept, Call.Peel, Call.Clear, Call.Ask}
use Rattle.flow.specs.Job.{Answer, Answer.Refused, Answer.Done, Reply.Plain, Reply.Nodes, Reply.Worth, Reply.Packed, Reply.Told}

-- a call is done unless refused
abbrev pub done : Answer → Bool
done (Refused r) = false
done (Done x) = true

-- the problem that a call brings
abbrev pub problem_in : Call → Option Problem
problem_in (Compile k orders loads) = Some (record { kind = k; orders = orders })
problem_in Reduce = None
problem_in (Carry a x) = None
problem_in (Place counts times) = None
problem_in Accept = None
problem_in (Peel cells) = None
problem_in Clear = None
problem_in (Ask q) = None

-- an accept that was done: what it answered, and the flow then
pub record Acceptance : Type 0 where
  pub z : ℕ
  pub arcs : ℕ
  pub flow : List ℕ

-- what is on record of the calls done: the problem of the last compile, the last accept, and the bins of the peels since
pub record History : Type 0 where
  pub problem : Option Problem
  pub accepted : Option Acceptance
  pub handed : List Bin

-- the flow of a job
abbrev pub flow_in : View → List ℕ
flow_in Empty = []
flow_in (Open j) = j.flow
flow_in (Accepted j) = j.flow

-- the later of two problems, where it is there
abbrev pub newer : Option Problem → Option Problem → Option Problem
newer None before = before
newer (Some p) before = Some p

-- one call more, with its answer and the job that it left; a call that is refused leaves no record
abbrev pub noted : History → Call → Answer → View → History
noted h c (Refused r) v = h
noted h c (Done Plain) v = h
noted h c (Done (Nodes n)) v = record { problem = newer (problem_in c) h.problem; accepted = h.accepted; handed = h.handed }
noted h c (Done (Worth z arcs)) v = record { problem = h.problem; accepted = Some (record { z = z; arcs = arcs; flow = flow_in v }); handed = [] }
noted h c (Done (Packed b)) v = record { problem = h.problem; accepted = h.accepted; handed = b ∷ h.handed }
noted h c (Done (Told x)) v = h

-- a job in the course of a run
pub record Moment : Type 0 where
  pub view : View
  pub history : History

-- an empty job of which nothing is on record
abbrev pub new_job : Moment
new_job = record { view = Empty; history = record { problem = None; accepted = None; handed = [] } }

-- the moment after one more call
abbrev pub after : ℕ → Moment → Call → Moment
after size t c = record { view = (step size t.view c).1; history = noted t.history c (step size t.view c).0 (step size t.view c).1 }

-- a run: calls one after the other
abbrev pub run : ℕ → Moment → List Call → Moment
run size t [] = t
run size t (c ∷ calls) = run size (after size t c) calls

-- each compile has a kind that keeps its rules
abbrev pub Ruled : Call → Type 0
Ruled c = IfSome (problem_in c) (λ p. Rules p.kind)

-- each path from source to target spells one pattern, and each pattern is spelled by just one path
pub record Spells (p : Problem) (g : List Row) : Type 0 where
  pub a_pattern : (arcs counts : List ℕ) → Path g 0 arcs counts → Pattern p counts
  pub one_pattern : (arcs c d : List ℕ) → Path g 0 arcs c → Path g 0 arcs d → c ≡ d
  pub a_path : (counts : List ℕ) → Pattern p counts → (arcs : List ℕ) × Path g 0 arcs counts
  pub one_path : (counts a b : List ℕ) → Path g 0 a counts → Path g 0 b counts → a ≡ b

-- a place for each bin
abbrev pub placed : List Bin → List Call
placed bins = map (λ b. Place b.counts b.times) bins

-- any packing in z bins is placed pattern by pattern with no refusal, and accept then answers z
abbrev pub TakesPackings : ℕ → Problem → Content → Type 0
TakesPackings size p j =
    (bins : List Bin) (z : ℕ) → Packing p bins z → z ≤ limit →
    (arcs : ℕ) × (answers size (Open j) (placed bins ++ (Accept ∷ [])) ≡ replicate (length bins) (Done Plain) ++ (Done (Worth z arcs) ∷ []))

-- no arc carries flow
abbrev pub WithoutFlow : Content → Type 0
WithoutFlow j = (a : ℕ) → on j.flow a ≡ 0

-- an open job
pub record OpenHolds (size : ℕ) (h : History) (j : Content) : Type 0 where
  pub problem : Problem
  pub compiled : h.problem ≡ Some problem
  pub spells : Spells problem j.graph
  -- counts are refused if and only if they are no pattern
  pub refuses : (counts : List ℕ) (times : ℕ) → 1 ≤ times → times ≤ limit →
      ((step size (Open j) (Place counts times)).0 ≡ Refused NoPattern) ↔ (is_pattern problem counts ≡ false)
  -- a flow is accepted if and only if it meets every row of the model and its value is within the limit
  pub accepts : (done (step size (Open j) Accept).0 ≡ true)
      ↔ (Meets (value j.flow) j.flow (model j.graph (demands problem.orders)) × (value j.flow ≤ limit))
  pub takes : WithoutFlow j → TakesPackings size problem j

-- an accepted job
pub record AcceptedHolds (size : ℕ) (h : History) (j : Content) : Type 0 where
  pub problem : Problem
  pub compiled : h.problem ≡ Some problem
  pub spells : Spells problem j.graph
  -- what the last accept answered, and the flow then
  pub acceptance : Acceptance
  pub accepted : h.accepted ≡ Some acceptance
  -- the times of the bins handed out and the value left add up to z
  pub value_adds_up : times_of h.handed + value j.flow ≡ acceptance.z
  -- item by item, the copies handed out and left add up to those accepted, which meet the demand
  pub copies_add_up : (i : ℕ) → 1 ≤ i → i ≤ length problem.orders →
      copies_in h.handed i + copies_of j.graph j.flow i ≡ copies_of j.graph acceptance.flow i
  pub demand_met : (i : ℕ) → 1 ≤ i → i ≤ length problem.orders → entry (demands problem.orders) i ≤ copies_of j.graph acceptance.flow i
  -- value and copies left are what the job tells
  pub value_told : (step size (Accepted j) (Ask ValueLeft)).0 ≡ told (Amount (value j.flow))
  pub copies_told : (i : ℕ) → 1 ≤ i → i ≤ length problem.orders → (step size (Accepted j) (Ask (CopiesLeft i))).0 ≡ told (Amount (copies_of j.graph j.flow i))
  -- each bin handed out is a pattern
  pub patterns : AllByRecursion (λ b. Pattern problem b.counts) h.handed
  -- the peels done since never outnumber the arcs counted, which are those that then carried flow
  pub peels : length h.handed ≤ acceptance.arcs
  pub counted : acceptance.arcs ≡ carrying acceptance.flow
  -- while value is left, a peel with a cell for each item is done
  pub goes_on : 0 < value j.flow → (cells : ℕ) → length problem.orders ≤ cells → done (step size (Accepted j) (Peel cells)).0 ≡ true
  -- once no value is left, the bins handed out are a packing in z bins
  pub packs : value j.flow ≡ 0 → Packing problem h.handed acceptance.z

-- what holds of a job: of an empty one nothing
abbrev pub Holds : ℕ → History → View → Type 0
Holds size h Empty = Unit {0}
Holds size h (Open j) = OpenHolds size h j
Holds size h (Accepted j) = AcceptedHolds size h j

-- The law: it holds after every run.
abbrev pub PacksSoundly : Type 0
PacksSoundly = (size : ℕ) (calls : List Call) → AllByRecursion Ruled calls → Holds size (run size new_job calls).history (run size new_job calls).view
