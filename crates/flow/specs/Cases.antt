-- Worked cases: small problems with their graphs, patterns and calls written out.
use Rattle.std.specs.Prelude.{◌≡◌, ℕ, List, [], ◌∷◌, ◌++◌, length, Some, None}
use Rattle.std.specs.List.{AllByRecursion}
use Rattle.limits.specs.Meaning.{Meaning}
use Rattle.limits.specs.Numbers.{length_meaning}
use Rattle.limits.specs.Colours.{colours_meaning}
use Rattle.limits.specs.Counted.{counted_meaning}
use Rattle.refusal.specs.declared.Refusal.TheVariants.{WrongState, BadItem, TooManyNodes, CarriesFlow, Absent, FlowOutOfRange, NoPattern, ArcOverLimit, Unbalanced, BelowDemand, NothingLeft, TooLittleMemory}
use Rattle.graph.specs.declared.Row.{Row}
use Rattle.packing.specs.Packing.{patterns}
use Rattle.packing.specs.Problem.{Order, items}
use Rattle.graph.specs.Graph.{row}
use Rattle.flow.specs.Law.{Ruled}
use Rattle.flow.specs.Job.{View.Empty, View.Open, Question.ValueLeft, Question.CopiesLeft, fresh, step, answers}
use Rattle.flow.specs.Job.{Call, Call.Compile, Call.Reduce, Call.Carry, Call.Place, Call.Accept, Call.Peel, Call.Clear, Call.Ask}
use Rattle.flow.specs.Job.{Answer, Answer.Refused, Answer.Done, Reply.Plain, Reply.Nodes, Reply.Worth, Reply.Packed, Reply.Told, Fact.Amount}

abbrev order : List ℕ → ℕ → Order
order fields demand = record { fields = fields; demand = demand }

-- one board of 3 and two rails of 2
abbrev pub boards_and_rails : List Order
boards_and_rails = order (3 ∷ []) 1 ∷ order (2 ∷ []) 2 ∷ []

-- two red and one blue
abbrev pub red_and_blue : List Order
red_and_blue = order (0 ∷ []) 2 ∷ order (1 ∷ []) 1 ∷ []

-- the graph of boards and rails in a length of 5
abbrev pub graph_of_five : List Row
graph_of_five =
    row 1 0 (Some 1) (Some 2) ∷ row 1 1 None (Some 3) ∷ row 2 0 (Some 4) (Some 7) ∷ row 2 0 (Some 5) (Some 7)
    ∷ row 2 1 (Some 6) (Some 7) ∷ row 2 1 None (Some 7) ∷ row 2 2 None (Some 7) ∷ row 3 0 None None ∷ []

-- a job of 512 nodes
abbrev pub plain : ℕ
plain = 512

-- what a new job answers, compile with room for 512 loads first
abbrev compiling : Meaning → List Order → List Call → List Answer
compiling k orders calls = answers plain Empty (Compile k orders 512 ∷ calls)

-- the number of patterns
abbrev pattern_count : Meaning → List Order → ℕ
pattern_count k orders = length (patterns k (items k orders))

abbrev carried : Answer
carried = Done Plain

abbrev bin : List ℕ → ℕ → Answer
bin c t = Done (Packed (record { counts = c; times = t }))

abbrev amount : ℕ → Answer
amount x = Done (Told (Amount x))

-- one on each of seven arcs
abbrev ones : List Call
ones = Carry 0 1 ∷ Carry 1 1 ∷ Carry 2 1 ∷ Carry 5 1 ∷ Carry 7 1 ∷ Carry 8 1 ∷ Carry 10 1 ∷ []

-- what the definitions give in the worked cases
pub record MarkedCases : Type 0 where
  -- length 5: eight nodes with their arcs, five patterns
  pub five : step plain Empty (Compile (length_meaning 5) boards_and_rails 512) ≡ (Done (Nodes 8), Open (fresh graph_of_five (1 ∷ 2 ∷ [])))
  pub five_patterns : pattern_count (length_meaning 5) boards_and_rails ≡ 5
  pub five_refused : compiling (length_meaning 5) boards_and_rails (Place (1 ∷ 2 ∷ []) 1 ∷ []) ≡ Done (Nodes 8) ∷ Refused NoPattern ∷ []
  pub five_reduced : compiling (length_meaning 5) boards_and_rails (Reduce ∷ []) ≡ Done (Nodes 8) ∷ Done (Nodes 8) ∷ []
  -- length 7
  pub seven_reduced : compiling (length_meaning 7) boards_and_rails (Reduce ∷ []) ≡ Done (Nodes 9) ∷ Done (Nodes 6) ∷ []
  -- length 2: an item of 2 fits, an item of 3 does not
  pub two_fits : compiling (length_meaning 2) (order (2 ∷ []) 1 ∷ []) [] ≡ Done (Nodes 3) ∷ []
  pub three_does_not : compiling (length_meaning 2) (order (3 ∷ []) 1 ∷ []) [] ≡ Refused (BadItem 1) ∷ []
  -- one colour
  pub one_colour : compiling (colours_meaning 1) red_and_blue [] ≡ Done (Nodes 7) ∷ []
  pub one_colour_patterns : pattern_count (colours_meaning 1) red_and_blue ≡ 4
  -- one piece
  pub one_piece_patterns : pattern_count (counted_meaning 1 (length_meaning 5)) boards_and_rails ≡ 3
  -- accepted at 2 with seven arcs, two bins, and then no value is left
  pub peeled : compiling (length_meaning 5) boards_and_rails (ones ++ (Accept ∷ Peel 2 ∷ Peel 2 ∷ Peel 2 ∷ []))
      ≡ Done (Nodes 8) ∷ carried ∷ carried ∷ carried ∷ carried ∷ carried ∷ carried ∷ carried
      ∷ Done (Worth 2 7) ∷ bin (1 ∷ 1 ∷ []) 1 ∷ bin (0 ∷ 1 ∷ []) 1 ∷ Refused NothingLeft ∷ []

-- the kinds of these cases keep their rules, so the law speaks of these runs
abbrev pub CasesRuled : Type 0
CasesRuled =
    (w most : ℕ) (orders : List Order) (loads : ℕ) →
    AllByRecursion Ruled (Compile (length_meaning w) orders loads ∷ Compile (colours_meaning most) orders loads ∷ Compile (counted_meaning most (length_meaning w)) orders loads ∷ [])

-- refusals: no arc 3, too much flow, no pattern, too few counts, an unbalanced node, too few copies, one time too many,
-- nothing accepted, reduce with flow, too few cells; then no items, a demand of 0, fields without a weight, and no room
abbrev pub RefusedInOrder : Type 0
RefusedInOrder =
    compiling (length_meaning 5) boards_and_rails
    (Carry 3 1 ∷ Carry 1 1_000_000_001 ∷ Place (1 ∷ 2 ∷ []) 1 ∷ Place (1 ∷ []) 1 ∷ Carry 1 1 ∷ Accept ∷ Clear
    ∷ Place (1 ∷ 1 ∷ []) 1 ∷ Accept ∷ Place (1 ∷ 0 ∷ []) 1_000_000_000 ∷ Peel 2 ∷ Reduce ∷ Place (0 ∷ 1 ∷ []) 1 ∷ Accept
    ∷ Ask ValueLeft ∷ Ask (CopiesLeft 2) ∷ Peel 1 ∷ Compile (length_meaning 5) [] 512 ∷ Compile (length_meaning 5) (order (1 ∷ []) 1 ∷ order (1 ∷ []) 0 ∷ []) 512
    ∷ Compile (length_meaning 5) (order (1 ∷ 1 ∷ []) 1 ∷ []) 512 ∷ Compile (length_meaning 5) boards_and_rails 7 ∷ Accept ∷ [])
    ≡ Done (Nodes 8)
    ∷ Refused (Absent 3) ∷ Refused FlowOutOfRange ∷ Refused NoPattern ∷ Refused NoPattern ∷ carried ∷ Refused (Unbalanced 1) ∷ carried
    ∷ carried ∷ Refused (BelowDemand 2) ∷ Refused ArcOverLimit ∷ Refused WrongState ∷ Refused (CarriesFlow 1) ∷ carried ∷ Done (Worth 2 7)
    ∷ amount 2 ∷ amount 2 ∷ Refused TooLittleMemory ∷ Refused (BadItem 0) ∷ Refused (BadItem 2)
    ∷ Refused (BadItem 1) ∷ Refused TooManyNodes ∷ Refused WrongState ∷ []
