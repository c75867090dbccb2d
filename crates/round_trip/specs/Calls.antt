-- The calls by which a packing is made, and what comes of calls that end at the first refusal.
use Rattle.std.specs.Prelude.{ℕ, List, [], ◌∷◌}
use Rattle.limits.specs.Meaning.{Meaning}
use Rattle.packing.specs.Problem.{Order}
use Rattle.flow.specs.Job.{Answer, Answer.Refused, Answer.Done, Call, Call.Accept, Call.Carry, Call.Compile, Call.Place, Call.Reduce, Reply.Plain}

-- the first refusal, otherwise the last answer
abbrev pub outcome : List Answer → Answer
outcome [] = Done Plain
outcome (Refused e ∷ rest) = Refused e
outcome (Done x ∷ []) = Done x
outcome (Done x ∷ (a ∷ rest)) = outcome (a ∷ rest)

-- a bin with one of each of two items, and one with the second alone
abbrev pub placing : Meaning → List Order → ℕ → List Call
placing k orders loads = Compile k orders loads ∷ Reduce ∷ Place (1 ∷ 1 ∷ []) 1 ∷ Place (0 ∷ 1 ∷ []) 1 ∷ Accept ∷ []

-- flow 2 on arcs 1, 2 and 8, and flow 1 on arcs 0, 7 and 10
abbrev pub carrying : Meaning → List Order → ℕ → List Call
carrying k orders loads = Compile k orders loads ∷ Reduce ∷ Carry 0 1 ∷ Carry 1 2 ∷ Carry 2 2 ∷ Carry 7 1 ∷ Carry 8 2 ∷ Carry 10 1 ∷ Accept ∷ []
