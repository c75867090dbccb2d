-- The arcs into a node that an iterator has left.
use Rattle.std.specs.Prelude.{ℕ, ◌-◌, ◌*◌, List, length, filter}
use Rattle.std.specs.List.{range_with_len}
use Rattle.graph.specs.Graph.{head}
use Rattle.flow.specs.Arcs.{is}
use Rattle.lp.specs.declared.links.Incoming.{Incoming}

-- those from its next arc on
abbrev pub arcs_left : Incoming → List ℕ
arcs_left s = filter (λ a. is (head s.graph.rows.now a) s.node) (range_with_len s.arc (2 * length s.graph.rows.now - s.arc))
