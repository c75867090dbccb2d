-- The arcs from a run of nodes, led one after the other.
use Rattle.std.specs.Prelude.{◌≡◌, ℕ, zero, suc, ◌+◌, ◌-◌, false, List, [], ◌∷◌, ◌++◌, map, length, take, drop, Some, None, Option, slice_index_or, slice_set}
use Rattle.std.specs.Option.{option_map}
use Rattle.limits.specs.Meaning.{Meaning}
use Rattle.lists.specs.Entries.{entries}
use Rattle.graph.specs.declared.Row.{Row}
use Rattle.packing.specs.Distinct.{has, distinct, same_list}
use Rattle.graph.specs.Graph.{at}
use Rattle.graph.specs.Compiled.{place}
use Rattle.compile.specs.declared.draft.Draft.{Draft}
use Rattle.compile.specs.declared.step.Step.{Step}
use Rattle.compile.specs.Drafts.{Short, amounts}
use Rattle.compile.specs.Nodes.{Noted}
use Rattle.compile.specs.Steps.{stepped, putting}

-- what an option holds, as a list
abbrev pub listed : {X : Type 0} → Option X → List X
listed None = []
listed (Some x) = x ∷ []

-- `wanted` is the amount to which the arc from a node leads, by the node's amount; none if it has no arc
module _ (wanted : List ℕ → Option (List ℕ)) where
  -- the amounts to which the arcs from these nodes lead
  abbrev pub all_wanted : List (List ℕ) → List (List ℕ)
  all_wanted [] = []
  all_wanted (x ∷ xs) = listed (wanted x) ++ all_wanted xs

  -- the station to which the arcs from these nodes lead
  abbrev pub ends : List (List ℕ) → List (List ℕ)
  ends xs = distinct same_list (all_wanted xs)

  -- the node to which the arc from amount x leads, in the station t, which begins at node o
  abbrev pub arc : ℕ → List (List ℕ) → List ℕ → Option ℕ
  arc o t x = option_map (λ y. o + place y t) (wanted x)

-- a row with its arc put where it leads, if there is an arc
abbrev pub led_to : (ℕ → Row → Row) → Option ℕ → Row → Row
led_to put None r = r
led_to put (Some n) r = put n r

-- the first n rows with their arcs, by the amounts of the nodes
abbrev pub linked : (ℕ → Row → Row) → (List ℕ → Option ℕ) → ℕ → List Row → List (List ℕ) → List Row
linked put to zero rs xs = rs
linked put to (suc n) [] xs = []
linked put to (suc n) (r ∷ rs) [] = r ∷ rs
linked put to (suc n) (r ∷ rs) (x ∷ xs) = led_to put (to x) r ∷ linked put to n rs xs

-- The arcs of the first j nodes from `low` on have been led, to a station that begins past the nodes so far and whose rows are q.
-- rs and xs are the rows and the amounts before, qs and ys those now.
pub record Linked (put : ℕ → Row → Row) (wanted : List ℕ → Option (List ℕ)) (q : Row) (low : ℕ) (rs qs : List Row) (xs ys : List (List ℕ)) (j : ℕ) : Type 0 where
  pub amounts : ys ≡ xs ++ ends wanted (take j (drop low xs))
  pub rows : qs
      ≡ (take low rs ++ linked put (arc wanted (length xs) (ends wanted (drop low xs))) j (drop low rs) (drop low xs))
      ++ map (λ _. q) (ends wanted (take j (drop low xs)))

-- The arc of node n has been led to the station that begins at `high`.
abbrev pub Led : (ℕ → Row → Row) → Option (List ℕ) → Row → ℕ → ℕ → List Row → List Row → List (List ℕ) → List (List ℕ) → Type 0
Led put None q high n rs qs xs ys = (qs ≡ rs) × (ys ≡ xs)
Led put (Some x) q high n rs qs xs ys = (ms : List Row) × ((t : ℕ) × (Noted rs ms xs ys high x q t × (qs ≡ slice_set ms n (put t (at ms n)))))

module _ {L : Type 0} (f : L → List ℕ) where
  -- The arc leads to a node that is not there, and there is no room for it.
  abbrev pub Lacking : Option (List ℕ) → ℕ → Draft L → Type 0
  Lacking None high b = ⊥
  Lacking (Some x) high b = (has same_list x (drop high (amounts f b)) ≡ false) × Short b (suc (length (entries b.loads)))

  -- The arc of the step from node n has been led. None if there is no room for the node to which it leads.
  abbrev pub LeadsOne : Meaning → Step L → Row → ℕ → ℕ → Draft L → Draft L → Option (Unit {0}) → Type 0
  LeadsOne k s q high n b c None = Lacking (stepped f k s (slice_index_or (amounts f b) n [])) high b
  LeadsOne k s q high n b c (Some _) =
      Led (putting s) (stepped f k s (slice_index_or (amounts f b) n [])) q high n (entries b.rows) (entries c.rows) (amounts f b) (amounts f c)

  -- All arcs of the step from the nodes from `low` on have been led; the answer is the node at which their station begins.
  -- None if there is no room for the whole station.
  abbrev pub Leads : Meaning → Step L → Row → ℕ → Draft L → Draft L → Option ℕ → Type 0
  Leads k s q low b c None = Short b (length (entries b.loads) + length (ends (stepped f k s) (drop low (amounts f b))))
  Leads k s q low b c (Some high) =
      (high ≡ length (entries b.loads))
      × Linked (putting s) (stepped f k s) q low (entries b.rows) (entries c.rows) (amounts f b) (amounts f c) (length (entries b.loads) - low)
