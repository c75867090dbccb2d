-- The steps of scans.
use Rattle.std.proofs.Common.{◌≡◌, ℕ, ◌+◌, ◌*◌, ◌/◌, ◌<◌, ◌≤◌, Bool, true, false, cond, not, ◌&&◌, eqb, ltb, ◌⊎◌, List, length, get_or, is_some, Some, None, refl, ap, inl, inr, add-one, arith}
use Rattle.std.proofs.lemmas.List.{get_or_past, get_or-map, length-map}
use Rattle.std.proofs.lemmas.Bool.{cases_lt, le-ltb, lt-ltb, eq-eqb, ne_eqb, and_right, and_from, not_from_true}
use Rattle.packing.specs.Problem.{entry}
use Rattle.graph.specs.declared.Row.{Row}
use Rattle.graph.specs.Graph.{at, blank, tail, takes, head}
use Rattle.flow.specs.declared.ItemRecord.{ItemRecord}
use Rattle.flow.specs.Arcs.{takes_item, numbers}
use Rattle.flow.specs.Flow.{on, carried, inflow, outflow, copies_of}
use Rattle.flow.specs.Job.{Content}
use Rattle.flow.specs.Scans.{no_item, demands_of}
use Rattle.flow.proofs.Shape.{not_none}
use Rattle.flow.proofs.Accept.{off, short}
use Rattle.flow.proofs.Loops.{carried_more}
use Rattle.flow.proofs.Paths.{takes_pass, takes_take, tail_take, head_take}

pub cond_le : (b : Bool) (x n : ℕ) → x ≤ n → cond b x 0 ≤ n
cond_le true x n h = h
cond_le false x n h = omega arith

-- there is no arc past the last node
pub none_past : (g : List Row) (a : ℕ) → length g ≤ a / 2 → head g a ≡ None
none_past g a h = rw (get_or_past g (a / 2) blank h) (both (takes a))
  where
    both : (b : Bool) → cond b blank.take blank.pass ≡ None
    both true = refl
    both false = refl

pub arc_within : (g : List Row) (a k : ℕ) → head g a ≡ Some k → a < 2 * length g
arc_within g a k e = go (cases_lt (a / 2) (length g))
  where
    go : (a / 2 < length g) ⊎ (length g ≤ a / 2) → a < 2 * length g
    go (inl lt) = omega arith
    go (inr le) = absurd (not_none (head g a) k e (none_past g a le))

-- the copies of an item on the arcs of one node more
pub copies_more : (g : List Row) (f : List ℕ) (i n : ℕ) →
    carried f (numbers (takes_item g i) (2 * (n + 1))) ≡ carried f (numbers (takes_item g i) (2 * n)) + cond (is_some (at g n).take && eqb (at g n).item i) (on f (2 * n + 1)) 0
copies_more g f i n =
    omega (
      arith,
      ap (λ k. carried f (numbers (takes_item g i) k)) (let e : 2 * (n + 1) ≡ 2 * n + 1 + 1 = omega arith in e),
      carried_more f (takes_item g i) (2 * n + 1),
      carried_more f (takes_item g i) (2 * n),
      ap (λ b. cond (b && (is_some (head g (2 * n)) && eqb (at g (tail (2 * n))).item i)) (on f (2 * n)) 0) (takes_pass n),
      ap (λ b. cond (b && (is_some (head g (2 * n + 1)) && eqb (at g (tail (2 * n + 1))).item i)) (on f (2 * n + 1)) 0) (takes_take n),
      ap (λ o. cond (is_some o && eqb (at g (tail (2 * n + 1))).item i) (on f (2 * n + 1)) 0) (head_take g n),
      ap (λ k. cond (is_some (at g n).take && eqb (at g k).item i) (on f (2 * n + 1)) 0) (tail_take n),
    )

-- a node that is off balance, or not
module _ (j : Content) where
  pub off_not : (v : ℕ) → inflow j.graph j.flow v ≡ outflow j.flow v → off j v ≡ false
  off_not v e = and_right (ltb 0 v) _ (not_from_true (eqb (inflow j.graph j.flow v) (outflow j.flow v)) (eq-eqb _ _ e))

  pub off_so : (v : ℕ) → 0 < v → (inflow j.graph j.flow v ≡ outflow j.flow v → ⊥) → off j v ≡ true
  off_so v pos ne = and_from (ltb 0 v) _ (lt-ltb 0 v pos) (ap not (ne_eqb (inflow j.graph j.flow v) (outflow j.flow v) ne))

-- the demand of the item at a place
pub entry_demand : (items : List ItemRecord) (k : ℕ) → k < length items → entry (demands_of items) (k + 1) ≡ (get_or items k no_item).demand
entry_demand items k lt = rw add-one (get_or-map (λ (r : ItemRecord). r.demand) items k no_item 0 lt)

pub demands_long : (items : List ItemRecord) → length (demands_of items) ≡ length items
demands_long items = length-map items (λ (r : ItemRecord). r.demand)

pub short_none : (j : Content) → short j 0 ≡ false
short_none j = le-ltb (copies_of j.graph j.flow 0) 0 (omega arith)
