-- The loop over the copies of one item.
use Rattle.std.proofs.Common.{◌≡◌, ℕ, suc, ◌+◌, ◌-◌, ◌≤◌, List, length, drop, Some, None, sym, refl, ◌∙◌, arith}
use lib.ListN.{length-map}
use Rattle.limits.specs.Meaning.{Meaning, joined}
use Rattle.lists.specs.Entries.{entries}
use Rattle.graph.specs.declared.Row.{Row}
use Rattle.graph.specs.Graph.{row}
use Rattle.compile.specs.declared.draft.Draft.{Draft}
use Rattle.compile.specs.declared.step.Step.TheVariants.{Take}
use Rattle.compile.specs.declared.weighed.Weighed.{Weighed}
use Rattle.compile.specs.Drafts.{GrewBoth, Short, amounts}
use Rattle.compile.specs.Arcs.{ends, Leads}
use Rattle.compile.specs.Items.{Opened, nodes_of, Stations}
use Rattle.compile.proofs.Growth.{grew_both_trans, short_more, short_back}
use Rattle.compile.proofs.Copies.{Copies, copies_length, copies_next, copies_more, copies_end, copies_within}

module _ {L : Type 0} (f : L → List ℕ) (k : Meaning) (x : Weighed L) (low : ℕ) (b : Draft L) where
  -- c is the graph now, with the stations of less than m copies; the last of them begins at `from`
  pub record Round (c : Draft L) (m from : ℕ) : Type 0 where
    pub kept : GrewBoth b c
    pub made : Copies k (f x.weight) x.number low (entries b.rows) (amounts f b) (entries c.rows) (amounts f c) (m - 1) from
    pub reach : m ≤ x.most + 1

  module _ (opened : Opened f x.number low b) where
    long_b : length (amounts f b) ≡ length (entries b.loads)
    long_b = length-map (entries b.loads) f

    low_in : low ≤ length (amounts f b)
    low_in = omega (arith, long_b, opened.within)

    even : length (entries b.rows) ≡ length (amounts f b)
    even = b.paired ∙ sym long_b

    module _ (c : Draft L) (m from : ℕ) (round : Round c m from) where
      pub round_within : from ≤ length (entries c.loads)
      round_within =
          omega (
            arith,
            copies_length k (f x.weight) x.number low (entries b.rows) (amounts f b) low_in even (entries c.rows) (amounts f c) (m - 1) from round.made,
            length-map (entries c.loads) f,
          )

      module _ (one : 1 ≤ m) (le : m ≤ x.most) where
        here : suc (m - 1) ≡ m
        here = omega arith

        pub round_more : (d : Draft L) (next : ℕ) (q : Row) → q ≡ row x.number m None None → GrewBoth c d → Leads f k (Take x.weight) q from c d (Some next) → Round d (m + 1) next
        round_more d next q is grew leads =
            let long : length (entries c.loads) ≡ next = sym leads.0 in
            let after : m + 1 - 1 ≡ suc (m - 1) = omega arith in
            let new : q ≡ row x.number (suc (m - 1)) None None = is ∙ rw here refl in
            record {
              kept = grew_both_trans b c d round.kept grew;
              made = rw after (copies_more k (f x.weight) x.number low (entries b.rows) (amounts f b) low_in even (entries c.rows) (amounts f c) (m - 1) from round.made
                  (entries d.rows) (amounts f d) next (leads.0 ∙ sym (length-map (entries c.loads) f)) (rw (long, new) at leads.1));
              reach = omega arith;
            }

        pub round_short : (d : Draft L) (q : Row) → Leads f k (Take x.weight) q from c d None → Short b (low + length (nodes_of f k x low b))
        round_short d q short =
            let count = copies_next k (f x.weight) x.number low (entries b.rows) (amounts f b) low_in even (entries c.rows) (amounts f c) (m - 1) from round.made in
            let all = length (entries c.loads) + length (ends (λ a. joined k a (f x.weight)) (drop from (amounts f c))) in
            short_more b all (low + length (nodes_of f k x low b))
            (omega (
              arith,
              count,
              length-map (entries c.loads) f,
              copies_within k (f x.weight) x.number low (entries b.rows) (amounts f b) low_in even (m - 1) x.most (omega (arith, here)),
            ))
            (short_back b c all round.kept short)

      pub round_end : m - 1 ≡ x.most → Stations f k x low b c
      round_end e =
          let made = copies_end k (f x.weight) x.number low (entries b.rows) (amounts f b) low_in even (entries c.rows) (amounts f c) (m - 1) from round.made x.most e in
          record { loads = made.0; rows = made.1 }
