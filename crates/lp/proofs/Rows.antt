-- The rows of the model.
use Rattle.std.proofs.Common.{◌≡◌, ℕ, zero, suc, ◌+◌, ◌-◌, ◌*◌, ◌<◌, ◌≤◌, Bool, true, false, cond, List, [], ◌∷◌, ◌++◌, map, length, is_some, get_or, take, codes, decimal, sym, refl, ap, ap₂, ◌∙◌, add-zero, add-one, arith, length-append}
use Rattle.std.specs.Fmt.{digits}
use Rattle.std.specs.List.{filter, flat_map, range_with_len}
use Rattle.std.proofs.lemmas.Grind.{flat_map-append}
use Rattle.std.proofs.lemmas.List.{append-nil, map-append, take_more, length-take-le}
use Rattle.graph.specs.declared.Row.{Row}
use Rattle.graph.specs.Graph.{at, head}
use Rattle.flow.specs.Arcs.{arcs_into, arcs_out, numbers}
use Rattle.flow.specs.Model.{Term, item_row, item_rows, minus, node_row, supply}
use Rattle.flow.specs.Text.{break, constraint, entries, term}
use Rattle.flow.proofs.Paths.{head_pass, head_take}
use Rattle.lp.proofs.Entries.{entries_append}

-- the arcs out of a node
pub arcs_of_node : (g : List Row) (n : ℕ) → filter (λ a. is_some (head g a)) (range_with_len (2 * n) (2 * n + 2 - 2 * n)) ≡ arcs_out g n
arcs_of_node g n = ap (λ k. filter (λ a. is_some (head g a)) (range_with_len (2 * n) k)) two ∙ ap₂ pick (ap is_some (head_pass g n)) (ap is_some (head_take g n)) ∙ apart (is_some (at g n).pass)
  where
    two : 2 * n + 2 - 2 * n ≡ 2
    two = omega arith

    pick : Bool → Bool → List ℕ
    pick p q = cond p (2 * n ∷ cond q ((2 * n + 1) ∷ []) []) (cond q ((2 * n + 1) ∷ []) [])

    apart : (p : Bool) → pick p (is_some (at g n).take) ≡ cond p (2 * n ∷ []) [] ++ cond (is_some (at g n).take) ((2 * n + 1) ∷ []) []
    apart true = refl
    apart false = refl

pub few_of_node : (g : List Row) (n : ℕ) → length (arcs_out g n) ≤ 2
few_of_node g n = simp length-append (omega (arith, one (is_some (at g n).pass) (2 * n), one (is_some (at g n).take) (2 * n + 1)))
  where
    one : (p : Bool) (a : ℕ) → length (cond p (a ∷ []) []) ≤ 1
    one true a = omega arith
    one false a = omega arith

-- what comes into a node, as terms of its row
pub source_supply : (g : List Row) (n k : ℕ) → n ≡ 0 → break k ++ codes " - z" ≡ entries term k (supply g n)
source_supply g n k e = sym (ap (λ v. entries term k (supply g v)) e)

pub inner_supply : (g : List Row) (n k : ℕ) → (n ≡ 0 → ⊥) → entries term k (minus (arcs_into g n)) ≡ entries term k (supply g n)
inner_supply g zero k h = absurd (h refl)
inner_supply g (suc n) k h = refl

-- the terms of a row in two parts
pub terms_parts : (xs ys : List Term) (k : ℕ) → k ≡ length xs → entries term 0 xs ++ entries term k ys ≡ entries term 0 (xs ++ ys)
terms_parts xs ys k e = ap (λ n. entries term 0 xs ++ entries term n ys) from_none ∙ sym (entries_append term 0 xs ys)
  where
    from_none : k ≡ 0 + length xs
    from_none = omega arith

-- the end of a node's row
pub balance_end : codes " = 0\n" ≡ codes " = " ++ (decimal 0 ++ codes "\n")
unfolding digits
balance_end = refl

-- one row more
joined_one : {A : Type 0} (f : A → List ℕ) (xs : List A) (x : A) → flat_map f xs ++ f x ≡ flat_map f (xs ++ x ∷ [])
joined_one f xs x = ap (λ e. flat_map f xs ++ e) (sym (append-nil (f x))) ∙ sym (flat_map-append f xs (x ∷ []))

-- the rows of the nodes, one node on
pub node_rows_next : (g : List Row) (n : ℕ) →
    flat_map constraint (map (node_row g) (numbers (λ n. true) n)) ++ constraint (node_row g n) ≡ flat_map constraint (map (node_row g) (numbers (λ n. true) (n + 1)))
node_rows_next g n =
    joined_one constraint (map (node_row g) (numbers (λ n. true) n)) (node_row g n)
    ∙ ap (flat_map constraint) (sym (rw (add-one n) (map-append (node_row g) (numbers (λ n. true) n) (n ∷ []))))

item_rows_more : (g : List Row) (i : ℕ) (xs : List ℕ) (b : ℕ) → item_rows g i (xs ++ b ∷ []) ≡ item_rows g i xs ++ item_row g (i + length xs) b ∷ []
item_rows_more g i [] b = ap (λ n. item_row g n b ∷ []) (sym (add-zero i))
item_rows_more g i (x ∷ xs) b = ap (λ e. item_row g i x ∷ e) (item_rows_more g (suc i) xs b ∙ ap (λ n. item_rows g (suc i) xs ++ item_row g n b ∷ []) next)
  where
    next : suc i + length xs ≡ i + suc (length xs)
    next = omega arith

-- the rows of the items, one demand on
pub item_rows_next : (g : List Row) (demands : List ℕ) (i : ℕ) → i < length demands →
    flat_map constraint (item_rows g 1 (take i demands)) ++ constraint (item_row g (i + 1) (get_or demands i 0)) ≡ flat_map constraint (item_rows g 1 (take (i + 1) demands))
item_rows_next g demands i h =
    ap (λ n. flat_map constraint (item_rows g 1 (take i demands)) ++ constraint (item_row g n (get_or demands i 0))) number
    ∙ joined_one constraint (item_rows g 1 (take i demands)) (item_row g (1 + length (take i demands)) (get_or demands i 0))
    ∙ ap (flat_map constraint) (sym (ap (item_rows g 1) (take_more demands i 0 h) ∙ item_rows_more g 1 (take i demands) (get_or demands i 0)))
  where
    number : i + 1 ≡ 1 + length (take i demands)
    number = omega (arith, length-take-le i demands (omega arith))
