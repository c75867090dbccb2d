-- A model is read back from its text.
use Rattle.std.proofs.Common.{◌≡◌, ℕ, suc, ◌+◌, ◌%◌, ◌^◌, ◌<◌, Bool, true, false, cond, ◌&&◌, eqb, ltb, List, [], ◌∷◌, ◌++◌, map, codes, decimal, sym, refl, ap, ◌∙◌, subst, ap₂, append_assoc, arith}
use Rattle.std.specs.Str.Parse.{digits_value}
use Rattle.std.specs.List.{flat_map, AllByRecursion}
use Rattle.std.proofs.lemmas.Fmt.{decimal_is_IsNumeral, decimal_by_steps}
use Rattle.std.proofs.ByRecursion.{All-append}
use Rattle.std.proofs.lemmas.List.{append-nil, map-id}
use Rattle.std.proofs.lemmas.Bool.Decides.{nat_tests}
use Rattle.flow.specs.Model.{Variable, Variable.Z, Variable.X, Term, Term.Plus, Term.Minus, Relation, Relation.Equal, Relation.AtLeast, Label, Label.Node, Label.Item, Constraint}
use Rattle.flow.specs.Text.{variable, listed, term, break, entries, label, relation, constraint, text}
use Rattle.lp.specs.Reading.{separates, onto, pieces, Reading, with_terms, with_term, negated, related, numbered, labelled, variable_of, listing, letter, digit, word, read_words, WithinVariable, WithinLabel, WithinRow, ReadsBack}

-- what is read of these bytes
abbrev R : List ℕ → Reading
R bytes = read_words (pieces bytes)

-- the bytes begin with a separator
abbrev Begins : List ℕ → Type 0
Begins bytes = (ws : List (List ℕ)) × (pieces bytes ≡ [] ∷ ws)

abbrev Plain : List ℕ → Type 0
Plain w = AllByRecursion (λ c. separates c ≡ false) w

pieces_word : (w rest : List ℕ) (ws : List (List ℕ)) → Plain w → pieces rest ≡ [] ∷ ws → pieces (w ++ rest) ≡ w ∷ ws
pieces_word [] rest ws p e = e
pieces_word (c ∷ w) rest ws p e = ap₂ (λ b ps. cond b ([] ∷ pieces (w ++ rest)) (onto c ps)) p.0 (pieces_word w rest ws p.1 e)

-- one word before a separator
read_word : (w rest : List ℕ) → Plain w → Begins rest → R (w ++ rest) ≡ word w (R rest)
read_word w rest p b = ap read_words (pieces_word w rest b.0 p b.1) ∙ ap (word w) (sym (ap read_words b.1))

-- Numbers.
plain_digit : (d : ℕ) → d < 10 → separates (48 + d) ≡ false
plain_digit d h = grind (arith, nat_tests)

plain_decimal : (n : ℕ) → n < 2 ^ 64 → Plain (decimal n)
plain_decimal = decimal_by_steps (λ n ds. Plain ds) (λ n h. (plain_digit n h, tt)) (λ n ds h p. All-append (λ c. separates c ≡ false) ds ((48 + n % 10) ∷ []) p (plain_digit (n % 10) (omega arith), tt))

value_decimal : (n : ℕ) → n < 2 ^ 64 → digits_value 10 (decimal n) ≡ n
value_decimal n h = (decimal_is_IsNumeral n h).1

-- begins with a digit
abbrev Figures : List ℕ → Type 0
Figures w = (c : ℕ) × (ds : List ℕ) × (w ≡ c ∷ ds) × (digit c ≡ true)

figures_append : (ds : List ℕ) (e : List ℕ) → Figures ds → Figures (ds ++ e)
figures_append ds e f = (f.0, f.1 ++ e, ap (λ w. w ++ e) f.2, f.3)

is_digit : (d : ℕ) → d < 10 → digit (48 + d) ≡ true
is_digit d h = grind (arith, nat_tests)

figures_decimal : (n : ℕ) → n < 2 ^ 64 → Figures (decimal n)
figures_decimal = decimal_by_steps (λ n ds. Figures ds) (λ n h. (48 + n, [], refl, is_digit n h)) (λ n ds h f. figures_append ds ((48 + n % 10) ∷ []) f)

word_figures : (w : List ℕ) (s : Reading) → Figures w → word w s ≡ numbered (digits_value 10 w) s
word_figures w s f =
    ap (λ v. word v s) f.2
    ∙ ap (λ b. cond b (numbered (digits_value 10 (f.0 ∷ f.1)) s) (letter f.0 f.1 s)) f.3
    ∙ ap (λ v. numbered (digits_value 10 v) s) (sym f.2)

read_number : (n : ℕ) (rest : List ℕ) → n < 2 ^ 64 → Begins rest → R (decimal n ++ rest) ≡ numbered n (R rest)
read_number n rest h b =
    read_word (decimal n) rest (plain_decimal n h) b
    ∙ word_figures (decimal n) (R rest) (figures_decimal n h)
    ∙ ap (λ v. numbered v (R rest)) (value_decimal n h)

-- Variables and terms.
read_variable : (x : Variable) (rest : List ℕ) → WithinVariable x → Begins rest → R (variable x ++ rest) ≡ with_term (Plus x) (R rest)
read_variable Z rest h b = read_word (122 ∷ []) rest (refl, tt) b
read_variable (X a) rest h b =
    read_word (120 ∷ decimal a) rest (refl, plain_decimal a h) b ∙ ap (λ n. with_term (Plus (X n)) (R rest)) (value_decimal a h)

begins_term : (k : ℕ) (t : Term) (rest : List ℕ) → Begins (term k t ++ rest)
begins_term k (Plus x) rest = go (eqb k 0)
  where
    go : (b : Bool) → Begins ((cond b (codes " ") (codes " + ") ++ variable x) ++ rest)
    go true = (_, refl)
    go false = (_, refl)
begins_term k (Minus x) rest = (_, refl)

read_term : (k : ℕ) (t : Term) (rest : List ℕ) → WithinVariable (variable_of t) → Begins rest → R (term k t ++ rest) ≡ with_term t (R rest)
read_term k (Plus x) rest h b = go (eqb k 0)
  where
    go : (c : Bool) → R ((cond c (codes " ") (codes " + ") ++ variable x) ++ rest) ≡ with_term (Plus x) (R rest)
    go true = read_variable x rest h b
    go false = read_variable x rest h b
read_term k (Minus x) rest h b = ap (λ s. with_terms (negated s.terms) s) (read_variable x rest h b)

module _ {A : Type 0} (shown : ℕ → A → List ℕ) (to : A → Term) (P : A → Type 0)
    (starts : (k : ℕ) (x : A) (rest : List ℕ) → Begins (shown k x ++ rest))
    (read : (k : ℕ) (x : A) (rest : List ℕ) → P x → Begins rest → R (shown k x ++ rest) ≡ with_term (to x) (R rest)) where
  begins_break : (b : Bool) (rest : List ℕ) → Begins rest → Begins (cond b (codes "\n") [] ++ rest)
  begins_break true rest h = (pieces rest, refl)
  begins_break false rest h = h

  read_break : (b : Bool) (rest : List ℕ) → R (cond b (codes "\n") [] ++ rest) ≡ R rest
  read_break true rest = refl
  read_break false rest = refl

  apart : (k : ℕ) (x : A) (xs : List A) (rest : List ℕ) → entries shown k (x ∷ xs) ++ rest ≡ break k ++ (shown k x ++ (entries shown (suc k) xs ++ rest))
  apart k x xs rest =
      append_assoc (break k) (shown k x ++ entries shown (suc k) xs) rest
      ∙ ap (λ e. break k ++ e) (append_assoc (shown k x) (entries shown (suc k) xs) rest)

  begins_entries : (k : ℕ) (xs : List A) (rest : List ℕ) → Begins rest → Begins (entries shown k xs ++ rest)
  begins_entries k [] rest b = b
  begins_entries k (x ∷ xs) rest b =
      subst Begins (sym (apart k x xs rest))
      (begins_break (ltb 0 k && eqb (k % 8) 0) (shown k x ++ (entries shown (suc k) xs ++ rest)) (starts k x (entries shown (suc k) xs ++ rest)))

  read_entries : (k : ℕ) (xs : List A) (rest : List ℕ) → AllByRecursion P xs → Begins rest → R (entries shown k xs ++ rest) ≡ with_terms (map to xs ++ (R rest).terms) (R rest)
  read_entries k [] rest h b = refl
  read_entries k (x ∷ xs) rest h b =
      ap R (apart k x xs rest)
      ∙ read_break (ltb 0 k && eqb (k % 8) 0) (shown k x ++ (entries shown (suc k) xs ++ rest))
      ∙ read k x (entries shown (suc k) xs ++ rest) h.0 (begins_entries (suc k) xs rest b)
      ∙ ap (with_term (to x)) (read_entries (suc k) xs rest h.1 b)

-- Rows.
read_label : (l : Label) (rest : List ℕ) → WithinLabel l → R (label l ++ rest) ≡ labelled l (R rest)
read_label (Node n) rest h =
    ap (λ e. R (32 ∷ 110 ∷ e)) (append_assoc (decimal n) (codes ":") rest)
    ∙ read_word (110 ∷ decimal n) (58 ∷ rest) (refl, plain_decimal n h) (pieces rest, refl)
    ∙ ap (λ v. labelled (Node v) (R rest)) (value_decimal n h)
read_label (Item i) rest h =
    ap (λ e. R (32 ∷ 100 ∷ e)) (append_assoc (decimal i) (codes ":") rest)
    ∙ read_word (100 ∷ decimal i) (58 ∷ rest) (refl, plain_decimal i h) (pieces rest, refl)
    ∙ ap (λ v. labelled (Item v) (R rest)) (value_decimal i h)

read_relation : (r : Relation) (rest : List ℕ) → R (relation r ++ rest) ≡ related r (R rest)
read_relation Equal rest = refl
read_relation AtLeast rest = refl

begins_relation : (r : Relation) (rest : List ℕ) → Begins (relation r ++ rest)
begins_relation Equal rest = (_, refl)
begins_relation AtLeast rest = (_, refl)

-- these rows and variables were read, and no row is at hand
record Has (s : Reading) (rows : List Constraint) (variables : List Variable) : Type 0 where
  rows_are : s.rows ≡ rows
  variables_are : s.variables ≡ variables
  no_terms : s.terms ≡ []

parts : (c : Constraint) (rest : List ℕ) →
    constraint c ++ rest ≡ label c.label ++ (entries term 0 c.terms ++ (relation c.relation ++ (decimal c.right ++ (10 ∷ rest))))
parts c rest = simp append_assoc

read_constraint : (c : Constraint) (rest : List ℕ) → WithinRow c →
    R (constraint c ++ rest) ≡ labelled c.label (with_terms (c.terms ++ (R rest).terms) (related c.relation (numbered c.right (R rest))))
read_constraint c rest h =
    let end = decimal c.right ++ (10 ∷ rest) in
    let tail = relation c.relation ++ end in
    ap R (parts c rest)
    ∙ read_label c.label (entries term 0 c.terms ++ tail) h.label
    ∙ ap (labelled c.label) (
    read_entries term (λ t. t) (λ t. WithinVariable (variable_of t)) begins_term read_term 0 c.terms tail h.terms (begins_relation c.relation end)
    ∙ ap₂ (λ ts s. with_terms (ts ++ s.terms) s) (map-id c.terms)
    (read_relation c.relation end ∙ ap (related c.relation) (read_number c.right (10 ∷ rest) h.right (pieces rest, refl))))

row_more : (c : Constraint) (rest : List ℕ) (rows : List Constraint) (variables : List Variable) → WithinRow c → Has (R rest) rows variables → Has (R (constraint c ++ rest)) (c ∷ rows) variables
row_more c rest rows variables h k =
    let all = read_constraint c rest h in
    record {
      rows_are = ap (λ s. s.rows) all ∙ ap₂ (λ ts rs. record { label = c.label; terms = ts; relation = c.relation; right = c.right } ∷ rs) (ap (λ ts. c.terms ++ ts) k.no_terms ∙ append-nil c.terms) k.rows_are;
      variables_are = ap (λ s. s.variables) all ∙ k.variables_are;
      no_terms = ap (λ s. s.terms) all;
    }

rows_more : (cs : List Constraint) (rest : List ℕ) (rows : List Constraint) (variables : List Variable) → AllByRecursion WithinRow cs → Has (R rest) rows variables →
    Has (R (flat_map constraint cs ++ rest)) (cs ++ rows) variables
rows_more [] rest rows variables h k = k
rows_more (c ∷ cs) rest rows variables h k =
    subst (λ e. Has (R e) (c ∷ (cs ++ rows)) variables) (sym (append_assoc (constraint c) (flat_map constraint cs) rest))
    (row_more c (flat_map constraint cs ++ rest) (cs ++ rows) variables h.0 (rows_more cs rest rows variables h.1 k))

-- Variables.
plus_variables : (xs : List Variable) → map variable_of (map Plus xs ++ []) ≡ xs
plus_variables [] = refl
plus_variables (x ∷ xs) = ap (λ e. x ∷ e) (plus_variables xs)

listing_has : (xs : List Variable) → AllByRecursion WithinVariable xs → Has (R (codes "Generals\n" ++ (entries listed 0 xs ++ codes "\nEnd\n"))) [] xs
listing_has xs h =
    let all = ap listing (read_entries listed Plus WithinVariable (λ k x rest. (_, refl)) (λ k x rest. read_variable x rest) 0 xs (codes "\nEnd\n") h (_, refl)) in
    record { rows_are = ap (λ s. s.rows) all; variables_are = ap (λ s. s.variables) all ∙ plus_variables xs; no_terms = ap (λ s. s.terms) all }

pub reads_back : ReadsBack
unfolding text
reads_back m h =
    let all = rows_more m.rows (codes "Generals\n" ++ (entries listed 0 m.variables ++ codes "\nEnd\n")) [] m.variables h.rows (listing_has m.variables h.variables) in
    ap₂ (λ rows variables. record { rows = rows; variables = variables }) (all.rows_are ∙ append-nil m.rows) all.variables_are
