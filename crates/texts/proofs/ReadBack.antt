-- A valid instance is read back from its text.
use Rattle.std.proofs.Common.{◌≡◌, ℕ, ◌+◌, ◌≤◌, true, false, List, [], ◌∷◌, ◌++◌, map, length, drop, Ok, codes, decimal, sym, refl, ap, ◌∙◌, subst, ⊎_elim, append_assoc, append-nil, arith, length-append}
use lib.ListN.{length-map}
use lib.Seq.{drop-append_seam}
use Rattle.std.specs.List.{AllByRecursion}
use Rattle.std.specs.Str.{bytes_eq}
use Rattle.std.proofs.ByRecursion.{All-append, All-map, All-weaker}
use Rattle.std.proofs.lemmas.Slice.Eq.{bytes_eq-Decides}
use Rattle.std.proofs.lemmas.Bool.{and_from, or_from, le-leb, cases_Bool, not_from_false, cond-true}
use Rattle.texts.specs.declared.instance.Base.{Base}
use Rattle.texts.specs.declared.instance.Base.TheVariants.{Length, Vector, Colours}
use Rattle.texts.specs.Split.{words}
use Rattle.texts.specs.Grammar.{Read, Entry, and_then, just, shape, number_in, number_at, numbers_at, sole_number, four_numbers, line_at, base_of, count_limit_of, known, name_at, item_of, item_at, items_at, names_of}
use Rattle.texts.specs.Valid.{Within, Name, Item, Limit, Distinct, OnLines}
use Rattle.texts.specs.Written.{spaced, base_words, item_words}
use Rattle.texts.proofs.Written.{Clean, words_spaced, spaced_line, line_printable, decimal_form, decimal_clean}

-- Words

number_back : (low high line k n : ℕ) (ws : List (List ℕ)) → Within low high n → n ≤ 1000000000 → number_at low high line k (decimal n ∷ ws) ≡ Ok n
number_back low high line k n ws w h = ap (number_in low high line k) (decimal_form n h) ∙ cond-true _ _ _ (and_from _ _ (le-leb low n w.0) (le-leb n high w.1))

just_all : (ws : List (List ℕ)) → AllByRecursion Clean ws → just (length ws) ws ≡ true
just_all [] a = refl
just_all ([] ∷ ws) a = absurd (omega (arith, a.0.size.0))
just_all ((b ∷ w) ∷ ws) a = just_all ws a.1

shape_back : (line n : ℕ) (ws : List (List ℕ)) → AllByRecursion Clean ws → length ws ≡ n → shape line n ws ≡ Ok tt
shape_back line n ws a e = cond-true _ _ _ (ap (λ k. just k ws) (sym e) ∙ just_all ws a)

numbers_back : (line k : ℕ) (xs : List ℕ) (rest : List (List ℕ)) (ys : List ℕ) → AllByRecursion (Within 0 1000000000) xs → numbers_at line k (length xs) (map decimal xs ++ rest) ys ≡ Ok (ys ++ xs)
unfolding numbers_at
numbers_back line k [] rest ys a = ap Ok (sym (append-nil ys))
numbers_back line k (x ∷ xs) rest ys a =
    ap (λ r. and_then r (λ y. numbers_at line (k + 1) (length xs) (map decimal xs ++ rest) (ys ++ y ∷ []))) (number_back 0 1000000000 line k x (map decimal xs ++ rest) a.0 a.0.1) ∙ numbers_back line (k + 1) xs rest (ys ++ x ∷ []) a.1 ∙ ap Ok (append_assoc ys (x ∷ []) xs)

pub sole_back : (low high line k n : ℕ) → Within low high n → n ≤ 1000000000 → sole_number low high line k (decimal n ∷ []) ≡ Ok n
sole_back low high line k n w h =
    ap (λ r. and_then r (λ _. number_at low high line k (decimal n ∷ []))) (shape_back line 1 (decimal n ∷ []) (decimal_clean n h, tt) refl) ∙ number_back low high line k n [] w h

pub decimals_clean : (xs : List ℕ) → AllByRecursion (Within 0 1000000000) xs → AllByRecursion Clean (map decimal xs)
decimals_clean xs a = All-map Clean decimal xs (All-weaker (Within 0 1000000000) (λ n. Clean (decimal n)) (λ n w. decimal_clean n w.1) xs a)

four_back : (line k : ℕ) (xs : List ℕ) → length xs ≡ 4 → AllByRecursion (Within 0 1000000000) xs → four_numbers line k (map decimal xs) ≡ Ok xs
four_back line k xs e a =
    ap (λ r. and_then r (λ _. numbers_at line k 4 (map decimal xs) [])) (shape_back line 4 (map decimal xs) (decimals_clean xs a) (length-map xs decimal ∙ e)) ∙ ap (λ n. numbers_at line k n (map decimal xs) []) (sym e) ∙ ap (λ ws. numbers_at line k (length xs) ws []) (sym (append-nil (map decimal xs))) ∙ numbers_back line k xs [] [] a

-- Lines

-- a line that was written is read as its words
pub line_back : {A : Type 0} (f : List (List ℕ) → Read A) (line : ℕ) (ws : List (List ℕ)) (ls : List (List ℕ)) → 1 ≤ length ws → AllByRecursion Clean ws → and_then (line_at line (spaced ws ∷ ls)) (λ x. f (words x)) ≡ f ws
line_back f line [] ls h a = absurd (omega arith)
line_back f line (w ∷ ws) ls h a =
    ap (λ r. and_then r (λ x. f (words x))) (cond-true _ _ _ (line_printable (spaced (w ∷ ws)) (spaced_line (w ∷ ws) a))) ∙ ap f (words_spaced w ws a)

pub base_back : (line : ℕ) (b : Base) → Limit b → base_of line (base_words b) ≡ Ok b
base_back line (Length n) w = ap (λ r. and_then r (λ n. Ok (Length n))) (sole_back 1 1000000000 line 2 n w w.1)
base_back line (Vector ns) w = ap (λ r. and_then r (λ ns. Ok (Vector ns))) (four_back line 2 ns w.0 w.1)
base_back line (Colours n) w = ap (λ r. and_then r (λ n. Ok (Colours n))) (sole_back 0 64 line 2 n w (omega (arith, w.1)))

pub count_limit_back : (line n : ℕ) → Within 1 100000 n → count_limit_of line (codes "N" ∷ decimal n ∷ []) ≡ Ok n
count_limit_back line n w = sole_back 1 100000 line 2 n w (omega (arith, w.1))

-- Items

name_back : (line k : ℕ) (names : List (List ℕ)) (w : List ℕ) (ws : List (List ℕ)) → Name w → known w names ≡ false → name_at line k names (w ∷ ws) ≡ Ok w
name_back line k names w ws n h =
    cond-true _ _ _ (and_from _ _ (and_from _ _ (and_from _ _ (le-leb 1 (length w) n.size.0) (le-leb (length w) 16 n.size.1)) (not_from_false _ n.first)) (not_from_false _ h))

item_steps : (n line : ℕ) (names ws : List (List ℕ)) (name xs : List ℕ) (d : ℕ) →
    shape line (n + 2) ws ≡ Ok tt → name_at line 1 names ws ≡ Ok name → numbers_at line 2 n (drop 1 ws) [] ≡ Ok xs →
    number_at 1 4095 line (n + 2) (drop n (drop 1 ws)) ≡ Ok d →
    item_of n line names ws ≡ Ok (record { name = name; line = line; fields = xs; demand = d })
item_steps n line names ws name xs d e₁ e₂ e₃ e₄ = rw (e₁, e₂, e₃, e₄)

pub item_clean : (n : ℕ) (e : Entry) → Item n e → AllByRecursion Clean (item_words e)
item_clean n e i =
    (record { size = i.name.size; bytes = i.name.bytes }, All-append Clean (map decimal e.fields) (decimal e.demand ∷ []) (decimals_clean e.fields i.values) (decimal_clean e.demand (omega (arith, i.demand.1)), tt))

pub item_size : (n : ℕ) (e : Entry) → Item n e → length (item_words e) ≡ n + 2
item_size n e i = omega (arith, length-append (map decimal e.fields) (decimal e.demand ∷ []), length-map e.fields decimal, i.count)

item_back : (n line : ℕ) (names : List (List ℕ)) (e : Entry) → Item n e → known e.name names ≡ false → e.line ≡ line → item_of n line names (item_words e) ≡ Ok e
item_back n line names e i new at =
    let ws = map decimal e.fields in
    let demand = decimal e.demand ∷ [] in
    let long : length ws ≡ n = length-map e.fields decimal ∙ i.count in
    let values : numbers_at line 2 n (ws ++ demand) [] ≡ Ok e.fields = ap (λ k. numbers_at line 2 k (ws ++ demand) []) (sym i.count) ∙ numbers_back line 2 e.fields demand [] i.values in
    let last : drop n (ws ++ demand) ≡ demand = ap (λ k. drop k (ws ++ demand)) (sym long) ∙ drop-append_seam ws demand in
    item_steps n line names (item_words e) e.name e.fields e.demand (shape_back line (n + 2) (item_words e) (item_clean n e i) (item_size n e i)) (name_back line 1 names e.name (ws ++ demand) i.name new) values (ap (number_at 1 4095 line (n + 2)) last ∙ number_back 1 4095 line (n + 2) e.demand [] i.demand (omega (arith, i.demand.1))) ∙ ap (λ l. Ok (record { name = e.name; line = l; fields = e.fields; demand = e.demand })) (sym at)

-- a name is none of those before it
named : (es : List Entry) (e : Entry) (rest : List Entry) (P : List ℕ → Type 0) → AllByRecursion P (names_of (es ++ e ∷ rest)) → P e.name
named [] e rest P a = a.0
named (d ∷ es) e rest P a = named es e rest P a.1

new_name : (es : List Entry) (e : Entry) (rest : List Entry) → Distinct (names_of (es ++ e ∷ rest)) → known e.name (names_of es) ≡ false
new_name [] e rest a = refl
new_name (d ∷ es) e rest a =
    let apart = named es e rest (λ v. v ≡ d.name → ⊥) a.0 in
    let differ : bytes_eq d.name e.name ≡ false = ⊎_elim (λ t. absurd (apart (sym ((bytes_eq-Decides d.name e.name).0 t)))) (λ f. f) (cases_Bool (bytes_eq d.name e.name)) in
    or_from _ _ differ (new_name es e rest a.1)

pub items_back : (n from : ℕ) (es all : List Entry) → AllByRecursion (Item n) es → OnLines from es → Distinct (names_of (all ++ es)) → items_at n from (length es) (map spaced (map item_words es)) all ≡ Ok (all ++ es)
unfolding items_at
items_back n from [] all i o d = ap Ok (sym (append-nil all))
items_back n from (e ∷ es) all i o d =
    let size : 1 ≤ length (item_words e) = omega (arith, item_size n e i.0) in
    let here : item_at n from (names_of all) (spaced (item_words e) ∷ map spaced (map item_words es)) ≡ Ok e = line_back (item_of n from (names_of all)) from (item_words e) (map spaced (map item_words es)) size (item_clean n e i.0) ∙ item_back n from (names_of all) e i.0 (new_name all e es d) o.0 in
    let more : Distinct (names_of ((all ++ e ∷ []) ++ es)) = subst (λ l. Distinct (names_of l)) (sym (append_assoc all (e ∷ []) es)) d in
    ap (λ r. and_then r (λ x. items_at n (from + 1) (length es) (map spaced (map item_words es)) (all ++ x ∷ []))) here ∙ items_back n (from + 1) es (all ++ e ∷ []) i.1 o.1 more ∙ ap Ok (append_assoc all (e ∷ []) es)
