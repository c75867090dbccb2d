-- The text of a valid instance as a whole: it is well formed, and its sections are read back.
use Rattle.std.proofs.Common.{◌≡◌, ℕ, suc, ◌+◌, ◌-◌, ◌*◌, ◌≤◌, List, [], ◌∷◌, ◌++◌, map, length, get_or, drop, Some, None, Ok, codes, decimal, Option, refl, ap, ◌∙◌, arith, length-append, get_or-append-add}
use lib.ListN.{length-map}
use lib.Seq.{get_or-append_seam}
use Rattle.std.specs.List.{AllByRecursion}
use Rattle.std.proofs.ByRecursion.{All-map, All-weaker}
use Rattle.std.proofs.lemmas.List.{drop_all}
use Rattle.std.proofs.lemmas.Bool.{and_from, le-leb, eq-eqb, cond-true}
use Rattle.texts.specs.declared.instance.Base.{Base}
use Rattle.texts.specs.declared.instance.Base.TheVariants.{Length, Vector, Colours}
use Rattle.texts.specs.Split.{lines}
use Rattle.texts.specs.Grammar.{Read, Entry, and_then, sole_number, count_at, base_of, base_at, count_limit_of, second_at, end_at, field_count_of, items_at, names_of, section, text_end, item_lines, items_section, second_line, limit_lines, sections, formed, reads}
use Rattle.texts.specs.Valid.{Within, Item, Limit, CountLimit, first_item, OnLines, Distinct, Valid}
use Rattle.texts.specs.Written.{spaced, text_of, base_words, item_words, counted, lines_of, written, ReadsWritten}
use Rattle.texts.proofs.Written.{Clean, lines_text, decimal_clean}
use Rattle.texts.proofs.ReadBack.{sole_back, decimals_clean, line_back, base_back, count_limit_back, item_clean, item_size, items_back}

-- Lines of 1 to 6 words

record Good (ws : List (List ℕ)) : Type 0 where
  some : 1 ≤ length ws
  few : length ws ≤ 6
  clean : AllByRecursion Clean ws

letter_clean : (b : ℕ) → Within 33 126 b → Clean (b ∷ [])
letter_clean b w = record { size = (omega arith, omega arith); bytes = (w, tt) }

base_good : (b : Base) → Limit b → Good (base_words b)
base_good (Length n) w = record { some = omega arith; few = omega arith; clean = (letter_clean 76 (omega arith, omega arith), (decimal_clean n w.1, tt)) }
base_good (Vector ns) w =
    let long = length-map ns decimal in
    record { some = omega arith; few = omega (arith, w.0); clean = (letter_clean 86 (omega arith, omega arith), decimals_clean ns w.1) }
base_good (Colours n) w = record { some = omega arith; few = omega arith; clean = (letter_clean 67 (omega arith, omega arith), (decimal_clean n (omega (arith, w.1)), tt)) }

number_good : (n : ℕ) → n ≤ 1000000000 → Good (decimal n ∷ [])
number_good n h = record { some = omega arith; few = omega arith; clean = (decimal_clean n h, tt) }

count_limit_good : (n : ℕ) → Within 1 100000 n → Good (codes "N" ∷ decimal n ∷ [])
count_limit_good n w = record { some = omega arith; few = omega arith; clean = (letter_clean 78 (omega arith, omega arith), (decimal_clean n (omega (arith, w.1)), tt)) }

fields_few : (b : Base) → field_count_of b ≤ 4
fields_few (Length n) = omega arith
fields_few (Vector ns) = omega arith
fields_few (Colours n) = omega arith

item_good : (b : Base) (e : Entry) → Item (field_count_of b) e → Good (item_words e)
item_good b e i =
    let size = item_size (field_count_of b) e i in
    let few = fields_few b in
    record { some = omega arith; few = omega arith; clean = item_clean (field_count_of b) e i }

items_good : (b : Base) (es : List Entry) → AllByRecursion (Item (field_count_of b)) es → AllByRecursion Good (map item_words es)
items_good b es a = All-map Good item_words es (All-weaker (Item (field_count_of b)) (λ e. Good (item_words e)) (item_good b) es a)

lines_good : (b : Base) (o : Option ℕ) (es : List Entry) → Limit b → CountLimit o → length es ≤ 64 → AllByRecursion (Item (field_count_of b)) es → AllByRecursion Good (lines_of (record { limits = record { base = b; count = o }; items = es }))
lines_good b None es l c n i =
    let m = length-map es item_words in
    (number_good 1 (omega arith), (base_good b l, (number_good (length (map item_words es)) (omega arith), items_good b es i)))
lines_good b (Some k) es l c n i =
    let m = length-map es item_words in
    (number_good 2 (omega arith), (base_good b l, (count_limit_good k c, (number_good (length (map item_words es)) (omega arith), items_good b es i))))

lines_few : (b : Base) (o : Option ℕ) (es : List Entry) → length es ≤ 64 → length (lines_of (record { limits = record { base = b; count = o }; items = es })) ≤ 68
lines_few b None es n = omega (arith, length-map es item_words)
lines_few b (Some k) es n = omega (arith, length-map es item_words)

-- A text of good lines is well formed

spaced_length : (ws : List (List ℕ)) → AllByRecursion Clean ws → length (spaced ws) ≤ 17 * length ws
spaced_length [] a = omega arith
spaced_length (w ∷ []) a = omega (arith, a.0.size.1)
spaced_length (w ∷ v ∷ ws) a = omega (arith, a.0.size.1, length-append w (32 ∷ spaced (v ∷ ws)), spaced_length (v ∷ ws) a.1)

text_length : (ls : List (List (List ℕ))) → AllByRecursion Good ls → length (text_of ls) ≤ 103 * length ls
text_length [] a = omega arith
text_length (ws ∷ ls) a = omega (arith, a.0.few, length-append (spaced ws) (10 ∷ text_of ls), spaced_length ws a.0.clean, text_length ls a.1)

text_some : (ws : List (List ℕ)) (ls : List (List (List ℕ))) → 1 ≤ length (text_of (ws ∷ ls))
text_some ws ls = omega (arith, length-append (spaced ws) (10 ∷ text_of ls))

text_ends : (ws : List (List ℕ)) (ls : List (List (List ℕ))) → get_or (text_of (ws ∷ ls)) (length (text_of (ws ∷ ls)) - 1) 0 ≡ 10
text_ends ws [] =
    let last : length (spaced ws ++ 10 ∷ []) - 1 ≡ length (spaced ws) = omega (arith, length-append (spaced ws) (10 ∷ [])) in
    ap (λ i. get_or (spaced ws ++ 10 ∷ []) i 0) last ∙ get_or-append_seam (spaced ws) 10 [] 0
text_ends ws (vs ∷ ls) =
    let rest = text_of (vs ∷ ls) in
    let last : length (spaced ws ++ 10 ∷ rest) - 1 ≡ length (spaced ws) + suc (length rest - 1) = omega (arith, length-append (spaced ws) (10 ∷ rest), text_some vs ls) in
    ap (λ i. get_or (spaced ws ++ 10 ∷ rest) i 0) last ∙ get_or-append-add (spaced ws) (10 ∷ rest) (suc (length rest - 1)) 0 ∙ text_ends vs ls

text_formed : (ws : List (List ℕ)) (ls : List (List (List ℕ))) → AllByRecursion Good (ws ∷ ls) → length (ws ∷ ls) ≤ 68 → formed (text_of (ws ∷ ls)) ≡ Ok tt
text_formed ws ls a h =
    let text = text_of (ws ∷ ls) in
    cond-true _ _ _ (and_from _ _ (and_from _ _ (le-leb 1 (length text) (text_some ws ls)) (le-leb (length text) 65536 (omega (arith, text_length (ws ∷ ls) a)))) (eq-eqb _ 10 (text_ends ws ls)))

-- Its sections

section_back : {A B : Type 0} (n : ℕ) (part : ℕ → List (List ℕ) → Read A) (follows : A → ℕ → List (List ℕ) → Read B) (l : ℕ) (ls : List (List ℕ)) (a : A) → part (l + 1) ls ≡ Ok a → section n part follows l ls ≡ follows a (l + n) (drop n ls)
unfolding section
section_back n part follows l ls a e = ap (λ r. and_then r (λ x. follows x (l + n) (drop n ls))) e

count_back : (low high line n : ℕ) (ls : List (List ℕ)) → Within low high n → n ≤ 1000000000 → count_at low high line (spaced (decimal n ∷ []) ∷ ls) ≡ Ok n
count_back low high line n ls w h = line_back (sole_number low high line 1) line (decimal n ∷ []) ls (omega arith) (decimal_clean n h, tt) ∙ sole_back low high line 1 n w h

items_section_back : (b : Base) (o : Option ℕ) (es : List Entry) (l : ℕ) → first_item o ≡ l + 2 → Within 1 64 (length es) → AllByRecursion (Item (field_count_of b)) es → OnLines (first_item o) es → Distinct (names_of es) →
    items_section b o l (map spaced (counted (map item_words es))) ≡ Ok (record { limits = record { base = b; count = o }; items = es })
items_section_back b o es l first size items lines names =
    let ls = map spaced (map item_words es) in
    let n = field_count_of b in
    let m = length (map item_words es) in
    let long : m ≡ length es = length-map es item_words in
    let next : l + 1 + 1 ≡ first_item o = omega arith in
    let read : items_at n (l + 1 + 1) m ls [] ≡ Ok es = ap (λ k. items_at n k m ls []) next ∙ ap (λ k. items_at n (first_item o) k ls []) long ∙ items_back n (first_item o) es [] items lines names in
    let done : drop m ls ≡ [] = drop_all m ls (omega (arith, length-map (map item_words es) spaced)) in
    section_back 1 (count_at 1 64) (item_lines b o) l (spaced (decimal m ∷ []) ∷ ls) m (count_back 1 64 (l + 1) m ls (omega arith, omega arith) (omega arith)) ∙ section_back m (λ l ls. items_at n l m ls []) (text_end b o) (l + 1) ls es read ∙ ap (λ x. text_end b o es (l + 1 + m) x) done ∙ section_back 0 end_at (λ _ l ls. Ok (record { limits = record { base = b; count = o }; items = es })) (l + 1 + m) [] tt refl

sections_back : (b : Base) (o : Option ℕ) (es : List Entry) → Valid (record { limits = record { base = b; count = o }; items = es }) → sections 0 (map spaced (lines_of (record { limits = record { base = b; count = o }; items = es }))) ≡ Ok (record { limits = record { base = b; count = o }; items = es })
sections_back b None es v =
    let rest = map spaced (counted (map item_words es)) in
    let base = base_good b v.limit in
    section_back 1 (count_at 1 2) limit_lines 0 (spaced (decimal 1 ∷ []) ∷ spaced (base_words b) ∷ rest) 1 (count_back 1 2 1 1 (spaced (base_words b) ∷ rest) (omega arith, omega arith) (omega arith)) ∙ section_back 1 base_at (second_line 1) 1 (spaced (base_words b) ∷ rest) b (line_back (base_of 2) 2 (base_words b) rest base.some base.clean ∙ base_back 2 b v.limit) ∙ section_back 0 (second_at 1) (items_section b) 2 rest None refl ∙ items_section_back b None es 2 refl v.size v.items v.lines v.names
sections_back b (Some n) es v =
    let rest = map spaced (counted (map item_words es)) in
    let base = base_good b v.limit in
    let most = count_limit_good n v.count_limit in
    let second = spaced (codes "N" ∷ decimal n ∷ []) in
    section_back 1 (count_at 1 2) limit_lines 0 (spaced (decimal 2 ∷ []) ∷ spaced (base_words b) ∷ second ∷ rest) 2 (count_back 1 2 1 2 (spaced (base_words b) ∷ second ∷ rest) (omega arith, omega arith) (omega arith)) ∙ section_back 1 base_at (second_line 2) 1 (spaced (base_words b) ∷ second ∷ rest) b (line_back (base_of 2) 2 (base_words b) (second ∷ rest) base.some base.clean ∙ base_back 2 b v.limit) ∙ section_back 1 (second_at 2) (items_section b) 2 (second ∷ rest) (Some n) (ap (λ r. and_then r (λ k. Ok (Some k))) (line_back (count_limit_of 3) 3 (codes "N" ∷ decimal n ∷ []) rest most.some most.clean ∙ count_limit_back 3 n v.count_limit)) ∙ items_section_back b (Some n) es 3 refl v.size v.items v.lines v.names

pub reads_written : ReadsWritten
unfolding reads written
reads_written s v =
    let good = lines_good s.limits.base s.limits.count s.items v.limit v.count_limit v.size.1 v.items in
    let few = lines_few s.limits.base s.limits.count s.items v.size.1 in
    let clean = All-weaker Good (AllByRecursion Clean) (λ ws g. g.clean) (lines_of s) good in
    ap (λ r. and_then r (λ _. sections 0 (lines (text_of (lines_of s))))) (text_formed _ _ good few) ∙ ap (sections 0) (lines_text (lines_of s) clean) ∙ sections_back s.limits.base s.limits.count s.items v
