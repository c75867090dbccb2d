-- What a text spells is valid.
use Rattle.std.proofs.Common.{◌≡◌, ℕ, zero, suc, ◌+◌, ◌-◌, Bool, true, false, cond, ◌&&◌, eqb, leb, List, [], ◌∷◌, ◌++◌, length, drop, Some, None, Ok, Err, Option, sym, refl, ap, ◌∙◌, subst, arith, length-append}
use Rattle.std.specs.List.{AllByRecursion}
use Rattle.std.specs.Str.{bytes_eq}
use Rattle.std.proofs.ByRecursion.{All-push}
use Rattle.std.proofs.lemmas.Slice.Eq.{bytes_eq-Decides}
use Rattle.std.proofs.lemmas.List.{map_push}
use Rattle.std.proofs.lemmas.Bool.{and_parts, leb-true, leb-false, eqb-false, not-true, or_parts, both_ways, cond_both}
use Rattle.refusal.specs.declared.Refusal.{Refusal}
use Rattle.refusal.specs.declared.Refusal.TheVariants.{UnknownLetter}
use Rattle.texts.specs.declared.instance.Base.{Base}
use Rattle.texts.specs.declared.instance.Base.TheVariants.{Length, Vector, Colours}
use Rattle.std.specs.List.{onto_first}
use Rattle.texts.specs.Split.{lines, words}
use Rattle.texts.specs.declared.fields.Field.{Field}
use Rattle.texts.specs.declared.fields.Field.TheVariants.{Word, Number, Letter}
use Rattle.texts.specs.Words.{form}
use Rattle.texts.specs.Grammar.{Read, Entry, Spelled, and_then, shape, number_in, number_at, numbers_at, sole_number, four_numbers, prints_of, printable, line_at, end_at, count_at, first_letter, base_by, base_of, base_at, count_limit_by, count_limit_of, count_limit_at, second_at, known, good_name, name_at, field_count_of, item_of, item_at, items_at, names_of, section, text_end, item_lines, items_section, second_line, limit_lines, sections, formed, reads}
use Rattle.texts.specs.Valid.{Within, Name, Item, Limit, CountLimit, Distinct, OnLines, first_item, Valid, ReadsValid}

-- a part of a text that was read, and what follows it
pub taken : {A B : Type 0} (r : Read A) (f : A → Read B) (b : B) → and_then r f ≡ Ok b → (a : A) × (r ≡ Ok a) × (f a ≡ Ok b)
taken (Ok a) f b h = (a, refl, h)
taken (Err e) f b h = absurd (cc)

pub section_taken : {A B : Type 0} (n : ℕ) (part : ℕ → List (List ℕ) → Read A) (follows : A → ℕ → List (List ℕ) → Read B) (l : ℕ) (ls : List (List ℕ)) (b : B) → section n part follows l ls ≡ Ok b → (a : A) × (part (l + 1) ls ≡ Ok a) × (follows a (l + n) (drop n ls) ≡ Ok b)
unfolding section
section_taken n part follows l ls b h = taken (part (l + 1) ls) (λ a. follows a (l + n) (drop n ls)) b h

-- a test that was passed
passed : {A : Type 0} (t : Bool) (a : A) (e : Refusal) (b : A) → cond t (Ok a) (Err e) ≡ Ok b → (t ≡ true) × (a ≡ b)
passed true a e b h = (refl, cc)
passed false a e b h = absurd (cc)

number_within : (low high line k : ℕ) (f : Field) (n : ℕ) → number_in low high line k f ≡ Ok n → Within low high n
number_within low high line k Word n h = absurd (cc)
number_within low high line k (Letter c) n h = absurd (cc)
number_within low high line k (Number m) n h =
    let p = passed (leb low m && leb m high) m _ n h in
    let q = and_parts _ _ p.0 in
    subst (Within low high) p.1 (leb-true low m q.0, leb-true m high q.1)

pub number_at_within : (low high line k : ℕ) (ws : List (List ℕ)) (n : ℕ) → number_at low high line k ws ≡ Ok n → Within low high n
number_at_within low high line k [] n h = absurd (cc)
number_at_within low high line k (w ∷ ws) n h = number_within low high line k (form w) n h

pub sole_within : (low high line k : ℕ) (ws : List (List ℕ)) (n : ℕ) → sole_number low high line k ws ≡ Ok n → Within low high n
sole_within low high line k ws n h =
    let t = taken (shape line 1 ws) (λ _. number_at low high line k ws) n h in
    number_at_within low high line k ws n t.2

pub numbers_within : (line k n : ℕ) (ws : List (List ℕ)) (xs ys : List ℕ) → numbers_at line k n ws xs ≡ Ok ys → AllByRecursion (Within 0 1000000000) xs → (length ys ≡ length xs + n) × AllByRecursion (Within 0 1000000000) ys
unfolding numbers_at
numbers_within line k zero ws xs ys h a = let e : xs ≡ ys = cc in (omega (arith, ap length e), subst (AllByRecursion (Within 0 1000000000)) e a)
numbers_within line k (suc n) ws xs ys h a =
    let t = taken (number_at 0 1000000000 line k ws) (λ x. numbers_at line (k + 1) n (drop 1 ws) (xs ++ x ∷ [])) ys h in
    let on = numbers_within line (k + 1) n (drop 1 ws) (xs ++ t.0 ∷ []) ys t.2 (All-push (Within 0 1000000000) xs t.0 a (number_at_within 0 1000000000 line k ws t.0 t.1)) in
    (omega (arith, on.0, length-append xs (t.0 ∷ [])), on.1)

-- Names

all_onto : (b : ℕ) (ws : List (List ℕ)) → Within 33 126 b → AllByRecursion (AllByRecursion (Within 33 126)) ws → AllByRecursion (AllByRecursion (Within 33 126)) (onto_first b ws)
all_onto b [] p a = ((p, tt), tt)
all_onto b (w ∷ ws) p a = ((p, a.0), a.1)

words_printable : (x : List ℕ) → printable x ≡ true → AllByRecursion (AllByRecursion (Within 33 126)) (words x)
unfolding words
words_printable [] h = (tt, tt)
words_printable (b ∷ bs) h =
    let p = and_parts (prints_of b) (printable bs) h in
    let q = and_parts (leb 32 b) (leb b 126) p.0 in
    let on = words_printable bs p.1 in
    cond_both (eqb b 32) ([] ∷ words bs) (onto_first b (words bs)) (AllByRecursion (AllByRecursion (Within 33 126))) (λ e. (tt, on)) (λ e.
    let low = leb-true 32 b q.0 in
    let high = leb-true b 126 q.1 in
    let other = eqb-false b 32 e in
    all_onto b (words bs) (omega arith, high) on)

line_printable : (line : ℕ) (ls : List (List ℕ)) (x : List ℕ) → line_at line ls ≡ Ok x → printable x ≡ true
line_printable line [] x h = absurd (cc)
line_printable line (y ∷ ys) x h =
    let p = passed (printable y) y _ x h in
    ap printable (sym p.1) ∙ p.0

name_valid : (line k : ℕ) (names ws : List (List ℕ)) (w : List ℕ) → name_at line k names ws ≡ Ok w → AllByRecursion (AllByRecursion (Within 33 126)) ws → Name w × (known w names ≡ false)
name_valid line k names [] w h a = absurd (cc)
name_valid line k names (v ∷ ws) w h a =
    let p = passed (good_name names v) v _ w h in
    let q = and_parts _ _ p.0 in
    let r = and_parts _ _ q.0 in
    let t = and_parts _ _ r.0 in
    subst (λ x. Name x × (known x names ≡ false)) p.1 (record { size = (leb-true 1 (length v) t.0, leb-true (length v) 16 t.1); bytes = a.0; first = not-true _ r.1 }, not-true _ q.1)

unknown : (w : List ℕ) (names : List (List ℕ)) → known w names ≡ false → AllByRecursion (λ v. v ≡ w → ⊥) names
unknown w [] h = tt
unknown w (v ∷ names) h =
    let p = or_parts (bytes_eq v w) (known w names) h in
    (λ e. both_ways (bytes_eq v w) p.0 ((bytes_eq-Decides v w).1 e), unknown w names p.1)

distinct_push : (ws : List (List ℕ)) (w : List ℕ) → Distinct ws → AllByRecursion (λ v. v ≡ w → ⊥) ws → Distinct (ws ++ w ∷ [])
distinct_push [] w d a = (tt, tt)
distinct_push (v ∷ ws) w d a = (All-push (λ u. u ≡ v → ⊥) ws w d.0 (λ e. a.0 (sym e)), distinct_push ws w d.1 a.1)

-- Items

item_of_valid : (n line : ℕ) (names ws : List (List ℕ)) (e : Entry) → item_of n line names ws ≡ Ok e → AllByRecursion (AllByRecursion (Within 33 126)) ws → Item n e × (known e.name names ≡ false) × (e.line ≡ line)
item_of_valid n line names ws e h a =
    let t₁ = taken (shape line (n + 2) ws) _ e h in
    let t₂ = taken (name_at line 1 names ws) _ e t₁.2 in
    let t₃ = taken (numbers_at line 2 n (drop 1 ws) []) _ e t₂.2 in
    let t₄ = taken (number_at 1 4095 line (n + 2) (drop n (drop 1 ws))) _ e t₃.2 in
    let made : Entry = record { name = t₂.0; line = line; fields = t₃.0; demand = t₄.0 } in
    let is : made ≡ e = cc t₄.2 in
    let name = name_valid line 1 names ws t₂.0 t₂.1 a in
    let values = numbers_within line 2 n (drop 1 ws) [] t₃.0 t₃.1 tt in
    subst (λ x. Item n x × (known x.name names ≡ false) × (x.line ≡ line)) is
    (record { name = name.0; count = omega (arith, values.0); values = values.1; demand = number_at_within 1 4095 line (n + 2) (drop n (drop 1 ws)) t₄.0 t₄.1 }, name.1, refl)

item_valid : (n line : ℕ) (names ls : List (List ℕ)) (e : Entry) → item_at n line names ls ≡ Ok e → Item n e × (known e.name names ≡ false) × (e.line ≡ line)
item_valid n line names ls e h =
    let t = taken (line_at line ls) (λ x. item_of n line names (words x)) e h in
    item_of_valid n line names (words t.0) e t.2 (words_printable t.0 (line_printable line ls t.0 t.1))

on_lines_push : (from : ℕ) (es : List Entry) (e : Entry) → OnLines from es → e.line ≡ from + length es → OnLines from (es ++ e ∷ [])
on_lines_push from [] e o h = (omega (arith, h), tt)
on_lines_push from (d ∷ es) e o h = (o.0, on_lines_push (from + 1) es e o.1 (omega (arith, h)))

-- the items that are read so far, from a line on
record So (n from : ℕ) (es : List Entry) : Type 0 where
  items : AllByRecursion (Item n) es
  names : Distinct (names_of es)
  lines : OnLines from es

items_valid : (n from k : ℕ) (ls : List (List ℕ)) (es all : List Entry) → So n from es → items_at n (from + length es) k ls es ≡ Ok all → So n from all × (length all ≡ length es + k)
unfolding items_at
items_valid n from zero ls es all so h = let e : es ≡ all = cc in (subst (So n from) e so, omega (arith, ap length e))
items_valid n from (suc k) ls es all so h =
    let line = from + length es in
    let t = taken (item_at n line (names_of es) ls) (λ e. items_at n (line + 1) k (drop 1 ls) (es ++ e ∷ [])) all h in
    let e = t.0 in
    let new = item_valid n line (names_of es) ls e t.1 in
    let more : So n from (es ++ e ∷ []) = record {
      items = All-push (Item n) es e so.items new.0;
      names = subst Distinct (sym (map_push (λ x. x.name) es e)) (distinct_push (names_of es) e.name so.names (unknown e.name (names_of es) new.1));
      lines = on_lines_push from es e so.lines new.2;
    } in
    let long = length-append es (e ∷ []) in
    let next : from + length (es ++ e ∷ []) ≡ line + 1 = omega (arith, long) in
    let on = items_valid n from k (drop 1 ls) (es ++ e ∷ []) all more (ap (λ l. items_at n l k (drop 1 ls) (es ++ e ∷ [])) next ∙ t.2) in
    (on.0, omega (arith, on.1, long))

-- Limits

base_by_valid : (line c : ℕ) (ws : List (List ℕ)) (b : Base) (t₁ t₂ t₃ : Bool) →
    cond t₁ (and_then (sole_number 1 1000000000 line 2 ws) (λ w. Ok (Length w)))
    (cond t₂ (and_then (four_numbers line 2 ws) (λ xs. Ok (Vector xs)))
    (cond t₃ (and_then (sole_number 0 64 line 2 ws) (λ k. Ok (Colours k)))
    (Err (UnknownLetter line 1)))) ≡ Ok b → Limit b
base_by_valid line c ws b true t₂ t₃ h =
    let t = taken (sole_number 1 1000000000 line 2 ws) (λ w. Ok (Length w)) b h in
    let e : Length t.0 ≡ b = cc t.2 in
    subst Limit e (sole_within 1 1000000000 line 2 ws t.0 t.1)
base_by_valid line c ws b false true t₃ h =
    let t = taken (four_numbers line 2 ws) (λ xs. Ok (Vector xs)) b h in
    let u = taken (shape line 4 ws) (λ _. numbers_at line 2 4 ws []) t.0 t.1 in
    let e : Vector t.0 ≡ b = cc t.2 in
    subst Limit e (numbers_within line 2 4 ws [] t.0 u.2 tt)
base_by_valid line c ws b false false true h =
    let t = taken (sole_number 0 64 line 2 ws) (λ k. Ok (Colours k)) b h in
    let e : Colours t.0 ≡ b = cc t.2 in
    subst Limit e (sole_within 0 64 line 2 ws t.0 t.1)
base_by_valid line c ws b false false false h = absurd (cc)

letter_valid : (line : ℕ) (o : Option ℕ) (ws : List (List ℕ)) (b : Base) → base_by line o ws ≡ Ok b → Limit b
letter_valid line None ws b h = absurd (cc)
letter_valid line (Some c) ws b h = base_by_valid line c ws b (eqb c 76) (eqb c 86) (eqb c 67) h

base_valid : (line : ℕ) (ls : List (List ℕ)) (b : Base) → base_at line ls ≡ Ok b → Limit b
base_valid line ls b h =
    let t = taken (line_at line ls) (λ x. base_of line (words x)) b h in
    letter_valid line (first_letter (words t.0)) (drop 1 (words t.0)) b t.2

count_limit_by_valid : (line : ℕ) (o : Option ℕ) (ws : List (List ℕ)) (n : ℕ) → count_limit_by line o ws ≡ Ok n → Within 1 100000 n
count_limit_by_valid line None ws n h = absurd (cc)
count_limit_by_valid line (Some c) ws n h =
    cond_both (eqb c 78) (sole_number 1 100000 line 2 ws) (Err (UnknownLetter line 1)) (λ r. r ≡ Ok n → Within 1 100000 n) (λ _ g. sole_within 1 100000 line 2 ws n g) (λ _ g. absurd (cc)) h

count_limit_valid : (line : ℕ) (ls : List (List ℕ)) (n : ℕ) → count_limit_at line ls ≡ Ok n → Within 1 100000 n
count_limit_valid line ls n h =
    let t = taken (line_at line ls) (λ x. count_limit_of line (words x)) n h in
    count_limit_by_valid line (first_letter (words t.0)) (drop 1 (words t.0)) n t.2

second_valid : (k line : ℕ) (ls : List (List ℕ)) (o : Option ℕ) → Within 1 2 k → second_at k line ls ≡ Ok o → CountLimit o × (first_item o ≡ k + 3)
second_valid k line ls o w h =
    cond_both (leb 2 k) (and_then (count_limit_at line ls) (λ n. Ok (Some n))) (Ok None) (λ r. r ≡ Ok o → CountLimit o × (first_item o ≡ k + 3))
    (λ e g.
    let t = taken (count_limit_at line ls) (λ n. Ok (Some n)) o g in
    let same : Some t.0 ≡ o = cc t.2 in
    let two = leb-true 2 k e in
    subst (λ p. CountLimit p × (first_item p ≡ k + 3)) same (count_limit_valid line ls t.0 t.1, omega arith))
    (λ e g.
    let same : None ≡ o = cc g in
    let one = leb-false 2 k e in
    subst (λ p. CountLimit p × (first_item p ≡ k + 3)) same (tt, omega arith))
    h

count_valid : (low high line : ℕ) (ls : List (List ℕ)) (n : ℕ) → count_at low high line ls ≡ Ok n → Within low high n
count_valid low high line ls n h =
    let t = taken (line_at line ls) (λ x. sole_number low high line 1 (words x)) n h in
    sole_within low high line 1 (words t.0) n t.2

-- The whole text, section by section

items_part : (base : Base) (o : Option ℕ) (l : ℕ) (ls : List (List ℕ)) (s : Spelled) → Limit base → CountLimit o → first_item o ≡ l + 2 → items_section base o l ls ≡ Ok s → Valid s
items_part base o l ls s limit count_limit first h =
    let n = field_count_of base in
    let m = section_taken 1 (count_at 1 64) (item_lines base o) l ls s h in
    let k = m.0 in
    let e = section_taken k (λ l ls. items_at n l k ls []) (text_end base o) (l + 1) (drop 1 ls) s m.2 in
    let f = section_taken 0 end_at (λ _ l ls. Ok (record { limits = record { base = base; count = o }; items = e.0 })) (l + 1 + k) (drop k (drop 1 ls)) s e.2 in
    let same : ◌≡◌ {A = Spelled} (record { limits = record { base = base; count = o }; items = e.0 }) s = cc f.2 in
    let from : first_item o + length {A = Entry} [] ≡ l + 1 + 1 = omega (arith, first) in
    let items = items_valid n (first_item o) k (drop 1 ls) [] e.0 (record { items = tt; names = tt; lines = tt }) (ap (λ i. items_at n i k (drop 1 ls) []) from ∙ e.1) in
    let size = count_valid 1 64 (l + 1) ls k m.1 in
    subst Valid same (record { limit = limit; count_limit = count_limit; size = (omega (arith, items.1), omega (arith, items.1)); items = items.0.items; names = items.0.names; lines = items.0.lines })

second_part : (k : ℕ) (base : Base) (l : ℕ) (ls : List (List ℕ)) (s : Spelled) → Within 1 2 k → Limit base → l ≡ 2 → second_line k base l ls ≡ Ok s → Valid s
second_part k base l ls s limits limit two h =
    let t = section_taken (k - 1) (second_at k) (items_section base) l ls s h in
    let second = second_valid k (l + 1) ls t.0 limits t.1 in
    items_part base t.0 (l + (k - 1)) (drop (k - 1) ls) s limit second.0 (omega (arith, second.1)) t.2

pub reads_valid : ReadsValid
unfolding reads
reads_valid text s h =
    let ls = lines text in
    let t = taken (formed text) (λ _. sections 0 ls) s h in
    let a = section_taken 1 (count_at 1 2) limit_lines 0 ls s t.2 in
    let b = section_taken 1 base_at (second_line a.0) (0 + 1) (drop 1 ls) s a.2 in
    second_part a.0 b.0 (0 + 1 + 1) (drop 1 (drop 1 ls)) s (count_valid 1 2 (0 + 1) ls a.0 a.1) (base_valid (0 + 1 + 1) (drop 1 ls) b.0 b.1) refl b.2
