-- Looking for an amount, and adding it.
use Rattle.std.proofs.Common.{◌≡◌, ℕ, suc, ◌+◌, ◌-◌, ◌≤◌, Bool, true, false, cond, ◌||◌, Some, None, List, [], ◌∷◌, ◌++◌, map, length, take, drop, MatchOption, Decides, Option, sym, refl, ap, ◌∙◌, arith, length-drop, take-append-drop}
use lib.ListN.{length-map}
use Rattle.std.specs.List.{position, position_from}
use Rattle.std.specs.Option.{option_map}
use Rattle.std.proofs.lemmas.List.{append_assoc, map-append, drop-map, take_all}
use Rattle.std.proofs.lemmas.Iterator.Adapters.{position_from-zero}
use Rattle.std.proofs.lemmas.Bool.{false≢true}
use Rattle.lists.specs.Entries.{entries}
use Rattle.graph.specs.declared.Row.{Row}
use Rattle.packing.specs.Distinct.{has, index, same_list}
use Rattle.packing.proofs.Distinct.{index_lt, index_new, same_self, decides_same_list}
use Rattle.compile.specs.declared.draft.Draft.{Draft}
use Rattle.compile.specs.Drafts.{Added, amounts}
use Rattle.compile.specs.Nodes.{Found, Noted, Reached}

-- a test that decides whether two amounts are equal gives what their comparison gives
pub told : (b : Bool) (x y : List ℕ) → Decides b (x ≡ y) → b ≡ same_list x y
told true x y d = sym ((decides_same_list x y).1 (d.0 refl))
told false x y d = go (same_list x y) refl
  where
    go : (c : Bool) → same_list x y ≡ c → false ≡ same_list x y
    go true e = absurd (false≢true (d.1 ((decides_same_list x y).0 e)))
    go false e = sym e

-- what lies past the first `from` elements
pub rest_is : {T : Type 0} (from : ℕ) (l xs : List T) → l ≡ xs → take (length l - from) (drop from l) ≡ drop from xs
rest_is from l xs e = rw e (take_all (length xs - from) (drop from xs) (omega (arith, length-drop from xs)))

-- the first place of an amount
module _ {L : Type 0} (f : L → List ℕ) (x : List ℕ) where
  abbrev pub First : ℕ → List L → Option ℕ → Type 0
  First i ys o = MatchOption o (has same_list x (map f ys) ≡ false) (λ n. (has same_list x (map f ys) ≡ true) × (n ≡ i + index same_list x (map f ys)))

  first_from : (i : ℕ) (ys : List L) → First i ys (position_from (λ y. same_list x (f y)) i ys)
  first_from i [] = refl
  first_from i (y ∷ ys) = go (same_list x (f y)) (position_from (λ y. same_list x (f y)) (i + 1) ys) (first_from (i + 1) ys)
    where
      go : (b : Bool) (o : Option ℕ) → First (i + 1) ys o
          → MatchOption (cond b (Some i) o) ((b || has same_list x (map f ys)) ≡ false)
          (λ n. ((b || has same_list x (map f ys)) ≡ true) × (n ≡ i + cond b 0 (suc (index same_list x (map f ys)))))
      go true o h = (refl, omega arith)
      go false None h = h
      go false (Some n) h = (h.0, omega (arith, h.1))

  pub found_at : (from : ℕ) (xs ys : List L) (o : Option ℕ) → ys ≡ drop from xs → o ≡ position (λ y. same_list x (f y)) ys
      → Found x from (map f xs) (option_map (λ i. from + i) o)
  found_at from xs ys o cut e = go o (rw (e ∙ position_from-zero (λ y. same_list x (f y)) ys) (first_from 0 ys))
    where
      go : (o : Option ℕ) → First 0 ys o → Found x from (map f xs) (option_map (λ i. from + i) o)
      go None h = rw (drop-map, ← cut) h
      go (Some i) h = rw (drop-map, ← cut) (h.0, omega (arith, h.1))

module _ (rs : List Row) (xs : List (List ℕ)) (from : ℕ) (x : List ℕ) (q : Row) where
  noted_found : (n : ℕ) → has same_list x (drop from xs) ≡ true → n ≡ from + index same_list x (drop from xs) → Noted rs rs xs xs from x q n
  noted_found n h e = record {
    amounts = rw h (sym (take-append-drop from xs));
    rows = rw h refl;
    place = rw h e;
  }

  noted_pushed : (qs : List Row) (ys : List (List ℕ)) (n : ℕ) → from ≤ length xs → has same_list x (drop from xs) ≡ false
      → qs ≡ rs ++ q ∷ [] → ys ≡ xs ++ x ∷ [] → n ≡ length xs → Noted rs qs xs ys from x q n
  noted_pushed qs ys n le h e f at =
      let seen = drop from xs in
      let last : index same_list x (seen ++ x ∷ []) ≡ length seen =
      index_new same_list x seen (x ∷ []) h ∙ ap (λ (b : Bool). length seen + cond b 0 1) (same_self same_list decides_same_list x) ∙ omega arith in
      let whole : xs ++ x ∷ [] ≡ take from xs ++ (seen ++ x ∷ []) =
      ap (λ (l : List (List ℕ)). l ++ x ∷ []) (sym (take-append-drop from xs)) ∙ append_assoc (take from xs) seen (x ∷ []) in
      record {
        amounts = rw h (f ∙ whole);
        rows = rw h e;
        place = rw h (omega (arith, at, last, length-drop from xs, le));
      }

-- the node with a load of amount f x: it is found, or new
module _ {L : Type 0} (f : L → List ℕ) (b : Draft L) (from n : ℕ) (x : L) (q : Row) where
  pub reached_found : (c : Draft L) (m : ℕ) → c ≡ b → m ≡ n → Found (f x) from (amounts f b) (Some n) → Reached f from (f x) q b c (Some m)
  reached_found c m e is found = rw (e, is) (noted_found (entries b.rows) (amounts f b) from (f x) q n found.0 found.1)

  pub reached_new : (c d : Draft L) (m : ℕ) → c ≡ d → m ≡ n → from ≤ length (entries b.loads) → Found (f x) from (amounts f b) None → Added b d q x n
      → Reached f from (f x) q b c (Some m)
  reached_new c d m e is le lacks made =
      let long = length-map (entries b.loads) f in
      rw (e, is) (noted_pushed (entries b.rows) (amounts f b) from (f x) q (entries d.rows) (amounts f d) n (omega (arith, long)) lacks made.rows
      (ap (map f) made.loads ∙ map-append f (entries b.loads) (x ∷ [])) (omega (arith, long, made.place)))

  -- its number is small
  pub found_below : Found (f x) from (amounts f b) (Some n) → n ≤ 65535
  found_below found =
      omega (arith, b.few, found.1, index_lt same_list (f x) (drop from (amounts f b)) found.0, length-drop from (amounts f b), length-map (entries b.loads) f)
