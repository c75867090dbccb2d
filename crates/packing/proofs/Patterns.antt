-- The list of all patterns has each pattern once, and nothing else.
use Rattle.std.proofs.Common.{◌≡◌, ℕ, zero, suc, ◌+◌, ◌<◌, Bool, true, false, cond, ◌&&◌, eqb, leb, ◌⊎◌, List, [], ◌∷◌, ◌++◌, map, filter, sym, refl, ap, ◌∙◌, inl, inr, arith}
use Rattle.std.proofs.lemmas.Bool.{cases_order, le-leb, lt-leb, eq-eqb, ne_eqb}
use Rattle.packing.specs.Distinct.{occurrences, same_list}
use Rattle.packing.specs.Packing.{Item, total, within, headed, all_counts}
use Rattle.packing.specs.Laws.{ListsPatterns}
use Rattle.packing.proofs.Distinct.{decides_same_list}

abbrev often : List ℕ → List (List ℕ) → ℕ
often x xs = occurrences same_list x xs

none : (b : Bool) → ◌≡◌ {A = ℕ} 0 (cond b 0 0)
none true = refl
none false = refl

often_append : (x : List ℕ) (xs ys : List (List ℕ)) → often x (xs ++ ys) ≡ often x xs + often x ys
often_append x [] ys = omega arith
often_append x (y ∷ xs) ys = go (same_list x y) (often_append x xs ys)
  where
    go : (b : Bool) → often x (xs ++ ys) ≡ often x xs + often x ys
        → cond b (suc (often x (xs ++ ys))) (often x (xs ++ ys)) ≡ cond b (suc (often x xs)) (often x xs) + often x ys
    go true ih = omega arith
    go false ih = ih

often_kept : (test : List ℕ → Bool) (x : List ℕ) (xs : List (List ℕ)) → often x (filter test xs) ≡ cond (test x) (often x xs) 0
often_kept test x [] = none (test x)
often_kept test x (y ∷ ys) = go (same_list x y) refl (test y) refl (often_kept test x ys)
  where
    go : (e : Bool) → same_list x y ≡ e → (u : Bool) → test y ≡ u → often x (filter test ys) ≡ cond (test x) (often x ys) 0
        → often x (cond (test y) (y ∷ filter test ys) (filter test ys)) ≡ cond (test x) (cond (same_list x y) (suc (often x ys)) (often x ys)) 0
    go true e true u ih = let t : test x ≡ true = ap test ((decides_same_list x y).0 e) ∙ u in rw (u, e, t) (ap suc (rw t at ih))
    go true e false u ih = let t : test x ≡ false = ap test ((decides_same_list x y).0 e) ∙ u in rw (u, e, t) (rw t at ih)
    go false e true u ih = rw (u, e) ih
    go false e false u ih = rw (u, e) ih

often_nil : (n : ℕ) (lists : List (List ℕ)) → often [] (map (λ l. n ∷ l) lists) ≡ 0
often_nil n [] = refl
often_nil n (l ∷ ls) = often_nil n ls

often_cons : (c : ℕ) (counts : List ℕ) (n : ℕ) (lists : List (List ℕ)) → often (c ∷ counts) (map (λ l. n ∷ l) lists) ≡ cond (eqb c n) (often counts lists) 0
often_cons c counts n [] = none (eqb c n)
often_cons c counts n (l ∷ ls) = go (eqb c n) (same_list counts l) (often_cons c counts n ls)
  where
    go : (e u : Bool) → often (c ∷ counts) (map (λ l. n ∷ l) ls) ≡ cond e (often counts ls) 0
        → cond (e && u) (suc (often (c ∷ counts) (map (λ l. n ∷ l) ls))) (often (c ∷ counts) (map (λ l. n ∷ l) ls)) ≡ cond e (cond u (suc (often counts ls)) (often counts ls)) 0
    go true true ih = ap suc ih
    go true false ih = ih
    go false u ih = ih

headed_nil : (n : ℕ) (lists : List (List ℕ)) → often [] (headed n lists) ≡ 0
headed_nil zero lists = often_nil 0 lists
headed_nil (suc n) lists = often_append [] (headed n lists) (map (λ l. suc n ∷ l) lists) ∙ omega (arith, headed_nil n lists, often_nil (suc n) lists)

headed_cons : (c : ℕ) (counts : List ℕ) (n : ℕ) (lists : List (List ℕ)) → often (c ∷ counts) (headed n lists) ≡ cond (leb c n) (often counts lists) 0
headed_cons c counts zero lists = often_cons c counts 0 lists ∙ ap (λ (b : Bool). cond b (often counts lists) 0) (same_test c)
  where
    same_test : (c : ℕ) → eqb c 0 ≡ leb c 0
    same_test zero = refl
    same_test (suc c) = ne_eqb (suc c) 0 (omega arith) ∙ sym (lt-leb (suc c) 0 (omega arith))
headed_cons c counts (suc n) lists =
    often_append (c ∷ counts) (headed n lists) (map (λ l. suc n ∷ l) lists)
    ∙ rw (headed_cons c counts n lists, often_cons c counts (suc n) lists) (split (cases_order c (suc n)))
  where
    split : (c ≡ suc n) ⊎ ((c < suc n) ⊎ (suc n < c))
        → cond (leb c n) (often counts lists) 0 + cond (eqb c (suc n)) (often counts lists) 0 ≡ cond (leb c (suc n)) (often counts lists) 0
    split (inl e) = rw (lt-leb c n (omega arith), eq-eqb c (suc n) e, le-leb c (suc n) (omega arith)) (omega arith)
    split (inr (inl lt)) = rw (le-leb c n (omega arith), ne_eqb c (suc n) (omega arith), le-leb c (suc n) (omega arith)) (omega arith)
    split (inr (inr gt)) = rw (lt-leb c n (omega arith), ne_eqb c (suc n) (omega arith), lt-leb c (suc n) (omega arith)) (omega arith)

often_all : (items : List Item) (counts : List ℕ) → often counts (all_counts items) ≡ cond (within items counts) 1 0
often_all [] [] = refl
often_all [] (c ∷ counts) = refl
often_all (x ∷ xs) [] = headed_nil x.most (all_counts xs)
often_all (x ∷ xs) (c ∷ counts) = headed_cons c counts x.most (all_counts xs) ∙ go (leb c x.most) (often_all xs counts)
  where
    go : (b : Bool) → often counts (all_counts xs) ≡ cond (within xs counts) 1 0 → cond b (often counts (all_counts xs)) 0 ≡ cond (b && within xs counts) 1 0
    go true ih = ih
    go false ih = refl

pub lists_patterns : ListsPatterns
lists_patterns k items counts =
    often_kept (λ l. k.fits (total k items l)) counts (all_counts items)
    ∙ rw (often_all items counts) (both (k.fits (total k items counts)) (within items counts))
  where
    both : (f w : Bool) → ◌≡◌ {A = ℕ} (cond f (cond w 1 0) 0) (cond (w && f) 1 0)
    both true true = refl
    both true false = refl
    both false true = refl
    both false false = refl
