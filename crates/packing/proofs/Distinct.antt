-- Laws of lists without repetition.
use Rattle.std.proofs.Common.{◌≡◌, ℕ, zero, suc, ◌+◌, ◌<◌, ◌≤◌, Bool, true, false, cond, ◌||◌, eqb, ◌⊎◌, List, [], ◌∷◌, ◌++◌, map, length, get_or, Decides, sym, refl, ap, ◌∙◌, subst, inl, inr, le_of_suc-le-suc, not-suc-le-zero, arith, length-append}
use Rattle.std.proofs.lemmas.List.{append_assoc, append-nil, get_or_append_left, get_or_push}
use Rattle.std.proofs.lemmas.Bool.{false≢true, or_left, or_right, and_parts, cases_lt}
use Rattle.std.proofs.lemmas.Bool.Decides.{Decides-eqb}
use Rattle.packing.specs.Distinct.{has, index, noted, noted_all, distinct, same_list}

pub or_assoc : (x y z : Bool) → (x || y || z) ≡ (x || (y || z))
or_assoc true y z = refl
or_assoc false y z = refl

pub or_false : (x : Bool) → (x || false) ≡ x
or_false true = refl
or_false false = refl

-- a list of numbers equals itself, and one that tests equal is equal
same_list_from : (xs ys : List ℕ) → same_list xs ys ≡ true → xs ≡ ys
same_list_from [] [] h = refl
same_list_from [] (y ∷ ys) h = absurd (false≢true h)
same_list_from (x ∷ xs) [] h = absurd (false≢true h)
same_list_from (x ∷ xs) (y ∷ ys) h =
    let parts = and_parts (eqb x y) (same_list xs ys) h in
    let heads = (Decides-eqb x y).0 parts.0 in
    let tails = same_list_from xs ys parts.1 in
    λ i. heads i ∷ tails i

same_list_self : (xs : List ℕ) → same_list xs xs ≡ true
same_list_self [] = refl
same_list_self (x ∷ xs) = rw ((Decides-eqb x x).1 refl) (same_list_self xs)

pub decides_same_list : (xs ys : List ℕ) → Decides (same_list xs ys) (xs ≡ ys)
decides_same_list xs ys = (same_list_from xs ys, λ e. subst (λ (l : List ℕ). same_list xs l ≡ true) e (same_list_self xs))

module _ {X : Type 0} (same : X → X → Bool) where
  pub has_append : (x : X) (xs ys : List X) → has same x (xs ++ ys) ≡ (has same x xs || has same x ys)
  has_append x [] ys = refl
  has_append x (y ∷ xs) ys = rw (has_append x xs ys) (sym (or_assoc (same x y) (has same x xs) (has same x ys)))

  pub index_lt : (x : X) (xs : List X) → has same x xs ≡ true → index same x xs < length xs
  index_lt x [] h = absurd (false≢true h)
  index_lt x (y ∷ ys) h = go (index_lt x ys) (same x y) refl
    where
      go : (has same x ys ≡ true → index same x ys < length ys) → (b : Bool) → same x y ≡ b → cond (same x y) 0 (suc (index same x ys)) < suc (length ys)
      go more true e = rw e (omega arith)
      go more false e = let ih = more (rw e at h) in rw e (omega arith)

  -- the place of an element stays when the list grows
  pub index_append : (x : X) (xs ys : List X) → has same x xs ≡ true → index same x (xs ++ ys) ≡ index same x xs
  index_append x [] ys h = absurd (false≢true h)
  index_append x (y ∷ xs) ys h = go (index_append x xs ys) (same x y) refl
    where
      go : (has same x xs ≡ true → index same x (xs ++ ys) ≡ index same x xs) → (b : Bool) → same x y ≡ b → cond (same x y) 0 (suc (index same x (xs ++ ys))) ≡ cond (same x y) 0 (suc (index same x xs))
      go more true e = rw e refl
      go more false e = rw e (ap suc (more (rw e at h)))

  -- a new element stands at the end
  pub index_new : (x : X) (xs ys : List X) → has same x xs ≡ false → index same x (xs ++ ys) ≡ length xs + index same x ys
  index_new x [] ys h = omega arith
  index_new x (y ∷ xs) ys h = go (index_new x xs ys) (same x y) refl
    where
      go : (has same x xs ≡ false → index same x (xs ++ ys) ≡ length xs + index same x ys) → (b : Bool) → same x y ≡ b → cond (same x y) 0 (suc (index same x (xs ++ ys))) ≡ suc (length xs) + index same x ys
      go more true e = absurd (false≢true (sym (rw e at h)))
      go more false e = let ih = more (rw e at h) in rw e (omega arith)

  pub has_noted : (x : X) (seen : List X) (y : X) → ((x y : X) → Decides (same x y) (x ≡ y)) → has same x (noted same seen y) ≡ (has same x seen || same x y)
  has_noted x seen y decides = go (has same y seen) refl
    where
      both : (b c : Bool) → has same x seen ≡ b → same x y ≡ c → has same y seen ≡ true → has same x seen ≡ (has same x seen || same x y)
      both true c e f h = rw e refl
      both false false e f h = rw (e, f) refl
      both false true e f h = absurd (false≢true (sym e ∙ subst (λ (z : X). has same z seen ≡ true) (sym ((decides x y).0 f)) h))

      go : (b : Bool) → has same y seen ≡ b → has same x (cond (has same y seen) seen (seen ++ y ∷ [])) ≡ (has same x seen || same x y)
      go true e = rw e (both (has same x seen) (same x y) refl refl e)
      go false e = rw e (has_append x seen (y ∷ []) ∙ ap (λ (b : Bool). has same x seen || b) (or_false (same x y)))

  -- the fold goes on where it stopped
  pub noted_all_append : (seen xs ys : List X) → noted_all same seen (xs ++ ys) ≡ noted_all same (noted_all same seen xs) ys
  noted_all_append seen [] ys = refl
  noted_all_append seen (x ∷ xs) ys = noted_all_append (noted same seen x) xs ys

  pub distinct_push : (xs : List X) (x : X) → distinct same (xs ++ x ∷ []) ≡ noted same (distinct same xs) x
  distinct_push xs x = noted_all_append [] xs (x ∷ [])

  -- what was seen stays in front
  pub noted_all_keeps : (seen xs : List X) → (more : List X) × (noted_all same seen xs ≡ seen ++ more)
  noted_all_keeps seen [] = ([], sym (append-nil seen))
  noted_all_keeps seen (x ∷ xs) = go (has same x seen) refl (noted_all_keeps (noted same seen x) xs)
    where
      go : (b : Bool) → has same x seen ≡ b → (more : List X) × (noted_all same (noted same seen x) xs ≡ noted same seen x ++ more) → (more : List X) × (noted_all same (noted same seen x) xs ≡ seen ++ more)
      go true e (more, h) = (more, h ∙ ap (λ (b : Bool). cond b seen (seen ++ x ∷ []) ++ more) e)
      go false e (more, h) = (x ∷ more, h ∙ ap (λ (b : Bool). cond b seen (seen ++ x ∷ []) ++ more) e ∙ append_assoc seen (x ∷ []) more)

  pub length_noted_all : (seen xs : List X) → length seen ≤ length (noted_all same seen xs)
  length_noted_all seen xs =
      let kept = noted_all_keeps seen xs in
      omega (arith, ap length kept.1 ∙ length-append seen kept.0)

  module _ (decides : (x y : X) → Decides (same x y) (x ≡ y)) where
    pub same_self : (x : X) → same x x ≡ true
    same_self x = (decides x x).1 refl

    pub get_or_index : (x : X) (xs : List X) (d : X) → has same x xs ≡ true → get_or xs (index same x xs) d ≡ x
    get_or_index x [] d h = absurd (false≢true h)
    get_or_index x (y ∷ ys) d h = go (get_or_index x ys d) (same x y) refl
      where
        go : (has same x ys ≡ true → get_or ys (index same x ys) d ≡ x) → (b : Bool) → same x y ≡ b → get_or (y ∷ ys) (cond (same x y) 0 (suc (index same x ys))) d ≡ x
        go more true e = rw e (sym ((decides x y).0 e))
        go more false e = rw e (more (rw e at h))

    pub has_noted_all : (x : X) (seen xs : List X) → has same x (noted_all same seen xs) ≡ (has same x seen || has same x xs)
    has_noted_all x seen [] = sym (or_false (has same x seen))
    has_noted_all x seen (y ∷ xs) =
        has_noted_all x (noted same seen y) xs ∙ ap (λ (b : Bool). b || has same x xs) (has_noted x seen y decides)
        ∙ or_assoc (has same x seen) (same x y) (has same x xs)

    pub has_distinct : (x : X) (xs : List X) → has same x (distinct same xs) ≡ has same x xs
    has_distinct x xs = has_noted_all x [] xs

    pub has_map : {Y : Type 0} (test : Y → Y → Bool) → ((x y : Y) → Decides (test x y) (x ≡ y)) → (f : X → Y) (x : X) (xs : List X) → has same x xs ≡ true → has test (f x) (map f xs) ≡ true
    has_map test tells f x [] h = absurd (false≢true h)
    has_map test tells f x (y ∷ ys) h = go (has_map test tells f x ys) (same x y) refl
      where
        go : (has same x ys ≡ true → has test (f x) (map f ys) ≡ true) → (b : Bool) → same x y ≡ b → (test (f x) (f y) || has test (f x) (map f ys)) ≡ true
        go more true e = or_left (test (f x) (f y)) (has test (f x) (map f ys)) ((tells (f x) (f y)).1 (ap f ((decides x y).0 e)))
        go more false e = or_right (test (f x) (f y)) (has test (f x) (map f ys)) (more (rw e at h))

    pub has_get_or : (xs : List X) (j : ℕ) (d : X) → j < length xs → has same (get_or xs j d) xs ≡ true
    has_get_or [] j d lt = absurd (omega arith)
    has_get_or (y ∷ ys) zero d lt = or_left (same y y) (has same y ys) (same_self y)
    has_get_or (y ∷ ys) (suc j) d lt = or_right (same (get_or ys j d) y) (has same (get_or ys j d) ys) (has_get_or ys j d (omega arith))

    -- an element's first place is no later than any other
    pub index_le : (x : X) (xs : List X) (j : ℕ) (d : X) → j < length xs → get_or xs j d ≡ x → index same x xs ≤ j
    index_le x [] j d lt e = absurd (omega arith)
    index_le x (y ∷ ys) zero d lt e = rw ((decides x y).1 (sym e)) (omega arith)
    index_le x (y ∷ ys) (suc j) d lt e = go (same x y) (index_le x ys j d (omega arith) e)
      where
        go : (b : Bool) → index same x ys ≤ j → cond b 0 (suc (index same x ys)) ≤ suc j
        go true ih = omega arith
        go false ih = omega arith

    -- what stands at no place is not there
    pub has_none : (x : X) (xs : List X) (d : X) → ((j : ℕ) → j < length xs → get_or xs j d ≡ x → ⊥) → has same x xs ≡ false
    has_none x [] d never = refl
    has_none x (y ∷ ys) d never = go (has_none x ys d (λ j lt. never (suc j) (omega arith))) (same x y) refl
      where
        go : has same x ys ≡ false → (b : Bool) → same x y ≡ b → (same x y || has same x ys) ≡ false
        go more true e = absurd (never 0 (omega arith) (sym ((decides x y).0 e)))
        go more false e = rw e more

    -- the place of each element is where it stands
    abbrev Once : List X → Type 0
    Once xs = (j : ℕ) (d : X) → j < length xs → index same (get_or xs j d) xs ≡ j

    once_noted : (seen : List X) (x : X) → Once seen → Once (noted same seen x)
    once_noted seen x once = go (has same x seen) refl
      where
        pushed : has same x seen ≡ false → (j : ℕ) (d : X) → (j < length seen) ⊎ (length seen ≡ j) → index same (get_or (seen ++ x ∷ []) j d) (seen ++ x ∷ []) ≡ j
        pushed e j d (inl lt) =
            rw (get_or_append_left seen (x ∷ []) d j lt) (index_append (get_or seen j d) seen (x ∷ []) (has_get_or seen j d lt) ∙ once j d lt)
        pushed e j d (inr at) =
            rw (get_or_push seen x d j at) (index_new x seen (x ∷ []) e ∙ rw (same_self x) (omega arith))

        go : (b : Bool) → has same x seen ≡ b → Once (cond (has same x seen) seen (seen ++ x ∷ []))
        go true e = rw e once
        go false e = rw e (λ j d lt. pushed e j d (cases j (omega (arith, lt, length-append seen (x ∷ [])))))
          where
            cases : (j : ℕ) → j ≤ length seen → (j < length seen) ⊎ (length seen ≡ j)
            cases j le = elim (cases_lt j (length seen)) [ inl a ↦ inl a | inr b ↦ inr (omega arith) ]

    once_noted_all : (seen xs : List X) → Once seen → Once (noted_all same seen xs)
    once_noted_all seen [] once = once
    once_noted_all seen (x ∷ xs) once = once_noted_all (noted same seen x) xs (once_noted seen x once)

    pub index_get_or : (xs : List X) (j : ℕ) (d : X) → j < length (distinct same xs) → index same (get_or (distinct same xs) j d) (distinct same xs) ≡ j
    index_get_or xs = once_noted_all [] xs (λ j d lt. absurd (omega arith))

    -- what is seen stands before what comes later
    seen_first : (x y : X) (seen xs : List X) → has same x seen ≡ true → has same y seen ≡ false → index same x (noted_all same seen xs) < index same y (noted_all same seen xs)
    seen_first x y seen xs hx hy =
        let kept = noted_all_keeps seen xs in
        rw kept.1 (rw (index_append x seen kept.0 hx, index_new y seen kept.0 hy) (omega (arith, index_lt x seen hx)))

    -- an element that first appears earlier stands earlier
    noted_order : (x y : X) (seen xs : List X) → has same x seen ≡ false → has same y seen ≡ false → index same x xs < index same y xs
        → index same x (noted_all same seen xs) < index same y (noted_all same seen xs)
    noted_order x y seen [] hx hy lt = absurd (omega arith)
    noted_order x y seen (z ∷ xs) hx hy lt = go (same x z) refl (same y z) refl (noted_order x y (noted same seen z) xs)
      where
        seen_z : (q : X) (b : Bool) → has same q seen ≡ false → same q z ≡ b → has same q (noted same seen z) ≡ b
        seen_z q b h e = has_noted q seen z decides ∙ rw (h, e) refl

        go : (b : Bool) → same x z ≡ b → (c : Bool) → same y z ≡ c
            → (has same x (noted same seen z) ≡ false → has same y (noted same seen z) ≡ false → index same x xs < index same y xs
            → index same x (noted_all same (noted same seen z) xs) < index same y (noted_all same (noted same seen z) xs))
            → index same x (noted_all same (noted same seen z) xs) < index same y (noted_all same (noted same seen z) xs)
        go b e true f more = absurd (not-suc-le-zero (rw f at lt))
        go true e false f more = seen_first x y (noted same seen z) xs (seen_z x true hx e) (seen_z y false hy f)
        go false e false f more = more (seen_z x false hx e) (seen_z y false hy f) (le_of_suc-le-suc (rw (e, f) at lt))

    pub distinct_order : (x y : X) (xs : List X) → index same x xs < index same y xs → index same x (distinct same xs) < index same y (distinct same xs)
    distinct_order x y xs lt = noted_order x y [] xs refl refl lt
