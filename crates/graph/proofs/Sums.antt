-- A pattern, weighed item by item: it suffices to see that each copy still fits when it is added.
use Rattle.std.proofs.Common.{◌≡◌, ℕ, zero, suc, Bool, true, false, cond, ◌&&◌, leb, List, [], ◌∷◌, Some, None, Option, sym, refl, ap, ◌∙◌, subst}
use lib.Dec.{leb-zero, leb-suc-zero, leb-suc-suc}
use Rattle.std.proofs.lemmas.Bool.{false≢true, and_parts, and_right}
use Rattle.limits.specs.Meaning.{Meaning, Rules}
use Rattle.packing.specs.Packing.{Item, sound, times, total, within}
use Rattle.graph.proofs.Paths.{given}

module _ (k : Meaning) where
  -- n copies of w on top of a, at most b, each of which still fits
  abbrev pub adds : List ℕ → ℕ → ℕ → List ℕ → Option (List ℕ)
  adds w b zero a = Some a
  adds w zero (suc n) a = None
  adds w (suc b) (suc n) a = cond (k.fits (k.plus a w)) (adds w b n (k.plus a w)) None

  -- the counts, one item after another, on top of a
  abbrev pub completes : List Item → List ℕ → List ℕ → Bool
  completes [] a [] = true
  completes [] a (n ∷ counts) = false
  completes (x ∷ xs) a [] = false
  completes (x ∷ xs) a (n ∷ counts) = given (adds x.weight x.most n a) (λ t. completes xs t counts)

  -- the parts of a sound list of items
  pub sound_parts : (x : Item) (xs : List Item) → sound k (x ∷ xs) ≡ true → (k.amount x.weight ≡ true) × (k.fits x.weight ≡ true) × (sound k xs ≡ true)
  sound_parts x xs h =
      let outer = and_parts (k.amount x.weight && k.fits x.weight) (sound k xs) h in
      let inner = and_parts (k.amount x.weight) (k.fits x.weight) outer.0 in
      (inner.0, inner.1, outer.1)

  module _ (rules : Rules k) where
    pub plus_empty : (a : List ℕ) → k.amount a ≡ true → k.plus a k.empty ≡ a
    plus_empty a h = rules.comm a k.empty h rules.empty_amount ∙ rules.neutral a h

    pub times_amount : (w : List ℕ) (n : ℕ) → k.amount w ≡ true → k.amount (times k w n) ≡ true
    times_amount w zero h = rules.empty_amount
    times_amount w (suc n) h = rules.plus_amount w (times k w n) h (times_amount w n h)

    pub total_amount : (items : List Item) (counts : List ℕ) → sound k items ≡ true → k.amount (total k items counts) ≡ true
    total_amount [] counts h = rules.empty_amount
    total_amount (x ∷ xs) [] h = rules.empty_amount
    total_amount (x ∷ xs) (n ∷ counts) h =
        let parts = sound_parts x xs h in
        rules.plus_amount (times k x.weight n) (total k xs counts) (times_amount x.weight n parts.0) (total_amount xs counts parts.2)

    -- what does not fit does not fit with more on top
    pub still_full : (a b c : List ℕ) → k.amount a ≡ true → k.amount b ≡ true → k.amount c ≡ true → k.fits (k.plus a b) ≡ false → k.fits (k.plus a (k.plus b c)) ≡ false
    still_full a b c ha hb hc full = go (k.fits (k.plus a (k.plus b c))) refl
      where
        go : (t : Bool) → k.fits (k.plus a (k.plus b c)) ≡ t → k.fits (k.plus a (k.plus b c)) ≡ false
        go false e = e
        go true e =
            absurd (false≢true (sym full ∙ rules.part_fits (k.plus a b) c (rules.plus_amount a b ha hb) hc
            (subst (λ (s : List ℕ). k.fits s ≡ true) (sym (rules.assoc a b c ha hb hc)) e)))

    abbrev loaded : ℕ → ℕ → List ℕ → Option (List ℕ)
    loaded n b s = cond (leb n b && k.fits s) (Some s) None

    pub adds_is : (w : List ℕ) (b n : ℕ) (a : List ℕ) → k.amount w ≡ true → k.amount a ≡ true → k.fits a ≡ true
        → adds w b n a ≡ loaded n b (k.plus a (times k w n))
    adds_is w b zero a hw ha fa = rw (leb-zero b, plus_empty a ha, fa) refl
    adds_is w zero (suc n) a hw ha fa = rw (leb-suc-zero n) refl
    adds_is w (suc b) (suc n) a hw ha fa = go (k.fits (k.plus a w)) refl (adds_is w b n (k.plus a w) hw (rules.plus_amount a w ha hw))
      where
        go : (t : Bool) → k.fits (k.plus a w) ≡ t → (k.fits (k.plus a w) ≡ true → adds w b n (k.plus a w) ≡ loaded n b (k.plus (k.plus a w) (times k w n)))
            → cond (k.fits (k.plus a w)) (adds w b n (k.plus a w)) None ≡ loaded (suc n) (suc b) (k.plus a (k.plus w (times k w n)))
        go true e ih = rw (e, ih e, leb-suc-suc n b, rules.assoc a w (times k w n) ha hw (times_amount w n hw)) refl
        go false e ih =
            rw (e, still_full a w (times k w n) ha hw (times_amount w n hw) e, and_right (leb (suc n) (suc b)) false refl) refl

    pub completes_is : (items : List Item) (a counts : List ℕ) → sound k items ≡ true → k.amount a ≡ true → k.fits a ≡ true
        → completes items a counts ≡ (within items counts && k.fits (k.plus a (total k items counts)))
    completes_is [] a [] h ha fa = rw (plus_empty a ha, fa) refl
    completes_is [] a (n ∷ counts) h ha fa = refl
    completes_is (x ∷ xs) a [] h ha fa = refl
    completes_is (x ∷ xs) a (n ∷ counts) h ha fa =
        let w = x.weight in
        let parts = sound_parts x xs h in
        let ht = times_amount w n parts.0 in
        let s = k.plus a (times k w n) in
        ap (λ (o : Option (List ℕ)). given o (λ t. completes xs t counts)) (adds_is w x.most n a parts.0 ha fa)
        ∙ split x xs n counts a (leb n x.most) (k.fits s) refl
        (λ f. completes_is xs s counts parts.2 (rules.plus_amount a (times k w n) ha ht) f
        ∙ ap (λ (z : List ℕ). within xs counts && k.fits z) (rules.assoc a (times k w n) (total k xs counts) ha ht (total_amount xs counts parts.2)))
        (λ f. still_full a (times k w n) (total k xs counts) ha ht (total_amount xs counts parts.2) f)
      where
        split : (x : Item) (xs : List Item) (n : ℕ) (counts a : List ℕ) (l f : Bool) → k.fits (k.plus a (times k x.weight n)) ≡ f
            → (k.fits (k.plus a (times k x.weight n)) ≡ true → completes xs (k.plus a (times k x.weight n)) counts ≡ (within xs counts && k.fits (k.plus a (k.plus (times k x.weight n) (total k xs counts)))))
            → (k.fits (k.plus a (times k x.weight n)) ≡ false → k.fits (k.plus a (k.plus (times k x.weight n) (total k xs counts))) ≡ false)
            → given (cond (l && f) (Some (k.plus a (times k x.weight n))) None) (λ t. completes xs t counts)
            ≡ (l && within xs counts && k.fits (k.plus a (k.plus (times k x.weight n) (total k xs counts))))
        split x xs n counts a false f e yes' no' = refl
        split x xs n counts a true true e yes' no' = yes' e
        split x xs n counts a true false e yes' no' = rw (no' e, and_right (within xs counts) false refl) refl
