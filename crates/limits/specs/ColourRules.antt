-- The rules hold for sets of colours. A law of an impl cites them, so they stand in specs/.
use Rattle.std.specs.Prelude.{◌≡◌, ℕ, suc, ◌<◌, ◌≤◌, Bool, true, false, ◌≢◌, ◌⊎◌, List, [], ◌∷◌, length, IfSome, None, ◌==◌, nat_le, nat_lt, refl}
use Rattle.std.proofs.Common.{sym, ap, ◌∙◌, inl, inr, arith}
use Rattle.std.proofs.Math.Dec.{leb-zero}
use Rattle.std.proofs.lemmas.Bool.{and_parts, and_from, leb-true, le-leb, ltb-true, lt-ltb, le-ltb, eq-eqb, ne_eqb, cases_order, cond-true, cond-false}
use Rattle.std.specs.Bool.{then_some}
use Rattle.limits.specs.Meaning.{Rules}
use Rattle.limits.specs.Colours.{rising, insert, union, colour, colours_meaning}

-- where `insert` puts c, by the order of c and the first colour d
insert_before : (c d : ℕ) (ds : List ℕ) → c < d → insert c (d ∷ ds) ≡ c ∷ (d ∷ ds)
insert_before c d ds h = cond-true (nat_lt c d) _ _ (lt-ltb c d h)

insert_there : (c d : ℕ) (ds : List ℕ) → c ≡ d → insert c (d ∷ ds) ≡ d ∷ ds
insert_there c d ds e = cond-false (nat_lt c d) _ _ (le-ltb c d (omega arith)) ∙ cond-true (c == d) _ _ (eq-eqb c d e)

insert_after : (c d : ℕ) (ds : List ℕ) → d < c → insert c (d ∷ ds) ≡ d ∷ insert c ds
insert_after c d ds h = cond-false (nat_lt c d) _ _ (le-ltb c d (omega arith)) ∙ cond-false (c == d) _ _ (ne_eqb c d (λ e. omega arith))

swap_two : (c d : ℕ) → (c ≡ d) ⊎ ((c < d) ⊎ (d < c)) → insert c (d ∷ []) ≡ insert d (c ∷ [])
swap_two c d (inl e) = insert_there c d [] e ∙ ap (λ x. x ∷ []) (sym e) ∙ sym (insert_there d c [] (sym e))
swap_two c d (inr (inl h)) = insert_before c d [] h ∙ sym (insert_after d c [] h)
swap_two c d (inr (inr h)) = insert_after c d [] h ∙ sym (insert_before d c [] h)

-- two that come before e
swap_before : (c d e : ℕ) (s : List ℕ) → c < e → d < e → (c ≡ d) ⊎ ((c < d) ⊎ (d < c)) → insert c (d ∷ (e ∷ s)) ≡ insert d (c ∷ (e ∷ s))
swap_before c d e s p q (inl h) = insert_there c d (e ∷ s) h ∙ ap (λ x. x ∷ (e ∷ s)) (sym h) ∙ sym (insert_there d c (e ∷ s) (sym h))
swap_before c d e s p q (inr (inl h)) = insert_before c d (e ∷ s) h ∙ sym (insert_after d c (e ∷ s) h ∙ ap (λ x. c ∷ x) (insert_before d e s q))
swap_before c d e s p q (inr (inr h)) = insert_after c d (e ∷ s) h ∙ ap (λ x. d ∷ x) (insert_before c e s p) ∙ sym (insert_before d c (e ∷ s) h)

swap_at : (c d e : ℕ) (s : List ℕ) → insert c (insert d s) ≡ insert d (insert c s)
    → (c ≡ e) ⊎ ((c < e) ⊎ (e < c)) → (d ≡ e) ⊎ ((d < e) ⊎ (e < d)) → insert c (insert d (e ∷ s)) ≡ insert d (insert c (e ∷ s))
swap_at c d e s r (inl p) (inl q) = ap (insert c) (insert_there d e s q) ∙ insert_there c e s p ∙ sym (ap (insert d) (insert_there c e s p) ∙ insert_there d e s q)
swap_at c d e s r (inl p) (inr (inl q)) =
    ap (insert c) (insert_before d e s q) ∙ insert_after c d (e ∷ s) (omega arith) ∙ ap (λ x. d ∷ x) (insert_there c e s p)
    ∙ sym (ap (insert d) (insert_there c e s p) ∙ insert_before d e s q)
swap_at c d e s r (inl p) (inr (inr q)) =
    ap (insert c) (insert_after d e s q) ∙ insert_there c e (insert d s) p ∙ sym (ap (insert d) (insert_there c e s p) ∙ insert_after d e s q)
swap_at c d e s r (inr (inl p)) (inl q) =
    ap (insert c) (insert_there d e s q) ∙ insert_before c e s p
    ∙ sym (ap (insert d) (insert_before c e s p) ∙ insert_after d c (e ∷ s) (omega arith) ∙ ap (λ x. c ∷ x) (insert_there d e s q))
swap_at c d e s r (inr (inl p)) (inr (inl q)) =
    ap (insert c) (insert_before d e s q) ∙ swap_before c d e s p q (cases_order c d) ∙ sym (ap (insert d) (insert_before c e s p))
swap_at c d e s r (inr (inl p)) (inr (inr q)) =
    ap (insert c) (insert_after d e s q) ∙ insert_before c e (insert d s) p
    ∙ sym (ap (insert d) (insert_before c e s p) ∙ insert_after d c (e ∷ s) (omega arith) ∙ ap (λ x. c ∷ x) (insert_after d e s q))
swap_at c d e s r (inr (inr p)) (inl q) =
    ap (insert c) (insert_there d e s q) ∙ insert_after c e s p ∙ sym (ap (insert d) (insert_after c e s p) ∙ insert_there d e (insert c s) q)
swap_at c d e s r (inr (inr p)) (inr (inl q)) =
    ap (insert c) (insert_before d e s q) ∙ insert_after c d (e ∷ s) (omega arith) ∙ ap (λ x. d ∷ x) (insert_after c e s p)
    ∙ sym (ap (insert d) (insert_after c e s p) ∙ insert_before d e (insert c s) q)
swap_at c d e s r (inr (inr p)) (inr (inr q)) =
    ap (insert c) (insert_after d e s q) ∙ insert_after c e (insert d s) p ∙ ap (λ x. e ∷ x) r
    ∙ sym (ap (insert d) (insert_after c e s p) ∙ insert_after d e (insert c s) q)

pub insert_swap : (c d : ℕ) (s : List ℕ) → insert c (insert d s) ≡ insert d (insert c s)
insert_swap c d [] = swap_two c d (cases_order c d)
insert_swap c d (e ∷ s) = swap_at c d e s (insert_swap c d s) (cases_order c e) (cases_order d e)

twice_at : (c e : ℕ) (s : List ℕ) → insert c (insert c s) ≡ insert c s → (c ≡ e) ⊎ ((c < e) ⊎ (e < c)) → insert c (insert c (e ∷ s)) ≡ insert c (e ∷ s)
twice_at c e s r (inl p) = ap (insert c) (insert_there c e s p)
twice_at c e s r (inr (inl p)) = ap (insert c) (insert_before c e s p) ∙ insert_there c c (e ∷ s) refl ∙ sym (insert_before c e s p)
twice_at c e s r (inr (inr p)) =
    ap (insert c) (insert_after c e s p) ∙ insert_after c e (insert c s) p ∙ ap (λ x. e ∷ x) r ∙ sym (insert_after c e s p)

pub insert_twice : (c : ℕ) (s : List ℕ) → insert c (insert c s) ≡ insert c s
insert_twice c [] = insert_there c c [] refl
insert_twice c (e ∷ s) = twice_at c e s (insert_twice c s) (cases_order c e)

pub union_insert_right : (a : List ℕ) (c : ℕ) (b : List ℕ) → union a (insert c b) ≡ insert c (union a b)
union_insert_right [] c b = refl
union_insert_right (x ∷ a) c b = ap (insert x) (union_insert_right a c b) ∙ insert_swap x c (union a b)

left_at : (c y : ℕ) (s b : List ℕ) → union (insert c s) b ≡ insert c (union s b) → (c ≡ y) ⊎ ((c < y) ⊎ (y < c)) → union (insert c (y ∷ s)) b ≡ insert c (insert y (union s b))
left_at c y s b r (inl p) = ap (λ x. union x b) (insert_there c y s p) ∙ sym (insert_twice y (union s b)) ∙ ap (λ x. insert x (insert y (union s b))) (sym p)
left_at c y s b r (inr (inl p)) = ap (λ x. union x b) (insert_before c y s p)
left_at c y s b r (inr (inr p)) = ap (λ x. union x b) (insert_after c y s p) ∙ ap (insert y) r ∙ insert_swap y c (union s b)

pub union_insert_left : (c : ℕ) (s b : List ℕ) → union (insert c s) b ≡ insert c (union s b)
union_insert_left c [] b = refl
union_insert_left c (y ∷ s) b = left_at c y s b (union_insert_left c s b) (cases_order c y)

union_assoc : (a b c : List ℕ) → union (union a b) c ≡ union a (union b c)
union_assoc [] b c = refl
union_assoc (x ∷ a) b c = union_insert_left x (union a b) c ∙ ap (insert x) (union_assoc a b c)

-- what a set that begins with c says
pub first_low : (low c : ℕ) (cs : List ℕ) → rising low (c ∷ cs) ≡ true → low ≤ c
first_low low c cs h = leb-true low c (and_parts (nat_le low c) _ h).0

pub first_high : (low c : ℕ) (cs : List ℕ) → rising low (c ∷ cs) ≡ true → c < 64
first_high low c cs h = ltb-true c 64 (and_parts (nat_lt c 64) _ (and_parts (nat_le low c) _ h).1).0

pub rest_rising : (low c : ℕ) (cs : List ℕ) → rising low (c ∷ cs) ≡ true → rising (suc c) cs ≡ true
rest_rising low c cs h = (and_parts (nat_lt c 64) _ (and_parts (nat_le low c) _ h).1).1

pub rising_cons : (low c : ℕ) (cs : List ℕ) → low ≤ c → c < 64 → rising (suc c) cs ≡ true → rising low (c ∷ cs) ≡ true
rising_cons low c cs p q h = and_from _ _ (le-leb low c p) (and_from _ _ (lt-ltb c 64 q) h)

pub rising_lower : (low high : ℕ) (cs : List ℕ) → low ≤ high → rising high cs ≡ true → rising low cs ≡ true
rising_lower low high [] p h = refl
rising_lower low high (c ∷ cs) p h =
    let q = first_low high c cs h in
    rising_cons low c cs (omega arith) (first_high high c cs h) (rest_rising high c cs h)

-- a colour below a set goes before it
pub insert_first : (c : ℕ) (cs : List ℕ) → rising (suc c) cs ≡ true → insert c cs ≡ c ∷ cs
insert_first c [] h = refl
insert_first c (d ∷ cs) h = insert_before c d cs (first_low (suc c) d cs h)

rising_at : (low c d : ℕ) (ds : List ℕ) → low ≤ c → c < 64 → rising low (d ∷ ds) ≡ true → (d < c → rising (suc d) (insert c ds) ≡ true)
    → (c ≡ d) ⊎ ((c < d) ⊎ (d < c)) → rising low (insert c (d ∷ ds)) ≡ true
rising_at low c d ds p q h r (inl e) = rw (insert_there c d ds e) h
rising_at low c d ds p q h r (inr (inl b)) =
    rw (insert_before c d ds b) (rising_cons low c (d ∷ ds) p q (rising_cons (suc c) d ds b (first_high low d ds h) (rest_rising low d ds h)))
rising_at low c d ds p q h r (inr (inr b)) = rw (insert_after c d ds b) (rising_cons low d (insert c ds) (first_low low d ds h) (first_high low d ds h) (r b))

rising_insert : (low c : ℕ) (ds : List ℕ) → low ≤ c → c < 64 → rising low ds ≡ true → rising low (insert c ds) ≡ true
rising_insert low c [] p q h = rising_cons low c [] p q refl
rising_insert low c (d ∷ ds) p q h =
    rising_at low c d ds p q h (λ b. rising_insert (suc d) c ds b q (rest_rising low d ds h)) (cases_order c d)

rising_union : (low : ℕ) (a b : List ℕ) → rising low a ≡ true → rising low b ≡ true → rising low (union a b) ≡ true
rising_union low [] b p q = q
rising_union low (c ∷ a) b p q =
    let le = first_low low c a p in
    rising_insert low c (union a b) le (first_high low c a p) (rising_union low a b (rising_lower low (suc c) a (omega arith) (rest_rising low c a p)) q)

union_none : (low : ℕ) (a : List ℕ) → rising low a ≡ true → union a [] ≡ a
union_none low [] h = refl
union_none low (c ∷ a) h = ap (insert c) (union_none (suc c) a (rest_rising low c a h)) ∙ insert_first c a (rest_rising low c a h)

union_comm : (low : ℕ) (a b : List ℕ) → rising 0 a ≡ true → rising low b ≡ true → union a b ≡ union b a
union_comm low a [] p q = union_none 0 a p
union_comm low a (d ∷ b) p q =
    ap (union a) (sym (insert_first d b (rest_rising low d b q))) ∙ union_insert_right a d b ∙ ap (insert d) (union_comm (suc d) a b p (rest_rising low d b q))

longer_at : (c d : ℕ) (ds : List ℕ) → length ds ≤ length (insert c ds) → (c ≡ d) ⊎ ((c < d) ⊎ (d < c)) → length (d ∷ ds) ≤ length (insert c (d ∷ ds))
longer_at c d ds r (inl e) = rw (insert_there c d ds e) (omega arith)
longer_at c d ds r (inr (inl b)) = rw (insert_before c d ds b) (omega arith)
longer_at c d ds r (inr (inr b)) = rw (insert_after c d ds b) (omega arith)

insert_longer : (c : ℕ) (ds : List ℕ) → length ds ≤ length (insert c ds)
insert_longer c [] = omega arith
insert_longer c (d ∷ ds) = longer_at c d ds (insert_longer c ds) (cases_order c d)

union_longer : (a b : List ℕ) → length b ≤ length (union a b)
union_longer [] b = omega arith
union_longer (c ∷ a) b = let h = union_longer a b in let k = insert_longer c (union a b) in omega arith

colour_set : (c : ℕ) (t : Bool) → nat_lt c 64 ≡ t → IfSome (then_some t (c ∷ [])) (λ a. rising 0 a ≡ true)
colour_set c true e = rising_cons 0 c [] (omega arith) (ltb-true c 64 e) refl
colour_set c false e = tt

colour_amount : (f : List ℕ) → IfSome (colour f) (λ a. rising 0 a ≡ true)
colour_amount [] = tt
colour_amount (c ∷ []) = colour_set c _ refl
colour_amount (c ∷ (d ∷ f)) = tt

colour_arity : (f : List ℕ) → length f ≢ 1 → colour f ≡ None
colour_arity [] ne = refl
colour_arity (c ∷ []) ne = absurd (ne refl)
colour_arity (c ∷ (d ∷ f)) ne = refl

pub colours_rules : (most : ℕ) → Rules (colours_meaning most)
colours_rules most = record {
  empty_amount = refl;
  plus_amount = rising_union 0;
  assoc = λ a b c _ _ _. union_assoc a b c;
  comm = union_comm 0;
  neutral = λ a _. refl;
  empty_fits = leb-zero most;
  part_fits = λ a b p q h.
      let few = leb-true (length (union a b)) most h in
      let long : length a ≤ length (union a b) = rw (union_comm 0 a b p q) (union_longer b a) in
      le-leb (length a) most (omega arith);
  weight_amount = colour_amount;
  weight_arity = colour_arity;
  arity_low = omega arith;
  arity_high = omega arith;
}
