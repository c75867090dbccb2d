-- Entries one after another, the arcs of which they tell, and the rows that they make up.
use Rattle.std.proofs.Common.{◌≡◌, ℕ, Option, zero, suc, ◌+◌, ◌-◌, ◌<◌, ◌≤◌, Bool, true, false, cond, List, [], ◌∷◌, ◌++◌, map, length, sym, refl, ap, ◌∙◌, subst, ap₂, append_assoc, add-zero, add-one, arith, length-append}
use Rattle.std.specs.List.{filter, range_with_len}
use Rattle.std.specs.declared.iter.Filter.{Filter}
use Rattle.std.specs.declared.ops.Range.{Range}
use Rattle.std.specs.Fn.{CalledAt}
use Rattle.std.specs.Iterator.{Drains}
use Rattle.std.specs.Iterator.Adapters.{filter_callee, filter_source, filter_steps}
use Rattle.std.proofs.iter.Yields.{nat_range_steps}
use Rattle.std.proofs.lemmas.Iterator.{YieldsList, YieldsList-from_range, items_from_drains}
use Rattle.std.proofs.lemmas.Iterator.Consumers.{YieldsList-from_filter}
use Rattle.std.proofs.lemmas.List.{append-nil, map-id}
use denote.Param.Members.{Mut}
use denote.Ref.{Bor}
use Rattle.flow.specs.Arcs.{numbers}
use Rattle.flow.specs.Model.{Variable.X, Term.Plus, Term.Minus, plus, minus}
use Rattle.flow.specs.Text.{break, entries, listed, term}
use Rattle.lp.specs.declared.arcs.Lead.TheVariants.{Listed, Added, TakenOff}
use Rattle.lp.specs.Sinks.{TakesInTurn}
use Rattle.lp.specs.Writing.{arc_entry}

-- What a sink took at each step, taken together, and written otherwise.
module _ {S : Type 0} {took : S → List ℕ → S → Type 0} (turn : TakesInTurn took) where
  pub joins : {s t u : S} {xs ys : List ℕ} → took s xs t → took t ys u → took s (xs ++ ys) u
  joins {s} {t} {u} {xs} {ys} h k = turn.joins s t u xs ys h k

  pub joins_to : {s t u : S} {xs ys zs : List ℕ} → xs ++ ys ≡ zs → took s xs t → took t ys u → took s zs u
  joins_to {s} {u = u} e h k = subst (λ bytes. took s bytes u) e (joins h k)

-- the same bytes, written otherwise
pub same_bytes : {S : Type 0} (took : S → List ℕ → S → Type 0) {s t : S} {xs ys : List ℕ} → xs ≡ ys → took s xs t → took s ys t
same_bytes took {s} {t} e h = subst (λ bytes. took s bytes t) e h

module _ {A : Type 0} (shown : ℕ → A → List ℕ) where
  pub entries_append : (k : ℕ) (xs ys : List A) → entries shown k (xs ++ ys) ≡ entries shown k xs ++ entries shown (k + length xs) ys
  entries_append k [] ys = ap (λ n. entries shown n ys) (sym (add-zero k))
  entries_append k (x ∷ xs) ys =
      ap (λ e. break k ++ (shown k x ++ e)) (entries_append (suc k) xs ys ∙ ap (λ n. entries shown (suc k) xs ++ entries shown n ys) next)
      ∙ ap (λ e. break k ++ e) (sym (append_assoc (shown k x) (entries shown (suc k) xs) (entries shown (k + suc (length xs)) ys)))
      ∙ sym (append_assoc (break k) (shown k x ++ entries shown (suc k) xs) (entries shown (k + suc (length xs)) ys))
    where
      next : suc k + length xs ≡ k + suc (length xs)
      next = omega arith

  pub entries_map : {B : Type 0} (f : B → A) (k : ℕ) (xs : List B) → entries shown k (map f xs) ≡ entries (λ n x. shown n (f x)) k xs
  entries_map f k [] = refl
  entries_map f k (x ∷ xs) = ap (λ e. break k ++ (shown k (f x) ++ e)) (entries_map f (suc k) xs)

  -- one entry more
  pub entries_more : (k n : ℕ) (xs : List A) (x : A) → n ≡ k + length xs → entries shown k xs ++ (break n ++ shown n x) ≡ entries shown k (xs ++ x ∷ [])
  entries_more k n xs x e =
      ap (λ m. entries shown k xs ++ (break m ++ shown m x)) e
      ∙ ap (λ ys. entries shown k xs ++ (break (k + length xs) ++ ys)) (sym (append-nil (shown (k + length xs) x)))
      ∙ sym (entries_append k xs (x ∷ []))

-- The terms of a row, and the variables of a list.
pub plus_entries : (k : ℕ) (arcs : List ℕ) → entries (arc_entry Added) k arcs ≡ entries term k (plus arcs)
plus_entries k arcs = sym (entries_map term (λ a. Plus (X a)) k arcs)

pub minus_entries : (k : ℕ) (arcs : List ℕ) → entries (arc_entry TakenOff) k arcs ≡ entries term k (minus arcs)
minus_entries k arcs = sym (entries_map term (λ a. Minus (X a)) k arcs)

pub listed_entries : (k : ℕ) (arcs : List ℕ) → entries (arc_entry Listed) k arcs ≡ entries listed k (map X arcs)
listed_entries k arcs = sym (entries_map listed X k arcs)

-- The numbers that pass a test.
pub length_numbers : (p : ℕ → Bool) (n : ℕ) → length (numbers p n) ≤ n
length_numbers p zero = omega arith
length_numbers p (suc n) = simp length-append (omega (arith, length_numbers p n, only_one (p n)))
  where
    only_one : (b : Bool) → length (cond b (n ∷ []) []) ≤ 1
    only_one true = omega arith
    only_one false = omega arith

-- more numbers, one by one
pub numbers_on : (p : ℕ → Bool) (n k : ℕ) → numbers p (n + k) ≡ numbers p n ++ filter p (range_with_len n k)
numbers_on p n zero = rw add-zero (sym (append-nil (numbers p n)))
numbers_on p n (suc k) = ap (numbers p) next ∙ numbers_on p (suc n) k ∙ go (p n) ∙ ap (λ m. numbers p n ++ cond (p n) (n ∷ filter p (range_with_len m k)) (filter p (range_with_len m k))) (sym (add-one n))
  where
    next : n + suc k ≡ suc n + k
    next = omega arith

    go : (b : Bool) → (numbers p n ++ cond b (n ∷ []) []) ++ filter p (range_with_len (suc n) k) ≡ numbers p n ++ cond b (n ∷ filter p (range_with_len (suc n) k)) (filter p (range_with_len (suc n) k))
    go true = append_assoc (numbers p n) (n ∷ []) (filter p (range_with_len (suc n) k))
    go false = ap (λ xs. xs ++ filter p (range_with_len (suc n) k)) (append-nil (numbers p n))

filter_none : (p : ℕ → Bool) (n k : ℕ) → ((a : ℕ) → n ≤ a → a < n + k → p a ≡ false) → filter p (range_with_len n k) ≡ []
filter_none p n zero h = refl
filter_none p n (suc k) h =
    ap (λ b. cond b (n ∷ filter p (range_with_len (n + 1) k)) (filter p (range_with_len (n + 1) k))) (h n (omega arith) (omega arith))
    ∙ filter_none p (n + 1) k (λ a le lt. h a (omega arith) (omega arith))

-- two tests that agree
pub filter_alike : (p q : ℕ → Bool) (n k : ℕ) → ((a : ℕ) → n ≤ a → a < n + k → p a ≡ q a) → filter p (range_with_len n k) ≡ filter q (range_with_len n k)
filter_alike p q n zero h = refl
filter_alike p q n (suc k) h =
    ap₂ (λ b xs. cond b (n ∷ xs) xs) (h n (omega arith) (omega arith)) (filter_alike p q (n + 1) k (λ a le lt. h a (omega arith) (omega arith)))

-- more numbers, of which none passes
pub numbers_skip : (p : ℕ → Bool) (n k : ℕ) → ((a : ℕ) → n ≤ a → a < n + k → p a ≡ false) → numbers p (n + k) ≡ numbers p n
numbers_skip p n k h = numbers_on p n k ∙ ap (λ xs. numbers p n ++ xs) (filter_none p n k h) ∙ append-nil (numbers p n)

-- what an iterator gives until it ends
pub drained : {S : Type 0} {steps : S → Option ℕ → S → Type 0} {s : S} {ys : List ℕ} (xs : List ℕ) → Drains steps s xs → YieldsList steps (λ x. x) s ys → xs ≡ ys
drained xs d e = sym (map-id xs) ∙ items_from_drains xs (d.1.0, d.1.1, λ _. (d.0, d.1.2)) e

-- what comes of the numbers of a range that pass a test
pub drained_range : {F : Type 0} {g : Mut F (Bor ℕ × Unit {0}) Bool} {f : F} {s : Filter (Range ℕ) F} (test : ℕ → Bool) (a b : ℕ) (xs : List ℕ) → Drains (filter_steps nat_range_steps g) s xs →
    filter_source s ≡ record { start = a; end = b } → filter_callee s ≡ f → ((x : ℕ) (r : Bool) (q : F) → CalledAt g f x r q → (q ≡ f) × (r ≡ test x)) → xs ≡ filter test (range_with_len a (b - a))
drained_range {g = g} test a b xs d source callee calls = drained xs d (YieldsList-from_filter g test (YieldsList-from_range a b (b - a) source refl) callee calls)

-- those below n
pub numbers_all : (p : ℕ → Bool) (n : ℕ) → filter p (range_with_len 0 (n - 0)) ≡ numbers p n
numbers_all p n = ap (λ m. filter p (range_with_len 0 m)) same ∙ sym (numbers_on p 0 n) ∙ ap (numbers p) none_before
  where
    same : n - 0 ≡ n
    same = omega arith

    none_before : 0 + n ≡ n
    none_before = omega arith
