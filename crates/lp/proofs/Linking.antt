-- The arcs into a node, linked and followed.
use Rattle.std.proofs.Common.{append_assoc, ◌≡◌, ◌≢◌, ℕ, suc, ◌+◌, ◌-◌, ◌*◌, ◌/◌, ◌<◌, ◌≤◌, Bool, true, false, cond, ◌⊎◌, List, [], ◌∷◌, ◌++◌, length, get_or, set, Some, None, Option, sym, refl, ap, ◌∙◌, subst, inl, inr, arith, length-set, get_or-set_other, get_or-set_same}
use Rattle.std.specs.List.{filter, range_with_len}
use Rattle.std.proofs.lemmas.List.{append_cancel_left}
use Rattle.std.proofs.lemmas.Bool.{cases_eq, eq-eqb, ne_eqb}
use Rattle.graph.specs.declared.Row.{Row}
use Rattle.graph.specs.Graph.{Layered, at, head, takes}
use Rattle.flow.specs.Arcs.{arcs_into, is, numbers}
use Rattle.lp.specs.Links.{NextInto, Linked}
use Rattle.lp.proofs.Entries.{numbers_on, numbers_skip}

-- in a layered graph every arc leads to a node
pub layered_inside : {m : ℕ} {g : List Row} → Layered m g → (a v : ℕ) → head g a ≡ Some v → v < length g
layered_inside {g = g} h a v e = go (takes a) e
  where
    go : (b : Bool) → cond b (at g (a / 2)).take (at g (a / 2)).pass ≡ Some v → v < length g
    go true t = (h.takes (a / 2) v t).0
    go false p = (h.passes (a / 2) v p).0

-- the arcs from a on are linked
pub record LinkedFrom (g : List Row) (first next : List ℕ) (a : ℕ) : Type 0 where
  pub low : a ≤ 2 * length g
  pub nodes : length first ≡ length g
  pub arcs : length next ≡ 2 * length g
  pub first_into : (v : ℕ) → v < length g → NextInto g v a (get_or first v 0)
  pub next_into : (c v : ℕ) → a ≤ c → head g c ≡ Some v → NextInto g v (suc c) (get_or next c 0)

pub one_down : {g : List Row} {first next : List ℕ} {n : ℕ} → 0 < n → LinkedFrom g first next n → LinkedFrom g first next (suc (n - 1))
one_down {g} {first} {next} {n} some h = let same : n ≡ suc (n - 1) = omega arith in subst (LinkedFrom g first next) same h

pub all_linked : {g : List Row} {first next : List ℕ} {a : ℕ} → a ≤ 0 → LinkedFrom g first next a → Linked g first next
all_linked {g} {first} {a = a} low h = record {
  nodes = h.nodes;
  arcs = h.arcs;
  first_into = λ v l. subst (λ n. NextInto g v n (get_or first v 0)) zeroth (h.first_into v l);
  next_into = λ c v e. h.next_into c v (omega arith) e;
}
  where
    zeroth : a ≡ 0
    zeroth = omega arith

module _ {g : List Row} {v a b : ℕ} (h : NextInto g v (suc a) b) where
  -- arc a leads elsewhere
  earlier : head g a ≢ Some v → NextInto g v a b
  earlier ne = record { from = omega (arith, h.from); within = h.within; skipped = λ c le lt. go c le lt (cases_eq c a); into = h.into }
    where
      go : (c : ℕ) → a ≤ c → c < b → (c ≡ a) ⊎ (c ≡ a → ⊥) → head g c ≢ Some v
      go c le lt (inl e) = subst (λ x. head g x ≢ Some v) (sym e) ne
      go c le lt (inr other) = h.skipped c (omega arith) lt

module _ {g : List Row} {first next : List ℕ} {a : ℕ} (h : LinkedFrom g first next (suc a)) where
  later : (c : ℕ) → a ≤ c → (c ≡ a → ⊥) → suc a ≤ c
  later c le ne = omega arith

  pub link_none : head g a ≡ None → LinkedFrom g first next a
  link_none gone = record {
    low = omega (arith, h.low);
    nodes = h.nodes;
    arcs = h.arcs;
    first_into = λ v l. earlier (h.first_into v l) (λ e. none_some (sym gone ∙ e));
    next_into = λ c v le e. h.next_into c v (later c le (λ same. none_some (sym gone ∙ ap (head g) (sym same) ∙ e))) e;
  }
    where
      none_some : {v : ℕ} → None ≡ Some v → ⊥
      none_some e = cc

  pub link_some : (v : ℕ) → head g a ≡ Some v → v < length g → LinkedFrom g (set first v a) (set next a (get_or first v 0)) a
  link_some v here inside = record {
    low = omega (arith, h.low);
    nodes = length-set first v a ∙ h.nodes;
    arcs = length-set next a (get_or first v 0) ∙ h.arcs;
    first_into = λ w l. into_node w l (cases_eq w v);
    next_into = λ c w le e. after c w le e (cases_eq c a);
  }
    where
      same : {w x : ℕ} → Some w ≡ Some x → w ≡ x
      same e = cc

      into_node : (w : ℕ) → w < length g → (w ≡ v) ⊎ (w ≡ v → ⊥) → NextInto g w a (get_or (set first v a) w 0)
      into_node w l (inl e) =
          subst (λ x. NextInto g x a (get_or (set first v a) x 0)) (sym e)
          (rw (get_or-set_same first v a 0 (omega (arith, h.nodes)))
          (record { from = omega arith; within = omega (arith, h.low); skipped = λ c le lt. absurd (omega arith); into = λ _. here }))
      into_node w l (inr ne) = rw (get_or-set_other first v w a 0 ne) (earlier (h.first_into w l) (λ e. ne (sym (same (sym here ∙ e)))))

      after : (c w : ℕ) → a ≤ c → head g c ≡ Some w → (c ≡ a) ⊎ (c ≡ a → ⊥) → NextInto g w (suc c) (get_or (set next a (get_or first v 0)) c 0)
      after c w le e (inl at_a) =
          subst (λ x. NextInto g w (suc x) (get_or (set next a (get_or first v 0)) x 0)) (sym at_a)
          (rw (get_or-set_same next a (get_or first v 0) 0 (omega (arith, h.low, h.arcs)))
          (subst (λ x. NextInto g x (suc a) (get_or first v 0)) (same (sym here ∙ ap (head g) (sym at_a) ∙ e)) (h.first_into v inside)))
      after c w le e (inr ne) = rw (get_or-set_other next a c (get_or first v 0) 0 ne) (h.next_into c w (later c le ne) e)

-- The arcs into node v, followed up to arc a.
module _ (g : List Row) (v : ℕ) where
  -- whether an arc leads to node v
  abbrev pub into : ℕ → Bool
  into a = is (head g a) v

  elsewhere : (o : Option ℕ) → o ≢ Some v → is o v ≡ false
  elsewhere None ne = refl
  elsewhere (Some w) ne = ne_eqb w v (λ e. ne (ap (λ x. Some x) e))

  -- the arcs that are skipped lead elsewhere
  pub skip : {a b : ℕ} → NextInto g v a b → numbers into b ≡ numbers into a
  skip {a} {b} h = ap (numbers into) apart ∙ numbers_skip into a (b - a) (λ c le lt. elsewhere (head g c) (h.skipped c le (omega arith)))
    where
      apart : b ≡ a + (b - a)
      apart = omega (arith, h.from)

  -- and the next one leads there
  pub follow : {a b : ℕ} → head g a ≡ Some v → NextInto g v (suc a) b → numbers into b ≡ numbers into a ++ a ∷ []
  follow {a} here h = skip h ∙ ap (λ x. numbers into a ++ cond x (a ∷ []) []) (ap (λ o. is o v) here ∙ eq-eqb v v refl)

  -- all arcs, those before arc a and those from a on
  apart : {a : ℕ} → a ≤ 2 * length g → numbers into a ++ filter into (range_with_len a (2 * length g - a)) ≡ arcs_into g v
  apart {a} within = sym (numbers_on into a (2 * length g - a)) ∙ ap (numbers into) all
    where
      all : a + (2 * length g - a) ≡ 2 * length g
      all = omega arith

  -- the arcs from the first on
  pub left_at_first : {b : ℕ} → NextInto g v 0 b → filter into (range_with_len b (2 * length g - b)) ≡ arcs_into g v
  left_at_first {b} h = ap (λ xs. xs ++ filter into (range_with_len b (2 * length g - b))) (sym (skip h)) ∙ apart h.within

  -- the arcs from a on, and those from the next on
  pub left_at_next : {a b : ℕ} → a ≤ 2 * length g → head g a ≡ Some v → NextInto g v (suc a) b →
      filter into (range_with_len a (2 * length g - a)) ≡ a ∷ filter into (range_with_len b (2 * length g - b))
  left_at_next {a} {b} within here h =
      append_cancel_left (numbers into a) (filter into (range_with_len a (2 * length g - a))) (a ∷ filter into (range_with_len b (2 * length g - b))) (
      apart within ∙ sym (apart h.within)
      ∙ ap (λ xs. xs ++ filter into (range_with_len b (2 * length g - b))) (follow here h)
      ∙ append_assoc (numbers into a) (a ∷ []) (filter into (range_with_len b (2 * length g - b))))
