-- Lists over lent memory, and graphs, grow step by step.
use Rattle.std.proofs.Common.{◌≡◌, ℕ, ◌+◌, ◌-◌, ◌≤◌, length, drop, refl, ap, ◌∙◌, arith}
use Rattle.std.proofs.lemmas.List.{drop-drop}
use Rattle.lists.specs.declared.list.List.{List as Grown}
use Rattle.lists.specs.Entries.{entries, spare}
use Rattle.compile.specs.declared.draft.Draft.{Draft}
use Rattle.compile.specs.Growth.{Grew}
use Rattle.compile.specs.Drafts.{GrewBoth, Short}

module _ {T : Type 0} where
  -- nothing changed
  pub grew_same : (l m : Grown T) → m ≡ l → Grew l m
  grew_same l m e = rw e (record {
    longer = omega arith;
    rest = ap (λ (n : ℕ). drop n (spare l)) zero_less;
    room = refl;
    memory = refl;
  })
    where
      zero_less : 0 ≡ length (entries l) - length (entries l)
      zero_less = omega arith

  pub grew_trans : (l m n : Grown T) → Grew l m → Grew m n → Grew l n
  grew_trans l m n p q =
      let less : length (entries m) - length (entries l) + (length (entries n) - length (entries m)) ≡ length (entries n) - length (entries l) =
      omega (arith, p.longer, q.longer) in
      record {
        longer = omega (arith, p.longer, q.longer);
        rest = q.rest ∙ ap (drop (length (entries n) - length (entries m))) p.rest
            ∙ drop-drop (length (entries n) - length (entries m)) (length (entries m) - length (entries l)) (spare l)
            ∙ ap (λ (i : ℕ). drop i (spare l)) less;
        room = q.room ∙ p.room;
        memory = q.memory ∙ p.memory;
      }

module _ {L : Type 0} where
  pub grew_both_trans : (b c d : Draft L) → GrewBoth b c → GrewBoth c d → GrewBoth b d
  grew_both_trans b c d g h = record { rows = grew_trans b.rows c.rows d.rows g.rows h.rows; loads = grew_trans b.loads c.loads d.loads g.loads h.loads }

  pub short_more : (b : Draft L) (i j : ℕ) → i ≤ j → Short b i → Short b j
  short_more b i j le lacks x y = lacks (omega arith) (omega arith)

  -- the memory of what grew is as small
  pub short_back : (b c : Draft L) (i : ℕ) → GrewBoth b c → Short c i → Short b i
  short_back b c i g lacks x y = lacks (omega (arith, g.rows.room)) (omega (arith, g.loads.room))
