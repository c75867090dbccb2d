-- Readers that go on, and then go on again.
use Rattle.std.proofs.Common.{ℕ, ◌+◌, drop, ap, ◌∙◌, arith}
use Rattle.std.proofs.lemmas.List.{drop-drop}
use Rattle.texts.specs.declared.fields.Fields.{Fields}
use Rattle.texts.specs.declared.lines.Lines.{Lines}
use Rattle.texts.specs.Readers.{lines_left, LinesMoved}
use Rattle.texts.specs.Parts.{words_left, Moved}

pub moved_more : (m n : ℕ) (a b c : Fields) → Moved m a b → Moved n b c → Moved (m + n) a c
moved_more m n a b c x y = record {
  line = y.line ∙ x.line;
  number = omega (arith, y.number, x.number);
  left = y.left ∙ ap (drop n) x.left ∙ drop-drop n m (words_left a);
}

pub lines_more : (m n : ℕ) (a b c : Lines) → LinesMoved m a b → LinesMoved n b c → LinesMoved (m + n) a c
lines_more m n a b c x y = record {
  number = omega (arith, y.number, x.number);
  left = y.left ∙ ap (drop n) x.left ∙ drop-drop n m (lines_left a);
}
