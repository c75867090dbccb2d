use Rattle.std.proofs.Common.{◌≡◌, Some, rules, arith, ap, sym, ◌∙◌}
use Rattle.texts.specs.Grammar.{first_letter}
use Rattle.texts.specs.Parts.{words_left}
use Rattle.texts.proofs.instance.header.base_of.Goals as goal

pub returns-in-Some-L : goal.returns-in-Some-L
returns-in-Some-L c =
    let letter : c.in-Some-L.field-0 ≡ 76 = omega arith in
    let first : Some 76 ≡ first_letter (words_left c.new-fields.result) = ap Some (sym letter) ∙ c.in-Some-L.ensures.value in
    search rules

pub returns-in-Some-C : goal.returns-in-Some-C
returns-in-Some-C c =
    let letter : c.in-Some-C.field-0 ≡ 67 = omega arith in
    let first : Some 67 ≡ first_letter (words_left c.new-fields.result) = ap Some (sym letter) ∙ c.in-Some-C.ensures.value in
    search rules
