use Rattle.std.proofs.Common.{◌≡◌, Some, rules, arith, ap, sym, ◌∙◌}
use Rattle.texts.specs.Grammar.{first_letter}
use Rattle.texts.specs.Parts.{words_left}
use Rattle.texts.proofs.instance.header.count_limit_of.Goals as goal

pub returns-in-Some-N : goal.returns-in-Some-N
returns-in-Some-N c =
    let letter : c.in-Some-N.field-0 ≡ 78 = omega arith in
    let first : Some 78 ≡ first_letter (words_left c.new-fields.result) = ap Some (sym letter) ∙ c.in-Some-N.ensures.value in
    search rules
