use Rattle.texts.proofs.instance.header.count_of.Goals as goal

pub returns-clause-value : goal.returns-clause-value
returns-clause-value c = let whole = c.new.ensures in rw (whole.line, whole.number, whole.left) at c.sole_number.ensures.value
