use Rattle.texts.proofs.Valid.{reads_valid}
use Rattle.texts.proofs.laws.reads_valid.Goals as goal

pub returns : goal.returns
returns c = reads_valid
