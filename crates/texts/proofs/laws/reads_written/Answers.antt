use Rattle.texts.proofs.WrittenText.{reads_written}
use Rattle.texts.proofs.laws.reads_written.Goals as goal

pub returns : goal.returns
returns c = reads_written
