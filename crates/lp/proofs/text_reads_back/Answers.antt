use Rattle.std.proofs.Common.{sym, ap, ◌∙◌}
use Rattle.lp.specs.Reading.{reads}
use Rattle.lp.proofs.Bounds.{graphs_read_back}
use Rattle.lp.proofs.ReadsBack.{reads_back}
use Rattle.lp.proofs.text_reads_back.Goals as goal

pub returns : goal.returns
returns c = record { models = reads_back; distinct = λ m n h k e. sym (reads_back m h) ∙ ap reads e ∙ reads_back n k; graphs = graphs_read_back }
