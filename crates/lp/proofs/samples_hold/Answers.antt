use Rattle.std.proofs.Common.{refl}
use Rattle.std.specs.Fmt.{digits}
use Rattle.flow.specs.Text.{text}
use Rattle.lp.proofs.samples_hold.Goals as goal

pub returns : goal.returns
unfolding digits text
returns c = record {
  boards_text = refl;
  eight = refl;
  nine = refl;
  sixteen = refl;
  seventeen = refl;
  eight_listed = refl;
  nine_listed = refl;
}
