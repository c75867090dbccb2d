-- The worked cases, computed.
use Rattle.std.proofs.Common.{[], ◌∷◌, refl, arith}
use Rattle.limits.specs.Numbers.{length_meaning}
use Rattle.limits.specs.NumberRules.{numbers_rules}
use Rattle.limits.specs.ColourRules.{colours_rules}
use Rattle.limits.specs.CountRules.{counted_rules}
use Rattle.flow.proofs.marked_cases_hold.Goals as goal

pub returns : goal.returns
returns c = record {
  marked = record {
    five = refl;
    five_patterns = refl;
    five_refused = refl;
    five_reduced = refl;
    seven_reduced = refl;
    two_fits = refl;
    three_does_not = refl;
    one_colour = refl;
    one_colour_patterns = refl;
    one_piece_patterns = refl;
    peeled = refl;
  };
  ruled = λ w most orders loads.
      let long = numbers_rules (w ∷ []) (omega arith) (omega arith) in
      (long, (colours_rules most, (counted_rules most (length_meaning w) long, tt)));
  refusals = refl;
}
