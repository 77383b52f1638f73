use Rattle.std.proofs.Common.{ap, ◌∙◌}
use Rattle.spv_frac.specs.rational.Rational.{number, whole}
use Rattle.spv_frac.proofs.rational.Field.{number_whole}
use Rattle.spv_atoms.proofs.Sums.{narrow}
use Rattle.spv_dictionary.proofs.checked_numbers.number.Number.whole.Goals as goal

pub returns : goal.returns
returns c = c.of.ensures ∙ ap number c.fraction_of.ensures ∙ number_whole _ ∙ ap whole (narrow c.args.n c.requires)
