use Rattle.std.proofs.Common.{◌∙◌}
use Rattle.spv_dictionary.proofs.checked_numbers.Seen.{opposite_seen}
use Rattle.spv_dictionary.proofs.checked_numbers.number.Number.neg.Goals as goal

pub returns : goal.returns
returns c = c.of.ensures ∙ opposite_seen c.args.self _ c.neg.result c.frac.ensures c.neg.ensures
