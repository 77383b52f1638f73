use Rattle.std.proofs.Common.{◌∙◌}
use Rattle.spv_dictionary.proofs.checked_numbers.Seen.{product_seen}
use Rattle.spv_dictionary.proofs.checked_numbers.number.Number.mul.Goals as goal

pub returns-in-Ok-clause-value : goal.returns-in-Ok-clause-value
returns-in-Ok-clause-value c = c.of.ensures ∙ product_seen c.args.self c.args.other _ _ c.in-Ok.frac c.frac.ensures c.frac-2.ensures c.in-Ok.ensures.value
