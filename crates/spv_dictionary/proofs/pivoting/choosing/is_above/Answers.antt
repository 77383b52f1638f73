use Rattle.std.proofs.Common.{None}
use Rattle.spv_dictionary.proofs.Mixed.{if_refused}
use Rattle.spv_dictionary.specs.pivoting.Choosing.{IsComparing, with_upper}
use Rattle.spv_dictionary.proofs.pivoting.choosing.is_above.Goals as goal

pub returns-in-Some-clause-refused : goal.returns-in-Some-clause-refused
returns-in-Some-clause-refused c = if_refused c.is_greater.result _ (IsComparing None c.args.upper c.args.value) c.is_greater.ensures.refused (with_upper c.in-Some.bound c.in-Some.is)
