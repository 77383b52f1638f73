use Rattle.std.proofs.Common.{None}
use Rattle.spv_dictionary.proofs.Mixed.{if_refused}
use Rattle.spv_dictionary.specs.pivoting.Choosing.{IsComparing, with_lower}
use Rattle.spv_dictionary.proofs.pivoting.choosing.is_below.Goals as goal

pub returns-in-Some-clause-refused : goal.returns-in-Some-clause-refused
returns-in-Some-clause-refused c = if_refused c.is_less.result _ (IsComparing c.args.lower None c.args.value) c.is_less.ensures.refused (with_lower c.in-Some.bound c.in-Some.is)
