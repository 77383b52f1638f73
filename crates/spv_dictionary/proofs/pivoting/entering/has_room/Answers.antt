use Rattle.spv_dictionary.proofs.Mixed.{if_refused}
use Rattle.spv_dictionary.specs.pivoting.Choosing.{IsComparing, with_lower, with_upper}
use Rattle.spv_dictionary.proofs.pivoting.entering.has_room.Goals as goal

pub returns-in-Lower-clause-refused : goal.returns-in-Lower-clause-refused
returns-in-Lower-clause-refused c = if_refused c.is_greater.result _ (IsComparing c.args.bound c.args.bound c.args.value) c.is_greater.ensures.refused (with_lower c.in-Some.bound c.in-Some.is)

pub returns-in-Upper-clause-refused : goal.returns-in-Upper-clause-refused
returns-in-Upper-clause-refused c = if_refused c.is_less.result _ (IsComparing c.args.bound c.args.bound c.args.value) c.is_less.ensures.refused (with_upper c.in-Some.bound c.in-Some.is)
