use Rattle.spv_dictionary.proofs.pivoting.Choices.{of_lower, of_upper}
use Rattle.spv_dictionary.proofs.pivoting.choosing.broken.Goals as goal

pub returns-in-Err-clause-refused : goal.returns-in-Err-clause-refused
returns-in-Err-clause-refused c = of_lower c.args.lower c.args.upper c.args.value c.in-Err.refused c.in-Err.ensures.refused

pub returns-in-Err-is_above-clause-refused : goal.returns-in-Err-is_above-clause-refused
returns-in-Err-is_above-clause-refused c = of_upper c.args.lower c.args.upper c.args.value c.in-Err-is_above.refused c.in-Err-is_above.ensures.refused
