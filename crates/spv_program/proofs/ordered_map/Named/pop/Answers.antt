use Rattle.spv_program.proofs.ordered_map.Lookups.{last_taken, none_left}
use Rattle.spv_program.proofs.ordered_map.Named.pop.Goals as goal

pub returns-in_default-clause-empty : goal.returns-in_default-clause-empty
returns-in_default-clause-empty g c = rw (← c.self.view_is) (none_left _ c.in_default.ensures.found.1)

pub returns-clause-taken : goal.returns-clause-taken
returns-clause-taken g c = rw (← c.self.view_is) (last_taken _ _ _ c.in-Some.ensures.entries)
