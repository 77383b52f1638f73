use Rattle.std.proofs.Common.{sym}
use Rattle.spv_program.proofs.ordered_map.Lookups.{none_earlier}
use Rattle.spv_program.proofs.ordered_map.Named.entry.Goals as goal

pub returns-clause-earlier : goal.returns-clause-earlier
returns-clause-earlier g c =
    rw (← c.self.view_is) (none_earlier _ _ (c.in_ok-name.name.now, c.in_ok-name.value.now) c.len-count.ensures.unique (sym c.in_ok-name.ensures.entry))
