use Rattle.std.proofs.Common.{drop, map}
use Rattle.spv_program.specs.typed.ProgramViews.{routine_of}
use Rattle.spv_assign.specs.supply.Numbers.{supply_of}
use Rattle.spv_conditions.proofs.Mains.{Left}
use Rattle.spv_conditions.proofs.making.all_conditions.Given as goal

abbrev pub invariant-loop-number : goal.invariant-loop-number
invariant-loop-number l = Left l.program l.number (map routine_of (drop l.number l.routines)) l.all.items (supply_of l.supply) (supply_of l.fn.supply) l.terms l.fn.terms
