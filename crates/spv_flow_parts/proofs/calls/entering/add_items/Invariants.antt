use Rattle.std.proofs.Common.{drop, map}
use Rattle.spv_program.specs.Changes.{var_items}
use Rattle.spv_program.specs.typed.ProgramViews.{global_of}
use Rattle.spv_assign.specs.supply.Numbers.{supply_of}
use Rattle.spv_meaning.specs.Before.{changed_items}
use Rattle.spv_flow_parts.proofs.calls.Each.{ItemsSoFar}
use Rattle.spv_flow_parts.proofs.calls.entering.add_items.Given as goal

abbrev pub invariant-loop-global : goal.invariant-loop-global
invariant-loop-global g l =
    ItemsSoFar g.at.program g.at.routine l.fn.terms l.terms (supply_of l.supply) l.fn.changed l.changed (changed_items g.at.program g.at.routine (var_items g.at.routine.globals) (supply_of l.fn.supply)) (map global_of (drop l.global-index l.globals))

abbrev pub ghost-add_item : goal.ghost-add_item
ghost-add_item g a = g.at
