use Rattle.std.proofs.Common.{drop, map}
use Rattle.spv_program.specs.typed.ProgramViews.{formal_of}
use Rattle.spv_assign.specs.supply.Numbers.{supply_of}
use Rattle.spv_flow_parts.specs.calls.Arguments.{changed_by_places}
use Rattle.spv_flow_parts.proofs.calls.Each.{PlacesSoFar}
use Rattle.spv_flow_parts.proofs.calls.entering.add_places.Given as goal

abbrev pub invariant-loop-place : goal.invariant-loop-place
invariant-loop-place g l =
    PlacesSoFar l.fn.program l.fn.terms l.terms (supply_of l.supply) l.fn.changed l.changed (changed_by_places l.fn.program g.at.routine.formals g.at.arguments (supply_of l.fn.supply)) (map formal_of (drop l.place l.formals)) (drop l.place l.given)
