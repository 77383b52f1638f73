use Rattle.std.proofs.Common.{◌≡◌, ◌||◌, drop, map}
use Rattle.spv_logic.specs.declared.names.names.Symbol.{Symbol}
use Rattle.spv_program.specs.typed.ProgramViews.{global_of}
use Rattle.spv_typing.specs.RoutineWalk.{is_listed}
use Rattle.spv_heading_typing.specs.Names.{has}
use Rattle.spv_routine_typing.proofs.listed.listed.Given as goal

abbrev pub invariant-loop-item : goal.invariant-loop-item
invariant-loop-item l = (x : Symbol) → (has l.listed x || is_listed (map global_of (drop l.item-index l.item-items)) x) ≡ is_listed (map global_of l.globals) x
