use Rattle.std.proofs.Common.{◌≡◌, ◌++◌, drop, map}
use Rattle.spv_routine_typing.specs.Again.{own_of_formal}
use Rattle.spv_routine_typing.proofs.again.parameter_names.Given as goal

abbrev pub invariant-loop-formal : goal.invariant-loop-formal
invariant-loop-formal l = l.own ++ map own_of_formal (drop l.formal-index l.formals) ≡ map own_of_formal l.formals
