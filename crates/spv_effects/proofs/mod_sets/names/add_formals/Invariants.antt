use Rattle.std.proofs.Common.{◌≡◌, ◌++◌, drop, map}
use Rattle.spv_program.specs.typed.ProgramViews.{formal_of}
use Rattle.spv_effects.specs.mod_sets.Roots.{formal_name}
use Rattle.spv_effects.proofs.mod_sets.names.add_formals.Given as goal

abbrev pub invariant-loop-formal : goal.invariant-loop-formal
invariant-loop-formal l =
    l.names.items ++ map formal_name (map formal_of (drop l.formal-index l.formals)) ≡ l.initial.names.items ++ map formal_name (map formal_of l.formals)
