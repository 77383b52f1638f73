use Rattle.std.proofs.Common.{◌≡◌, drop}
use Rattle.spv_program.specs.Changes.{types_of_names}
use Rattle.spv_effects.specs.mod_sets.Sets.{with_types}
use Rattle.spv_effects.proofs.mod_sets.sets.add_named.Given as goal

abbrev pub invariant-loop-t : goal.invariant-loop-t
invariant-loop-t l = with_types l.types (types_of_names (drop l.t-index l.names)) ≡ with_types l.initial.types (types_of_names l.names)
