use Rattle.std.proofs.Common.{◌≡◌, drop}
use Rattle.spv_program.specs.Changes.{types_from}
use Rattle.spv_effects.specs.mod_sets.Sets.{with_types}
use Rattle.spv_effects.proofs.mod_sets.sets.add_numbered.Given as goal

abbrev pub invariant-loop-form : goal.invariant-loop-form
invariant-loop-form l = with_types l.types (types_from l.number (drop l._form-index l.forms)) ≡ with_types l.initial.types (types_from 0 l.forms)
