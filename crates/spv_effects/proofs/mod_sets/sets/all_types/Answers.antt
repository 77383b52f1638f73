use Rattle.std.proofs.Common.{List, ap, ◌∙◌}
use Rattle.spv_logic.specs.declared.names.names.Symbol.{Symbol}
use Rattle.spv_logic.specs.declared.types.TypeId.{TypeId}
use Rattle.spv_program.specs.declared.types.TypeForm.{TypeForm}
use Rattle.spv_program.specs.Programs.{Program}
use Rattle.spv_program.specs.Changes.{types_of_names, types_from}
use Rattle.spv_effects.specs.mod_sets.Sets.{with_types}
use Rattle.spv_effects.proofs.mod_sets.Members.{whole}
use Rattle.spv_effects.proofs.mod_sets.sets.all_types.Goals as goal

pub returns : goal.returns
returns c =
    whole c.args.program.now c.new-types.result c.add_named.new.types c.add_numbered.new.types c.new-types.ensures
    (c.in_ok-add_named.ensures
    ∙ ap (λ (ns : List (Symbol × TypeId)). with_types c.new-types.result (types_of_names ns)) (c.as_slice.ensures ∙ ap (λ (p : Program). p.types) c.program.view_is))
    (c.in_ok-add_numbered.ensures
    ∙ ap (λ (fs : List TypeForm). with_types c.add_named.new.types (types_from 0 fs)) (c.as_slice-2.ensures ∙ ap (λ (p : Program). p.forms) c.program.view_is))
