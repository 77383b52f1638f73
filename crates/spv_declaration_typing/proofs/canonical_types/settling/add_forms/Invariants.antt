use Rattle.std.proofs.Common.{◌≡◌, ◌++◌, take}
use Rattle.spv_typing.specs.DeclarationWalk as spec
use Rattle.spv_declaration_typing.proofs.canonical_types.settling.add_forms.Given as goal

abbrev pub invariant-loop-form : goal.invariant-loop-form
invariant-loop-form l =
    l.known ≡ spec.with_program l.initial.known (spec.with_types l.initial.known.program (l.initial.known.program.forms ++ take l.form-index l.forms) l.initial.known.program.types)
