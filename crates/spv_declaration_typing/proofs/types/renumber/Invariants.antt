use Rattle.std.proofs.Common.{◌≡◌}
use Rattle.spv_typing.specs.Merging.{renumbered}
use Rattle.spv_declaration_typing.specs.pointer_types.Counting.{all_firsts}
use Rattle.spv_typing.specs.DeclarationWalk as spec
use Rattle.spv_declaration_typing.proofs.Renumbered.{changed_to}
use Rattle.spv_declaration_typing.proofs.types.renumber.Given as goal

abbrev pub invariant-loop-place : goal.invariant-loop-place
invariant-loop-place l =
    l.known ≡ spec.with_program l.initial.known (spec.with_types l.initial.known.program l.initial.known.program.forms (changed_to (renumbered (all_firsts l.numbers)) l.place l.initial.known.program.types))
