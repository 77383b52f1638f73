use Rattle.std.proofs.Common.{◌≡◌, ◌+◌, ◌++◌, drop}
use Rattle.spv_typing.specs.Merging as spec
use Rattle.spv_declaration_typing.specs.pointer_types.Counting.{all_firsts}
use Rattle.spv_declaration_typing.specs.pointer_types.Views.{all_written}
use Rattle.spv_declaration_typing.proofs.pointer_types.merging.forms.Given as goal

abbrev pub invariant-loop-place : goal.invariant-loop-place
invariant-loop-place l =
    l.made.items ++ spec.forms_from l.names (spec.renumbered (all_firsts l.numbers)) (l.numbers.base + l.place) (drop l.place l.numbers.firsts) (all_written (drop l.place l.written))
    ≡ spec.forms_from l.names (spec.renumbered (all_firsts l.numbers)) l.numbers.base l.numbers.firsts (all_written l.written)
