use Rattle.std.proofs.Common.{◌≡◌}
use Rattle.spv_declaration_typing.specs.type_typing.Names.{only_names}
use Rattle.spv_declaration_typing.proofs.Varying.{with_some}
use Rattle.spv_declaration_typing.proofs.variables.add_variables.Given as goal

abbrev pub invariant-loop-place : goal.invariant-loop-place
invariant-loop-place l = l.known ≡ with_some l.initial.known l.t (only_names l.names) l.place
