use Rattle.std.proofs.Common.{◌≡◌, ◌++◌, take}
use Rattle.spv_declaration_typing.specs.type_typing.Names.{only_names}
use Rattle.spv_declaration_typing.specs.type_typing.Fields.{under}
use Rattle.spv_declaration_typing.proofs.type_typing.fields.add_fields.Given as goal

abbrev pub invariant-loop-place : goal.invariant-loop-place
invariant-loop-place l = l.fields ≡ l.initial.fields ++ under l.t (take l.place (only_names l.names))
