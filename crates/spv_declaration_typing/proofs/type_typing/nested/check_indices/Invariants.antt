use Rattle.spv_declaration_typing.specs.type_typing.Reading.{types_of}
use Rattle.spv_declaration_typing.proofs.type_typing.Indices.{Checked}
use Rattle.spv_declaration_typing.proofs.type_typing.nested.check_indices.Given as goal

abbrev pub invariant-loop-index : goal.invariant-loop-index
invariant-loop-index l = Checked (types_of l.scope l.new) l.indices l.index-index
