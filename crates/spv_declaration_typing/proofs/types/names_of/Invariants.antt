use Rattle.spv_declaration_typing.proofs.Part.{NamesSoFar}
use Rattle.spv_declaration_typing.proofs.types.names_of.Given as goal

abbrev pub invariant-loop-one : goal.invariant-loop-one
invariant-loop-one l = NamesSoFar l.types l.one-index l.names
