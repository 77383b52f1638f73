use Rattle.spv_typing.specs.Outcomes.{each}
use Rattle.spv_typing.specs.DeclarationWalk as spec
use Rattle.spv_declaration_typing.proofs.type_typing.Each.{EachFrom}
use Rattle.spv_declaration_typing.proofs.constants.const_part.Given as goal

abbrev pub invariant-loop-item : goal.invariant-loop-item
invariant-loop-item l = EachFrom spec.const_walk l.items l.item-index l.known (each spec.const_walk l.initial.known l.items)
