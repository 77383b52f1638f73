use Rattle.spv_typing.specs.Outcomes.{each}
use Rattle.spv_typing.specs.DeclarationWalk as spec
use Rattle.spv_declaration_typing.proofs.type_typing.Each.{EachFrom}
use Rattle.spv_declaration_typing.specs.Parts.{part_of, is_in}
use Rattle.spv_declaration_typing.proofs.types.typedefs.Given as goal

abbrev pub invariant-loop-item : goal.invariant-loop-item
invariant-loop-item l =
    EachFrom (spec.typedef_walk (is_in l.names)) l.items l.item-index (part_of l.known l.new.items)
    (each (spec.typedef_walk (is_in l.names)) (part_of l.initial.known l.initial.new.items) l.items)
