use Rattle.std.proofs.Common.{[]}
use Rattle.spv_typing.specs.Outcomes.{each}
use Rattle.spv_typing.specs.TypeWalk.{all_names}
use Rattle.spv_typing.specs.DeclarationWalk.{new_name}
use Rattle.spv_declaration_typing.specs.type_typing.Names.{only_names}
use Rattle.spv_declaration_typing.proofs.type_typing.Each.{EachFrom}
use Rattle.spv_declaration_typing.proofs.type_typing.names.new_names.Given as goal

abbrev pub invariant-loop-x : goal.invariant-loop-x
invariant-loop-x g l =
    EachFrom (new_name (g.F.Free.free l.free)) l.x-items l.x-index (only_names l.found) (each (new_name (g.F.Free.free l.free)) [] (all_names l.names))
