use Rattle.spv_typing.specs.Outcomes.{all_of}
use Rattle.spv_typing.specs.TypeWalk.{all_names}
use Rattle.spv_typing.specs.DeclarationWalk.{sort_walk}
use Rattle.spv_declaration_typing.proofs.AllOf.{AllSoFar}
use Rattle.spv_declaration_typing.proofs.symbols.all_sorts.Given as goal

abbrev pub invariant-loop-name : goal.invariant-loop-name
invariant-loop-name l = AllSoFar (sort_walk l.known) l.name-items l.name-index l.sorts.items (all_of (sort_walk l.known) (all_names l.names))
