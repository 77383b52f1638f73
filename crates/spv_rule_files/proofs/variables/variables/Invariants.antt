use Rattle.std.proofs.Common.{[]}
use Rattle.spv_typing.specs.Outcomes.{each}
use Rattle.spv_declaration_typing.proofs.type_typing.Each.{EachFrom}
use Rattle.spv_rule_files.specs.Variables as spec
use Rattle.spv_rule_files.proofs.variables.variables.Given as goal

abbrev pub invariant-loop-tree : goal.invariant-loop-tree
invariant-loop-tree l = EachFrom (spec.variables_walk l.known) l.trees l.tree-index l.vars (each (spec.variables_walk l.known) [] l.trees)
