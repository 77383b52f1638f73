use Rattle.spv_tree.specs.syntax.Lists.{each}
use Rattle.spv_tests.proofs.flat.Loops.{ComeTo}
use Rattle.spv_tests.proofs.flat.lists.each.Given as goal

abbrev pub invariant-loop-part : goal.invariant-loop-part
invariant-loop-part g l = ComeTo (each g.T.Spelled.spelled) l.parts l.part-index l.initial.out.items l.out.items
