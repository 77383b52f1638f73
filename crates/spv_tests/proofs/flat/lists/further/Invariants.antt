use Rattle.spv_tree.specs.declared.tokens.token.TokenKind.TheVariants as kind
use Rattle.spv_tree.specs.syntax.Lists.{further}
use Rattle.spv_tests.proofs.flat.Loops.{ComeTo}
use Rattle.spv_tests.proofs.flat.lists.further.Given as goal

abbrev pub invariant-loop-part : goal.invariant-loop-part
invariant-loop-part g l = ComeTo (further (kind.Sign l.sign) g.T.Spelled.spelled) l.parts l.part-index l.initial.out.items l.out.items
