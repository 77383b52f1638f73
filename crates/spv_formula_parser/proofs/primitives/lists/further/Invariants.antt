use Rattle.std.proofs.Common.{◌∷◌, []}
use Rattle.spv_tree.specs.declared.tokens.token.TokenKind.TheVariants as kind
use Rattle.spv_grammar.specs.reading.Readers.{behind, all_items}
use Rattle.spv_formula_parser.specs.primitives.Lists.{ItemsSoFar}
use Rattle.spv_formula_parser.proofs.primitives.lists.further.Given as goal

abbrev pub invariant-loop : goal.invariant-loop
invariant-loop g l = ItemsSoFar [] ◌∷◌ (behind (kind.Sign l.sign) (g.R.PartReader.reader l.levels)) (all_items [] ◌∷◌ (behind (kind.Sign l.sign) (g.R.PartReader.reader l.levels)) l.tokens) l.end l.counter l.parts.items l.rest
