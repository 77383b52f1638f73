use Rattle.std.proofs.Common.{◌∷◌, []}
use Rattle.spv_grammar.specs.reading.Readers.{starting, all_items}
use Rattle.spv_grammar.specs.reading.TypeReaders.{begins_name}
use Rattle.spv_formula_parser.specs.primitives.Lists.{first_and, ItemsSoFar}
use Rattle.spv_formula_parser.proofs.primitives.lists.others.Given as goal

abbrev pub invariant-loop : goal.invariant-loop
invariant-loop g l = ItemsSoFar [] ◌∷◌ (starting begins_name (g.R.PartReader.reader l.levels)) (first_and l.fn.first (all_items [] ◌∷◌ (starting begins_name (g.R.PartReader.reader l.levels))) l.tokens) l.end l.counter l.parts.items l.rest
