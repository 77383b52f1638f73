use Rattle.std.proofs.Common.{◌∷◌, []}
use Rattle.spv_grammar.specs.reading.Readers.{all_items, starting}
use Rattle.spv_grammar.specs.reading.RuleReaders.{begins_rule, read_rule}
use Rattle.spv_formula_parser.specs.primitives.Lists.{ItemsSoFar}
use Rattle.spv_parser.proofs.rule_parser.rules.rule_list.Given as goal

abbrev pub invariant-loop : goal.invariant-loop
invariant-loop l = ItemsSoFar [] ◌∷◌ (starting begins_rule (read_rule l.levels)) (all_items [] ◌∷◌ (starting begins_rule (read_rule l.levels)) l.tokens) l.end l.counter l.rules.items l.rest
