use Rattle.spv_grammar.proofs.expected_tokens.Texts.{rules_stop, rules_leave, rules_take}
use Rattle.spv_grammar.proofs.expected_tokens.laws.law_rule_stops.Goals as goal

pub returns : goal.returns
returns c = record { stops = rules_stop; surplus = rules_leave; levels = rules_take }
