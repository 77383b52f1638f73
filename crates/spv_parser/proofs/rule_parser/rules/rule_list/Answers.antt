use Rattle.std.proofs.Common.{arith, refl, ap, ◌∙◌, Some}
use Rattle.spv_grammar.specs.reading.Readers.{Read}
use Rattle.spv_grammar.specs.reading.RuleReaders.{read_rule}
use Rattle.spv_formula_parser.proofs.primitives.Exits.{same_fault}
use Rattle.spv_formula_parser.proofs.primitives.Turns.{stopped, turn, failed, over, when_absent, when_there, put-list}
use Rattle.spv_parser.proofs.rule_parser.rules.rule_list.Goals as goal

pub returns-then-not-begins_rule-clause-read : goal.returns-then-not-begins_rule-clause-read
returns-then-not-begins_rule-clause-read c = stopped c.loop.invariant (when_absent _ c.if-not-begins_rule.ensures) ∙ ap (λ xs. Read (xs, c.loop.rest.now)) (put-list c.loop.rules.items)

pub returns-clause-read : goal.returns-clause-read
returns-clause-read c = over c.loop.invariant (omega (arith, c.loop-test.false)) ∙ ap (λ xs. Read (xs, c.loop.rest.now)) (put-list c.loop.rules.items)

pub returns-in_err-read-clause-absent : goal.returns-in_err-read-clause-absent
returns-in_err-read-clause-absent c s h = failed c.loop.invariant c.loop-test.true (when_there (read_rule c.args.levels) c.if-not-begins_rule.ensures refl (c.in_err-read.ensures.absent s (same_fault s _ c.from_residual.result c.from_residual.ensures.1 h)))

pub loop-preserved : goal.loop-preserved
loop-preserved c = turn c.loop.invariant c.loop-test.true (when_there (read_rule c.args.levels) c.if-not-begins_rule.ensures refl c.in_ok-read.ensures.read) c.in_ok-push.ensures.items
