use Rattle.std.proofs.Common.{◌≡◌, [], Ok, IfOk, IfErr, subst}
use Rattle.spv_typing.specs.Known.{Scope}
use Rattle.spv_rule_files.specs.Outcomes.{each_rule, RuleStops}
use Rattle.spv_rule_files.specs.Rules.{one_more}
use Rattle.spv_rule_files.proofs.Knowing.{scope_is}
use Rattle.spv_rule_files.proofs.reading.rules_in.Goals as goal

pub returns-clause-ok : goal.returns-clause-ok
returns-clause-ok c =
    subst (λ (s : Scope). IfOk c.all_rules.result (λ l. each_rule (one_more s c.args.vars.now) [] c.args.trees.now ≡ Ok l))
    (scope_is c.args.known.now c.new-none.result c.in_ok-own.own c.args.vars.now c.new-none.ensures c.in_ok-own.ensures) c.all_rules.ensures.ok

pub returns-clause-err : goal.returns-clause-err
returns-clause-err c =
    subst (λ (s : Scope). IfErr c.all_rules.result (λ e. RuleStops e (each_rule (one_more s c.args.vars.now) [] c.args.trees.now)))
    (scope_is c.args.known.now c.new-none.result c.in_ok-own.own c.args.vars.now c.new-none.ensures c.in_ok-own.ensures) c.all_rules.ensures.err
