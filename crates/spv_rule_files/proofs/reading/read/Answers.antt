use Rattle.std.proofs.Common.{◌≡◌, Ok, IfOk, IfErr, subst}
use Rattle.spv_typing.specs.Known.{Known}
use Rattle.spv_rule_files.specs.Outcomes.{RuleStops}
use Rattle.spv_rule_files.specs.Rules.{file_walk}
use Rattle.spv_rule_files.proofs.reading.read.Goals as goal

pub returns-clause-ok : goal.returns-clause-ok
returns-clause-ok c =
    subst (λ (k : Known). IfOk c.file_walk.result (λ l. file_walk k c.args.tree.now ≡ Ok l)) c.in_ok-known.ensures c.file_walk.ensures.ok

pub returns-clause-err : goal.returns-clause-err
returns-clause-err c =
    subst (λ (k : Known). IfErr c.file_walk.result (λ e. RuleStops e (file_walk k c.args.tree.now))) c.in_ok-known.ensures c.file_walk.ensures.err
