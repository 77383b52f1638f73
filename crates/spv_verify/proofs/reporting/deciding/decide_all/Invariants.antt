use Rattle.std.proofs.Common.{take}
use Rattle.spv_rules.specs.RuleSets.{rules_in}
use Rattle.spv_reports.specs.Reports.{AreVerdicts}
use Rattle.spv_verify.proofs.reporting.deciding.decide_all.Given as goal

abbrev pub invariant-loop-condition : goal.invariant-loop-condition
invariant-loop-condition l = AreVerdicts (rules_in l.rules) l.terms l.limits (take l.condition-index l.conditions) l.verdicts.items
