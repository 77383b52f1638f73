use Rattle.std.proofs.Common.{take}
use Rattle.spv_rules.specs.RuleSets.{rules_in}
use Rattle.spv_reports.specs.Reports.{AreRechecked}
use Rattle.spv_verify.proofs.reporting.deciding.recheck_all.Given as goal

abbrev pub invariant-loop-place : goal.invariant-loop-place
invariant-loop-place l = AreRechecked (rules_in l.rules) l.named l.terms l.entries (take l.place l.conditions) l.verdicts.items
