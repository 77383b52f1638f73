use Rattle.std.proofs.Common.{◌-◌, length}
use Rattle.spv_rules.specs.RuleSets.{rules_in}
use Rattle.spv_rounds.specs.knowing.Known.{IsKnown, members_in}
use Rattle.spv_verify.proofs.reporting.rounds.decide_by_rounds.Given as goal

abbrev pub invariant-loop-known : goal.invariant-loop-known
invariant-loop-known l = IsKnown (rules_in l.rules) l.terms l.condition l.limits l.known

abbrev pub decreases-loop-known : goal.decreases-loop-known
decreases-loop-known l = l.limits.instances - length (members_in l.known.terms l.known.rounds.items)
