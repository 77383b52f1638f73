use Rattle.std.proofs.Common.{take}
use Rattle.spv_rules.specs.RuleSets.{rules_in}
use Rattle.spv_rounds.proofs.growing.SayLemmas.{Saying}
use Rattle.spv_rounds.proofs.growing.saying.say.Given as goal

abbrev pub invariant-loop-member : goal.invariant-loop-member
invariant-loop-member l = Saying (rules_in l.rules) l.fn.terms (take l.member-index l.members) l.terms l.made.items
