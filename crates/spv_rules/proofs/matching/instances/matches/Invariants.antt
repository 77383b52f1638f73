use Rattle.std.proofs.Common.{◌+◌, drop}
use Rattle.spv_rules.specs.matching.Views.{all_found}
use Rattle.spv_rules.proofs.matching.Ruling.{GathersRules}
use Rattle.spv_rules.proofs.matching.instances.matches.Given as goal

abbrev pub invariant-loop-place : goal.invariant-loop-place
invariant-loop-place l = GathersRules l.rules.arena l.s (all_found l.rules.arena l.s l.rules.list) l.found.items (l.place + 1) (drop l.place l.rules.list)
