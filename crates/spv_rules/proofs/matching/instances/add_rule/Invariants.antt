use Rattle.std.proofs.Common.{drop, map}
use Rattle.spv_rules.specs.matching.Views.{instance_in, instances_in, instances_here, adding}
use Rattle.spv_rules.proofs.matching.Adding.{Gathers}
use Rattle.spv_rules.proofs.matching.instances.add_rule.Given as goal

abbrev pub invariant-loop-u : goal.invariant-loop-u
invariant-loop-u l =
    Gathers l.s.terms.now (instances_here l.s l.number l.trigger) (adding (map (instance_in l.s.terms.now) l.fn.found.items) (instances_in l.s l.number l.trigger l.s.used.now)) l.found.items (drop l.u-index l.s.used.now)
