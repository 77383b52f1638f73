use Rattle.std.proofs.Common.{◌≡◌, ◌++◌, take}
use Rattle.std.specs.List.{flat_map}
use Rattle.spv_verdicts.specs.answers.Views.{instances_in}
use Rattle.spv_listing.specs.verdict_pages.VerdictLines.{instance_line}
use Rattle.spv_listing.proofs.verdict_pages.instances.push_instances.Given as goal

abbrev pub invariant-loop-instance : goal.invariant-loop-instance
invariant-loop-instance l = l.out.items ≡ l.initial.out.items ++ flat_map (instance_line l.names l.titles) (instances_in l.terms (take l.instance-index l.instances))
