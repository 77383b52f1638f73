use Rattle.std.proofs.Common.{◌≡◌, take}
use Rattle.spv_rule_files.proofs.names.copied_sorts.Given as goal

abbrev pub invariant-loop-sort : goal.invariant-loop-sort
invariant-loop-sort l = l.copy ≡ take l.sort-index l.sorts
