use Rattle.std.proofs.Common.{◌≡◌, drop}
use Rattle.std.specs.List.{list_all}
use Rattle.spv_declaration_typing.specs.canonical_types.Behind.{is_low}
use Rattle.spv_declaration_typing.proofs.canonical_types.behind.all_low.Given as goal

abbrev pub invariant-loop-target : goal.invariant-loop-target
invariant-loop-target l = list_all (is_low l.base) (drop l.target-index l.targets) ≡ list_all (is_low l.base) l.targets
