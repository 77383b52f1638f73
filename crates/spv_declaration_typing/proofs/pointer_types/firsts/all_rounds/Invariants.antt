use Rattle.std.proofs.Common.{◌≡◌}
use Rattle.spv_typing.specs.Merging.{firsts_after}
use Rattle.spv_declaration_typing.proofs.pointer_types.firsts.all_rounds.Given as goal

abbrev pub invariant-loop-round : goal.invariant-loop-round
invariant-loop-round l = l.now.items ≡ firsts_after l.round l.targets
