use Rattle.std.proofs.Common.{◌≡◌, drop, fold}
use Rattle.spv_rules.specs.matching.Views.{with_match}
use Rattle.spv_rules.proofs.matching.instances.add_matches.Given as goal

abbrev pub invariant-loop-bound : goal.invariant-loop-bound
invariant-loop-bound l = fold (with_match l.number l.variables) l.found.items (drop l.bound-index l.matches) ≡ fold (with_match l.number l.variables) l.fn.found.items l.matches
