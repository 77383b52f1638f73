use Rattle.std.proofs.Common.{◌≡◌, ◌++◌, map, drop}
use Rattle.spv_term.specs.substitution.Images.{head_at}
use Rattle.spv_rules.proofs.matching.instances.heads_of.Given as goal

abbrev pub invariant-loop-t : goal.invariant-loop-t
invariant-loop-t l = l.heads.items ++ map (head_at l.terms) (drop l.t-index l.ts) ≡ map (head_at l.terms) l.ts
