use Rattle.std.proofs.Common.{◌≡◌}
use Rattle.spv_branch_theory.specs.model_construction.Numbers.{listed_to}
use Rattle.spv_branch_theory.proofs.model_construction.full.values.Given as goal

abbrev pub invariant-loop-place : goal.invariant-loop-place
invariant-loop-place l = l.values.items ≡ listed_to l.terms l.both l.ids l.flags l.firsts l.place
