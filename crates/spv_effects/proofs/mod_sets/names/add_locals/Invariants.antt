use Rattle.std.proofs.Common.{◌≡◌, ◌++◌, drop}
use Rattle.spv_effects.proofs.mod_sets.names.add_locals.Given as goal

abbrev pub invariant-loop-name : goal.invariant-loop-name
invariant-loop-name l = l.names.items ++ drop l.name-index l.locals ≡ l.initial.names.items ++ l.locals
