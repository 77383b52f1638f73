use Rattle.std.proofs.Common.{◌≡◌, ◌||◌, drop}
use Rattle.spv_program.specs.Uses.{Root}
use Rattle.spv_effects.specs.mod_sets.Sets.{has_root}
use Rattle.spv_effects.specs.mod_sets.Changing.{of_callees}
use Rattle.spv_effects.proofs.mod_sets.changing.add_callees.Given as goal

abbrev pub invariant-loop-number : goal.invariant-loop-number
invariant-loop-number l =
    (q : Root) → has_root l.roots q || of_callees l.program (drop l.number-index l.callees) q ≡ has_root l.initial.roots q || of_callees l.program l.callees q
