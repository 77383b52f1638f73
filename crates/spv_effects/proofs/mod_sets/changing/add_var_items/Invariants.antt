use Rattle.std.proofs.Common.{◌≡◌, ◌&&◌, ◌||◌, drop}
use Rattle.std.specs.List.{list_any}
use Rattle.spv_program.specs.Uses.{Root, Shared, same_root}
use Rattle.spv_effects.specs.mod_sets.Sets.{has_root}
use Rattle.spv_effects.proofs.mod_sets.changing.add_var_items.Given as goal

abbrev pub invariant-loop-g : goal.invariant-loop-g
invariant-loop-g l =
    (q : Root) → has_root l.roots q || list_any (λ g. g.is_var && same_root q (Shared g.item)) (drop l.g-index l.globals)
    ≡ has_root l.initial.roots q || list_any (λ g. g.is_var && same_root q (Shared g.item)) l.globals
