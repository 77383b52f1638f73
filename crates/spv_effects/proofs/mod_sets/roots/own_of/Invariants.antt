use Rattle.std.proofs.Common.{◌≡◌, ◌||◌, drop}
use Rattle.std.specs.List.{list_any}
use Rattle.spv_logic.specs.declared.names.names.Symbol.{Symbol}
use Rattle.spv_effects.specs.frame_events.Names.{named}
use Rattle.spv_program.specs.Uses.{Own, same_root}
use Rattle.spv_effects.specs.mod_sets.Roots.{plain_root, own_in}
use Rattle.spv_effects.proofs.mod_sets.roots.own_of.Given as goal

abbrev pub invariant-loop-row : goal.invariant-loop-row
invariant-loop-row l =
    (x : Symbol) → named l.own x || list_any (λ r. same_root (Own x) (plain_root r.root)) (drop l.row-index l.rows) ≡ own_in l.rows x
