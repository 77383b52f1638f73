use Rattle.std.proofs.Common.{◌≡◌, ◌++◌, drop, map}
use Rattle.spv_effects.specs.mod_sets.Roots.{class_row, rows_of}
use Rattle.spv_effects.proofs.mod_sets.roots.add_classes.Given as goal

abbrev pub invariant-loop-t : goal.invariant-loop-t
invariant-loop-t l =
    rows_of l.rows.items ++ map class_row (drop l.t-index l.types) ≡ rows_of l.initial.rows.items ++ map class_row l.types
