use Rattle.std.proofs.Common.{◌≡◌, ◌++◌, drop, map}
use Rattle.spv_effects.specs.mod_sets.Roots.{named_row, rows_of}
use Rattle.spv_effects.proofs.mod_sets.roots.add_names.Given as goal

abbrev pub invariant-loop-x : goal.invariant-loop-x
invariant-loop-x l =
    rows_of l.rows.items ++ map (named_row l.forms l.own) (drop l.x-index l.names) ≡ rows_of l.initial.rows.items ++ map (named_row l.forms l.own) l.names
