use Rattle.std.proofs.Common.{◌≡◌, ◌++◌, take, map}
use Rattle.std.specs.List.{flat_map}
use Rattle.spv_cli.specs.Drill.{declaration}
use Rattle.spv_cli.specs.Words.{procedure_view}
use Rattle.spv_cli.proofs.drill.push_declarations.Given as goal

abbrev pub invariant-loop-p : goal.invariant-loop-p
invariant-loop-p l = l.out.items ≡ l.initial.out.items ++ flat_map declaration (map procedure_view (take l.p-index l.all))
