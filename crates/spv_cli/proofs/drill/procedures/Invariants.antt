use Rattle.std.proofs.Common.{◌≡◌, ◌<◌, map}
use Rattle.spv_cli.specs.Drill.{procedures}
use Rattle.spv_cli.specs.Words.{procedure_view}
use Rattle.spv_cli.proofs.Numbers.{behind}
use Rattle.spv_cli.proofs.drill.procedures.Given as goal

abbrev pub invariant-loop-place : goal.invariant-loop-place
invariant-loop-place l = record {
  stands : l.s ≡ behind l.start l.place;
  below : l.s < 2147483648;
  made : map procedure_view l.made.items ≡ procedures 1 l.start l.place;
}
