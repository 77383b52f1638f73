use Rattle.std.proofs.Common.{◌≡◌, drop}
use Rattle.spv_typing.specs.ProgramWalk.{titles_from}
use Rattle.spv_types.proofs.titles.titles_of_types.Given as goal

abbrev pub invariant-loop-place : goal.invariant-loop-place
invariant-loop-place l = l.titles.items ≡ titles_from (drop l.place l.types) 0 l.forms
