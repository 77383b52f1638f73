use Rattle.std.proofs.Common.{◌≡◌, ◌++◌, take}
use Rattle.spv_heading_typing.specs.Parameters.{formals_named}
use Rattle.spv_heading_typing.proofs.parameters.push_formals.Given as goal

abbrev pub invariant-loop-place : goal.invariant-loop-place
invariant-loop-place l = l.formals ≡ l.initial.formals ++ formals_named (take l.place l.names) l.of l.by_place l.line
