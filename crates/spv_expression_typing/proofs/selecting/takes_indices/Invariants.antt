use Rattle.std.proofs.Common.{◌≡◌, drop}
use Rattle.spv_typing.specs.ExpressionWalk.{takes_indices}
use Rattle.spv_formula_typing.specs.Operands.{operands_of}
use Rattle.spv_expression_typing.proofs.selecting.takes_indices.Given as goal

abbrev pub invariant-loop : goal.invariant-loop
invariant-loop l =
    takes_indices l.known.program.forms l.inside (operands_of (drop l.index l.indices)) ≡ takes_indices l.known.program.forms l.fn.of (operands_of l.indices)
