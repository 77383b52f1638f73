use Rattle.std.proofs.Common.{◌≡◌, drop}
use Rattle.spv_program.specs.Programs.{shapes}
use Rattle.spv_typing.specs.FormulaWalk.{takes_indices}
use Rattle.spv_formula_typing.specs.Operands.{operands_of}
use Rattle.spv_annotation_typing.proofs.selecting.takes_indices.Given as goal

abbrev pub invariant-loop : goal.invariant-loop
invariant-loop l =
    takes_indices (shapes l.known.program) l.inside (operands_of (drop l.index l.indices)) ≡ takes_indices (shapes l.known.program) l.fn.of (operands_of l.indices)
