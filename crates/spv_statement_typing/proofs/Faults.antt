-- Faults of what is no procedure.
use Rattle.std.proofs.Common.{ℕ, List, Option, Err}
use Rattle.spv_program.specs.Expressions.{Expression}
use Rattle.spv_typing.specs.declared.faults.TypeFault.{TypeFault}
use Rattle.spv_typing.specs.Outcomes.{wrong}
use Rattle.spv_typing.specs.OperatorWalk.{Argument}
use Rattle.spv_typing.specs.ExpressionWalk.{Reached, no_call}
use Rattle.spv_typing.specs.StatementWalk.{no_procedure}
use Rattle.spv_environments.specs.Answers.{Stops}
use Rattle.spv_formula_typing.proofs.Exits.{stops_after}

pub no_procedure_stops : (e : TypeFault) (line : ℕ) (count : Option ℕ) (given : List (Argument Expression Reached)) → Stops e (no_call line count given) → Stops e (no_procedure line count given)
no_procedure_stops e line count given h = stops_after e (no_call line count given) (λ r. Err (wrong line)) h
