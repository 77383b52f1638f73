-- Calls of routines as statements.
use Rattle.std.specs.Prelude.{ℕ, Option}
use Rattle.spv_tree.specs.declared.syntax.lists.Several.{Several}
use Rattle.spv_tree.specs.syntax.Formulas.{Formula}
use Rattle.spv_program.specs.Statements.{Statement}
use Rattle.spv_typing.specs.Outcomes.{Outcome, after}
use Rattle.spv_typing.specs.Known.{Heading}
use Rattle.spv_typing.specs.ExpressionWalk.{call_of}
use Rattle.spv_typing.specs.StatementWalk.{Setting, arguments_of, performed}

abbrev pub routine_called : Setting → ℕ → ℕ → Heading → Option (Several Formula) → Outcome Statement
routine_called at line on h given = after (call_of at.inside line on h (arguments_of at.inside given)) (performed at line h)
