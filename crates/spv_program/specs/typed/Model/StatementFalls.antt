-- A statement is larger than each of its parts.
use Rattle.std.specs.Prelude.{◌+◌, ◌≤◌, max, List, [], ◌∷◌}
use Rattle.std.proofs.Common.{arith}
use denote.Param.Weighed.{most}
use Rattle.spv_program.specs.declared.typed.statements.Statement.TheInside as statement
use Rattle.spv_program.specs.declared.typed.statements.StatementForm.{StatementForm}
use Rattle.spv_program.specs.declared.typed.statements.StatementForm.TheVariants as form
use Rattle.spv_program.specs.declared.typed.statements.Arm.{Arm}
use Rattle.spv_program.specs.declared.typed.statements.Statement.TheDeep.{deep-StatementForm, deep-Statement, deep-Arm}
use Rattle.spv_program.specs.Statements.{Statement}
use Rattle.spv_program.specs.typed.Model.StatementSizes.{statement_size, arms_size}
use Rattle.spv_program.specs.typed.StatementViews.{block_of, arms_of, statement_of}

most_statements : (ss : List Statement) → most (λ s. statement_size s + 1) ss ≤ statement_size (block_of ss)
most_statements [] = omega arith
most_statements (s ∷ ss) = omega (arith, most_statements ss)

most_arms : (others : List Arm) → most deep-Arm others ≤ arms_size (arms_of others) + 1
most_arms [] = omega arith
most_arms (a ∷ others) = omega (arith, most_arms others)

form_falls : (s : StatementForm) → max (deep-StatementForm s) 0 ≤ statement_size (statement_of s)
form_falls (form.Assign d e) = omega arith
form_falls (form.Perform c) = omega arith
form_falls (form.New line d t) = omega arith
form_falls (form.Block ss) = omega (arith, most_statements ss.items)
form_falls (form.If line e a b) = omega arith
form_falls (form.Case line e arms) = omega (arith, most_arms arms.value.items)
form_falls (form.While line f e s) = omega arith
form_falls (form.Repeat line f s e) = omega arith
form_falls (form.For line f count s) = omega arith
form_falls (form.Assert a) = omega arith

pub statement_falls : (a : statement.Inside) → deep-Statement a ≤ statement_size (statement_of a.form)
statement_falls a = form_falls a.form
