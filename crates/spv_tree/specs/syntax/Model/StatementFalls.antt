-- A statement is larger than each of its parts.
use Rattle.std.specs.Prelude.{ℕ, suc, ◌+◌, ◌≤◌, max, List, [], ◌∷◌, Option, Some, None}
use Rattle.std.proofs.Common.{arith}
use denote.Param.Weighed.{most}
use Rattle.std.specs.declared.boxed.Box.{Box}
use Rattle.std.specs.Global.{Global}
use Rattle.spv_tree.specs.declared.syntax.lists.Several.{Several}
use Rattle.spv_tree.specs.declared.syntax.names.Constant.{Constant}
use Rattle.spv_tree.specs.declared.syntax.statements.Statement.TheInside as statement
use Rattle.spv_tree.specs.declared.syntax.statements.Block.TheInside as block
use Rattle.spv_tree.specs.declared.syntax.statements.Arm.TheInside as arm
use Rattle.spv_tree.specs.declared.syntax.statements.Loop.TheInside as looped
use Rattle.spv_tree.specs.declared.syntax.statements.StatementForm.{StatementForm}
use Rattle.spv_tree.specs.declared.syntax.statements.StatementForm.TheVariants as form
use Rattle.spv_tree.specs.declared.syntax.statements.LoopForm.{LoopForm}
use Rattle.spv_tree.specs.declared.syntax.statements.LoopForm.TheVariants.{While, Repeat, For}
use Rattle.spv_tree.specs.declared.syntax.statements.Arm.TheDeep.{deep-StatementForm, deep-LoopForm, deep-Statement, deep-Block, deep-Arm, deep-Loop}
use Rattle.spv_tree.specs.syntax.Statements.{Statement, Arm}
use Rattle.spv_tree.specs.syntax.Model.StatementSizes.{more_statements_of, more_arms_of, statement_size, more_statements_size, arm_size, more_arms_size, loop_size}
use Rattle.spv_tree.specs.syntax.StatementViews.{statement_of, arm_of, loop_of}

most_statements : (ss : List Statement) → most (λ s. statement_size s + 1) ss ≤ more_statements_size (more_statements_of ss) + 1
most_statements [] = omega arith
most_statements (s ∷ ss) = omega (arith, most_statements ss)

most_arms : (others : List Arm) → most (λ a. arm_size a + 1) others ≤ more_arms_size (more_arms_of others) + 1
most_arms [] = omega arith
most_arms (a ∷ others) = omega (arith, most_arms others)

form_falls : (line : ℕ) (s : StatementForm) → max (deep-StatementForm s) 0 ≤ statement_size (statement_of line s)
form_falls line form.Empty = omega arith
form_falls line (form.Assignment d f) = omega arith
form_falls line (form.Call x arguments) = omega arith
form_falls line (form.New d) = omega arith
form_falls line (form.Block b) = omega arith
form_falls line (form.If f s None) = omega arith
form_falls line (form.If f s (Some other)) = omega arith
form_falls line (form.Case f first more) = omega (arith, most_arms more.value.items)
form_falls line (form.Loop invariant l) = omega arith
form_falls line (form.Assert f) = omega arith

pub statement_falls : (a : statement.Inside) → deep-Statement a ≤ statement_size (statement_of a.line a.form)
statement_falls a = form_falls a.line a.form

pub block_falls : (a : block.Inside) → deep-Block a ≤ suc (statement_size a.first.value + more_statements_size (more_statements_of a.more.items))
block_falls a = omega (arith, most_statements a.more.items)

arm_form_falls : (line : ℕ) (a : Option (Several Constant × Box Statement Global)) → deep-Arm (record { line = line; form = a }) ≤ arm_size (arm_of line a)
arm_form_falls line None = omega arith
arm_form_falls line (Some a) = omega arith

pub arm_falls : (a : arm.Inside) → deep-Arm a ≤ arm_size (arm_of a.line a.form)
arm_falls a = arm_form_falls a.line a.form

loop_form_falls : (line : ℕ) (l : LoopForm) → max (deep-LoopForm l) 0 ≤ loop_size (loop_of line l)
loop_form_falls line (While f s) = omega arith
loop_form_falls line (Repeat first more f) = omega (arith, most_statements more.items)
loop_form_falls line (For x from direction to s) = omega arith

pub loop_falls : (a : looped.Inside) → deep-Loop a ≤ loop_size (loop_of a.line a.form)
loop_falls a = loop_form_falls a.line a.form
