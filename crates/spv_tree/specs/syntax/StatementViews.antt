-- What the code's statements are as plain data.
use Rattle.std.specs.Prelude.{ℕ, Option, Some, None}
use Rattle.std.specs.declared.boxed.Box.{Box}
use Rattle.std.specs.Global.{Global}
use Rattle.spv_tree.specs.declared.syntax.lists.Several.{Several}
use Rattle.spv_tree.specs.declared.syntax.names.Constant.{Constant}
use Rattle.spv_tree.specs.declared.syntax.statements.StatementForm.{StatementForm}
use Rattle.spv_tree.specs.declared.syntax.statements.StatementForm.TheVariants as form
use Rattle.spv_tree.specs.declared.syntax.statements.LoopForm.{LoopForm}
use Rattle.spv_tree.specs.declared.syntax.statements.LoopForm.TheVariants.{While, Repeat, For}
use Rattle.spv_tree.specs.syntax.Formulas.{Formula}
use Rattle.spv_tree.specs.syntax.Statements.{Statement, empty, assignment, call, creation, compound, conditional, selection, repetition, assertion, Otherwise, nothing_otherwise, otherwise, Arm, no_arm, arm, Loop, while_loop, repeat_loop, for_loop}
use Rattle.spv_tree.specs.syntax.Model.StatementSizes.{more_statements_of, more_arms_of}

abbrev pub otherwise_of : Option (Box Statement Global) → Otherwise
otherwise_of None = nothing_otherwise
otherwise_of (Some s) = otherwise s.value

abbrev pub given_of : Option (Box (Several Formula) Global) → Option (Several Formula)
given_of None = None
given_of (Some a) = Some a.value

abbrev pub statement_of : ℕ → StatementForm → Statement
statement_of line form.Empty = empty line
statement_of line (form.Assignment d f) = assignment line d.value f
statement_of line (form.Call x arguments) = call line x (given_of arguments)
statement_of line (form.New d) = creation line d.value
statement_of line (form.Block b) = compound line b.value
statement_of line (form.If f s other) = conditional line f s.value (otherwise_of other)
statement_of line (form.Case f first more) = selection line f first.value (more_arms_of more.value.items)
statement_of line (form.Loop invariant l) = repetition line invariant l.value
statement_of line (form.Assert f) = assertion line f

abbrev pub arm_of : ℕ → Option (Several Constant × Box Statement Global) → Arm
arm_of line None = no_arm line
arm_of line (Some a) = arm line a.0 a.1.value

abbrev pub loop_of : ℕ → LoopForm → Loop
loop_of line (While f s) = while_loop line f s.value
loop_of line (Repeat first more f) = repeat_loop line first.value (more_statements_of more.items) f
loop_of line (For x from direction to s) = for_loop line x from direction to s.value
