-- What the code's statements are as plain data.
use Rattle.std.specs.Prelude.{List, [], ◌∷◌, option_map}
use Rattle.spv_program.specs.declared.typed.statements.StatementForm.{StatementForm}
use Rattle.spv_program.specs.declared.typed.statements.StatementForm.TheVariants as form
use Rattle.spv_program.specs.declared.typed.statements.Arm.{Arm}
use Rattle.spv_program.specs.declared.typed.statements.Counting.{Counting as CountingText}
use Rattle.spv_program.specs.typed.FormulaViews.{annotation_of}
use Rattle.spv_program.specs.Statements.{Counting, Statement, Arms, Empty, Assign, Perform, New, Sequence, If, Case, While, Repeat, For, Assert, no_arms, arm}

abbrev pub counting_of : CountingText → Counting
counting_of c = record { variable = c.variable; direction = c.direction; first = c.first; last = c.last }

-- a block is a chain
abbrev pub block_of : List Statement → Statement
block_of [] = Empty
block_of (s ∷ others) = Sequence s (block_of others)

abbrev pub arms_of : List Arm → Arms
arms_of [] = no_arms
arms_of (a ∷ others) = arm a.labels a.body.value (arms_of others)

abbrev pub statement_of : StatementForm → Statement
statement_of (form.Assign d e) = Assign d.value e.value
statement_of (form.Perform c) = Perform c
statement_of (form.New line d t) = New line d.value t
statement_of (form.Block statements) = block_of statements.items
statement_of (form.If line e a b) = If line e.value a.value b.value
statement_of (form.Case line e arms) = Case line e.value (arms_of arms.value.items)
statement_of (form.While line f e s) = While line (option_map annotation_of f.value) e.value s.value
statement_of (form.Repeat line f s e) = Repeat line (option_map annotation_of f.value) s.value e.value
statement_of (form.For line f count s) = For line (option_map annotation_of f.value) (counting_of count.value) s.value
statement_of (form.Assert a) = Assert (annotation_of a.value)
