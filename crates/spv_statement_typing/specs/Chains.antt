-- Statements one after the other, and arms.
use Rattle.std.specs.Prelude.{ℕ, ℤ, List, [], ◌∷◌, Option, Ok}
use Rattle.spv_program.specs.Statements.{Counting, Statement, Arms, Sequence, While, Repeat, For, no_arms, arm}
use Rattle.spv_program.specs.Formulas.{Annotation}
use Rattle.spv_tree.specs.syntax.Formulas.{Formula}
use Rattle.spv_tree.specs.syntax.Statements as tree
use Rattle.spv_tree.specs.syntax.Model.StatementSizes.{more_statements_of, more_arms_of}
use Rattle.spv_program.specs.declared.typed.statements.Arm.{Arm}
use Rattle.spv_typing.specs.Outcomes.{Outcome, after}
use Rattle.spv_typing.specs.StatementWalk.{Setting, ArmsSoFar, inside_for, test_of, statement_walk, more_statements_walk, arm_walk, more_arms_walk}

-- a statement, and those behind it
abbrev pub chain_walk : Setting → tree.Statement → List tree.Statement → Outcome Statement
chain_walk at first more =
    after (statement_walk at first) (λ a. after (more_statements_walk at (more_statements_of more)) (λ b. Ok (Sequence a b)))

-- arms in front of others
abbrev pub in_front : List Arm → Arms → Arms
in_front [] others = others
in_front (a ∷ made) others = arm a.labels a.body.value (in_front made others)

abbrev pub so_far : List ℤ → List Arm → ArmsSoFar
so_far labels made = record { labels = labels; arms = in_front made }

-- all arms of a CASE
abbrev pub arms_walk : Setting → tree.Arm → List tree.Arm → Outcome Arms
arms_walk at first more =
    after (arm_walk at (so_far [] []) first) (λ one. after (more_arms_walk at one (more_arms_of more)) (λ all. Ok (all.arms no_arms)))

-- ---- loops

abbrev pub while_walk : Setting → ℕ → Option Annotation → Formula → tree.Statement → Outcome Statement
while_walk at line f test body = after (test_of at line test) (λ e. after (statement_walk at body) (λ a. Ok (While line f e a)))

abbrev pub repeat_walk : Setting → ℕ → Option Annotation → tree.Statement → List tree.Statement → Formula → Outcome Statement
repeat_walk at line f first more test = after (chain_walk at first more) (λ s. after (test_of at line test) (λ e. Ok (Repeat line f s e)))

-- a FOR whose head is there
abbrev pub for_walk : Setting → ℕ → Option Annotation → Counting → tree.Statement → Outcome Statement
for_walk at line f head body = after (statement_walk (inside_for at head.variable) body) (λ a. Ok (For line f head a))
