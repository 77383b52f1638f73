-- Parts of statements, as functions compute them.
use Rattle.std.specs.Prelude.{ℕ, Option, None}
use Rattle.spv_logic.specs.declared.types.TypeId.{TypeId}
use Rattle.spv_logic.specs.declared.types.Sort.{Sort}
use Rattle.spv_logic.specs.declared.types.Sort.TheVariants as sort
use Rattle.spv_logic.specs.declared.names.names.Symbol.{Symbol}
use Rattle.spv_program.specs.declared.operators.Direction.{Direction}
use Rattle.spv_program.specs.Expressions.{Expression, Designator, NilOf}
use Rattle.spv_program.specs.Statements.{Counting, Statement, Assign, New, If, For, Empty}
use Rattle.spv_tree.specs.declared.syntax.names.Name.{Name}
use Rattle.spv_tree.specs.syntax.Formulas as formulas
use Rattle.spv_typing.specs.Outcomes.{Outcome, after, wrong}
use Rattle.spv_typing.specs.Known.{meaning}
use Rattle.spv_typing.specs.OperatorWalk.{Operand, settled}
use Rattle.spv_typing.specs.ExpressionWalk.{Reached, designator_at, expression_of}
use Rattle.spv_typing.specs.StatementWalk.{Setting, counting_kept, unless_counted, counted_as, counter_of, own_in, with_place}
use Rattle.spv_program.specs.Uses.{name_root}

-- an assignment whose sides are there
abbrev pub assigned_to : Setting → ℕ → Option Designator → Expression → Outcome Statement
assigned_to at line place e = with_place line place (λ d. counting_kept at line (Assign d e) (Assign d e))

-- NEW of a place that leads to cells of a type
abbrev pub created_at : Setting → ℕ → Reached → TypeId → Outcome Statement
created_at at line r t = with_place line (designator_at r) (λ d. counting_kept at line (New line d t) (New line d t))

-- a test, or what a CASE is about
abbrev pub tested : Setting → ℕ → Sort → formulas.Formula → Outcome Expression
tested at line wanted f = after (expression_of at.inside wanted f) (λ e. counting_kept at line (If line e Empty Empty) e)

-- ---- the head of a FOR

abbrev pub head_of : Symbol → Direction → Expression → Expression → Counting
head_of x d first last = record { variable = x; direction = d; first = first; last = last }

-- its variable does not count yet
abbrev pub uncounted : Setting → ℕ → Name → Outcome Name
uncounted at line w = unless_counted line (counted_as (own_in at.inside) at.counted (name_root (own_in at.inside) w.symbol)) w

-- when its ends have their sort
abbrev pub head_kept : Setting → ℕ → Name → Direction → Expression → Expression → Outcome Counting
head_kept at line w d first last =
    after (uncounted at line w) (λ u.
    counting_kept at line (For line None (head_of u.symbol d first last) Empty) (head_of u.symbol d first last))

-- when its ends are read
abbrev pub head_settled : Setting → ℕ → Name → Direction → ℕ → Operand Expression → ℕ → Operand Expression → Outcome Counting
head_settled at line x d on a under b =
    after (counter_of at.inside x (meaning at.inside x.symbol)) (λ w.
    after (settled NilOf (wrong on) sort.Int a) (λ first.
    after (settled NilOf (wrong under) sort.Int b) (λ last. head_kept at line w d first last)))
