-- Statements; the number in front is the line of a statement's first token, where no part of it has that.
use Rattle.std.specs.Prelude.{ℕ, List, Option, ℤ}
use Rattle.spv_logic.specs.declared.names.names.Symbol.{Symbol}
use Rattle.spv_logic.specs.declared.types.TypeId.{TypeId}
use Rattle.spv_program.specs.declared.operators.Direction.{Direction}
use Rattle.spv_program.specs.Expressions.{Expression, Designator, Call}
use Rattle.spv_program.specs.Formulas.{Annotation}

-- `FOR variable := first TO last`, or DOWNTO
pub record Counting : Type 0 where
  pub variable : Symbol
  pub direction : Direction
  pub first : Expression
  pub last : Expression

mutual
  pub data Statement : Type 0 where
    Empty : Statement
    Assign : Designator → Expression → Statement
    -- a procedure's call
    Perform : Call → Statement
    -- NEW of a pointer to cells of this type
    New : ℕ → Designator → TypeId → Statement
    -- one statement after the other; a block is a chain of them
    Sequence : Statement → Statement → Statement
    -- without ELSE the second statement is empty
    If : ℕ → Expression → Statement → Statement → Statement
    Case : ℕ → Expression → Arms → Statement
    While : ℕ → Option Annotation → Expression → Statement → Statement
    Repeat : ℕ → Option Annotation → Statement → Expression → Statement
    For : ℕ → Option Annotation → Counting → Statement → Statement
    Assert : Annotation → Statement

  -- the arms of a CASE that have labels
  pub data Arms : Type 0 where
    no_arms : Arms
    arm : List ℤ → Statement → Arms → Arms
