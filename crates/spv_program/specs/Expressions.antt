-- Expressions of a program's own text, with each name resolved: a constant is its number, and the types that
-- selectors work on are told.
use Rattle.std.specs.Prelude.{ℕ, Bool, ℤ}
use Rattle.spv_logic.specs.declared.names.names.Symbol.{Symbol}
use Rattle.spv_logic.specs.declared.types.TypeId.{TypeId}
use Rattle.spv_logic.specs.declared.conditions.RoutineId.{RoutineId}
use Rattle.spv_program.specs.declared.operators.Arithmetic.{Arithmetic}
use Rattle.spv_program.specs.declared.operators.Comparison.{Comparison}
use Rattle.spv_program.specs.declared.operators.Connective.{Connective}

mutual
  pub data Expression : Type 0 where
    -- a numeral with its sign, or a constant
    Numeral : ℤ → Expression
    Boolean : Bool → Expression
    -- NIL, as a pointer to cells of this type
    NilOf : TypeId → Expression
    -- what a place holds
    Read : Designator → Expression
    -- a function's result
    Result : Call → Expression
    -- a function's result, followed by `^` (its line, the type of the cells) and further selectors
    Through : Call → ℕ → TypeId → Selectors → Expression
    -- a sign `-` that does not belong to a numeral
    Negative : Expression → Expression
    Calculated : Arithmetic → Expression → Expression → Expression
    Compared : Comparison → Expression → Expression → Expression
    Negated : Expression → Expression
    Joined : Connective → Expression → Expression → Expression

  -- a name with selectors, and the line of the name
  pub data Designator : Type 0 where
    designator : ℕ → Symbol → Selectors → Designator

  pub data Selectors : Type 0 where
    no_selectors : Selectors
    -- `[e]`, behind an array of this type
    at_index : TypeId → Expression → Selectors → Selectors
    -- `.f`, behind a record of this type
    at_field : TypeId → Symbol → Selectors → Selectors
    -- `^` on this line, behind a pointer to cells of this type
    at_cell : ℕ → TypeId → Selectors → Selectors

  -- the called routine, the line of its name, and the arguments
  pub data Call : Type 0 where
    call : RoutineId → ℕ → Arguments → Call

  pub data Arguments : Type 0 where
    no_arguments : Arguments
    -- for a value parameter
    by_value : Expression → Arguments → Arguments
    -- for a VAR parameter
    by_place : Designator → Arguments → Arguments
