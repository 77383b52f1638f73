-- Formulas of annotations and rules, with each name resolved.
use Rattle.std.specs.Prelude.{ℕ, Bool, ℤ}
use Rattle.spv_logic.specs.declared.names.names.Symbol.{Symbol}
use Rattle.spv_logic.specs.declared.types.TypeId.{TypeId}
use Rattle.spv_program.specs.declared.operators.Arithmetic.{Arithmetic}
use Rattle.spv_program.specs.declared.operators.BuiltIn.{BuiltIn}
use Rattle.spv_program.specs.declared.operators.Comparison.{Comparison}
use Rattle.spv_program.specs.declared.operators.Connective.{Connective}

mutual
  pub data Formula : Type 0 where
    -- a numeral with its sign, or a constant
    Numeral : ℤ → Formula
    Boolean : Bool → Formula
    -- NIL, as a pointer to cells of this type
    NilOf : TypeId → Formula
    -- a name and its line: a variable, an INITIAL name, or in its own routine a function
    Named : ℕ → Symbol → Formula
    -- `#T` and its line
    ClassOf : ℕ → TypeId → Formula
    -- `a[i]`
    Element : Formula → Formula → Formula
    -- `r.f`
    FieldOf : Formula → Symbol → Formula
    -- `p^`, the line of `^`, and the type of the cells
    Content : ℕ → TypeId → Formula → Formula
    -- a declared symbol and its arguments
    Applied : Symbol → Formulas → Formula
    Known : BuiltIn → Formulas → Formula
    -- a sign `-` that does not belong to a numeral
    Negative : Formula → Formula
    Calculated : Arithmetic → Formula → Formula → Formula
    Compared : Comparison → Formula → Formula → Formula
    Negated : Formula → Formula
    Joined : Connective → Formula → Formula → Formula
    -- `a -> b`
    Implied : Formula → Formula → Formula

  pub data Formulas : Type 0 where
    no_formulas : Formulas
    formulas : Formula → Formulas → Formulas

-- an annotation: its formula, and the line of the formula's first token
pub record Annotation : Type 0 where
  pub formula : Formula
  pub line : ℕ
