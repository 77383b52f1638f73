-- Applications, by what is called and its arguments as they were read.
use Rattle.std.specs.Prelude.{ℕ, List, [], ◌∷◌, length, Option, Some, None, Result, Ok, Err, nat_eq, if◌then◌else◌}
use Rattle.spv_logic.specs.declared.types.Decl.{Decl}
use Rattle.spv_tree.specs.declared.syntax.names.Name.{Name}
use Rattle.spv_program.specs.Formulas.{Formula, Applied, Known as KnownApplied}
use Rattle.spv_typing.specs.declared.faults.TypeFault.{TypeFault}
use Rattle.spv_typing.specs.declared.faults.TypeFault.TheVariants.{Count}
use Rattle.spv_typing.specs.Outcomes.{Outcome, after, where_so, wrong, undeclared}
use Rattle.spv_typing.specs.Known.{Scope, Function}
use Rattle.spv_typing.specs.OperatorWalk.{Operand}
use Rattle.spv_typing.specs.FormulaWalk.{Sorted, with_sort, arity, signature_of, settled_all, operator_of, put_with}
use Rattle.spv_environments.specs.declared.functions.Function.{Function as FunctionText}
use Rattle.spv_environments.specs.declared.functions.Function.TheVariants as function
use Rattle.spv_environments.specs.declared.scopes.Meaning.{Meaning}
use Rattle.spv_environments.specs.declared.scopes.Meaning.TheVariants as meaning
use Rattle.spv_environments.specs.Views.{function_of}
use Rattle.spv_environments.specs.Symbols.{decl_of}
use Rattle.spv_formula_typing.specs.declared.forms.Way.{Way}
use Rattle.spv_formula_typing.specs.declared.forms.Way.TheVariants as way
use Rattle.spv_formula_typing.specs.Arguments.{Given, AsValue, AsPlace, NoPlace, AsField}
use Rattle.spv_annotation_typing.specs.declared.callee.Callee.{Callee}
use Rattle.spv_annotation_typing.specs.declared.callee.Callee.TheVariants as callee

-- ---- what is called

abbrev pub function_callee : FunctionText → Callee
function_callee function.Put = callee.Put
function_callee b = callee.Known b

abbrev pub meaning_callee : Name → Option Meaning → Result Callee TypeFault
meaning_callee x None = Err (undeclared x)
meaning_callee x (Some (meaning.Declared name signature)) = Ok (callee.Declared name signature)
meaning_callee x (Some (meaning.Routine name heading)) = Ok (callee.Routine (length heading.now.formals))
meaning_callee x (Some other) = Ok callee.Other

-- ---- how arguments are read

-- PUT has the name of a field in the middle
abbrev pub put_way : ℕ → Way
put_way n = if nat_eq n 1 then way.Field else way.Value

abbrev pub way_in : Callee → ℕ → Way
way_in (callee.Put) n = put_way n
way_in (callee.Known b) n = way.Value
way_in (callee.Declared x s) n = way.Value
way_in (callee.Routine count) n = way.Value
way_in callee.Other n = way.Value

-- the parts of PUT, each with its line, where each is what it has to be
abbrev pub put_parts : Scope → ℕ → ℕ → ℕ → ℕ → Option (Operand Formula) → Option (Option Name) → Option (Operand Formula) → Outcome Sorted
put_parts s line on at behind r None v = Err (Count line)
put_parts s line on at behind None (Some x) v = Err (Count line)
put_parts s line on at behind (Some r) (Some x) None = Err (Count line)
put_parts s line on at behind (Some r) (Some x) (Some v) = put_with s at x (on, r) (behind, v)

module _ {S : Type 0} where
  -- the arguments that are values
  abbrev pub values : List (ℕ × Given Formula S) → List (ℕ × Operand Formula)
  values [] = []
  values ((line, AsValue o) ∷ gs) = (line, o) ∷ values gs
  values ((line, AsPlace s) ∷ gs) = values gs
  values ((line, NoPlace) ∷ gs) = values gs
  values ((line, AsField x) ∷ gs) = values gs

  -- ---- PUT

  abbrev pub value_in : Given Formula S → Option (Operand Formula)
  value_in (AsValue o) = Some o
  value_in (AsPlace p) = None
  value_in NoPlace = None
  value_in (AsField x) = None

  abbrev pub field_in : Given Formula S → Option (Option Name)
  field_in (AsValue o) = None
  field_in (AsPlace p) = None
  field_in NoPlace = None
  field_in (AsField x) = Some x

  abbrev pub put_three : Scope → ℕ → ℕ × Given Formula S → ℕ × Given Formula S → ℕ × Given Formula S → Outcome Sorted
  put_three s line r f v = put_parts s line r.0 f.0 v.0 (value_in r.1) (field_in f.1) (value_in v.1)

  abbrev pub put_given : Scope → ℕ → List (ℕ × Given Formula S) → Outcome Sorted
  put_given s line (r ∷ f ∷ v ∷ []) = put_three s line r f v
  put_given s line gs = Err (Count line)

-- ---- other functions and symbols

abbrev pub known_on : Scope → ℕ → Function → List (ℕ × Operand Formula) → Outcome Sorted
known_on s line b os =
    where_so (nat_eq (length os) (arity b)) (Count line)
    (after (signature_of s b os) (λ sign.
    after (settled_all sign.wanted os) (λ fs. Ok (with_sort (KnownApplied (operator_of b) fs) sign.result))))

abbrev pub symbol_on : ℕ → Decl → List (ℕ × Operand Formula) → Outcome Sorted
symbol_on line d os =
    where_so (nat_eq (length os) (length d.args)) (Count line)
    (after (settled_all d.args os) (λ fs. Ok (with_sort (Applied d.name fs) d.result)))

abbrev pub routine_fault : ℕ → ℕ → List (ℕ × Operand Formula) → TypeFault
routine_fault line count os = if nat_eq (length os) count then wrong line else Count line

abbrev pub applied_to : {S : Type 0} → Scope → ℕ → Callee → List (ℕ × Given Formula S) → Outcome Sorted
applied_to s line callee.Put gs = put_given s line gs
applied_to s line (callee.Known b) gs = known_on s line (function_of b) (values gs)
applied_to s line (callee.Declared x signature) gs = symbol_on line (decl_of x signature.now) (values gs)
applied_to s line (callee.Routine count) gs = Err (routine_fault line count (values gs))
applied_to s line callee.Other gs = Err (wrong line)
