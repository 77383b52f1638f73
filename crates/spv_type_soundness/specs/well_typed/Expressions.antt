-- What a scope has to tell of a program, so that the expressions that are read in it are well typed there.
use Rattle.std.specs.Prelude.{◌≡◌, true, false, Option, Some, IsTrue, Ok}
use Rattle.std.specs.List.{list_all}
use Rattle.spv_logic.specs.declared.names.names.Symbol.{Symbol}
use Rattle.spv_logic.specs.declared.types.TypeId.{TypeId}
use Rattle.spv_logic.specs.declared.types.Sort.{Sort}
use Rattle.spv_logic.specs.Sorts.{sort_in_range}
use Rattle.spv_tree.specs.syntax.Formulas as tree
use Rattle.spv_program.specs.declared.types.TypeForm.TheVariants.{Integer}
use Rattle.spv_program.specs.Types.{form_at, type_exists, forms_ok, may_be_result}
use Rattle.spv_program.specs.Expressions.{Expression, Designator}
use Rattle.spv_program.specs.ExpressionTypes.{expression_sort, designator_type, may_write}
use Rattle.spv_program.specs.Programs.{Formal, Routine, Program, routine_at, shapes}
use Rattle.spv_program.specs.Scopes.{name_type, is_result, is_initial}
use Rattle.spv_typing.specs.Known.{OfPlace, OfRoutine, Heading, Scope, meaning}
use Rattle.spv_typing.specs.ExpressionWalk.{Reached, expression_of, written, designator_at, is_this}

-- a heading is that of a routine of the program
pub record IsHeadingOf (p : Program) (h : Heading) : Type 0 where
  pub routine : Routine
  pub at : routine_at p h.number ≡ Some routine
  pub formals : routine.formals ≡ h.formals
  pub result : routine.result ≡ h.result

-- the variables, parameters and routines of a scope are those that the program has in this routine; the program's types are
-- those of the scope
pub record Belongs (s : Scope) (p : Program) (here : Option Routine) : Type 0 where
  pub forms : p.forms ≡ s.known.program.forms
  pub forms_right : IsTrue (forms_ok p.forms)
  pub first : form_at p.forms 0 ≡ Integer
  pub first_there : IsTrue (type_exists p.forms (record { 0 = 0 }))
  pub places : (x : Symbol) (t : TypeId) → meaning s x ≡ Some (OfPlace t) → name_type p here x ≡ Some t
  pub place_types : (x : Symbol) (t : TypeId) → meaning s x ≡ Some (OfPlace t) → IsTrue (type_exists p.forms t)
  pub no_results : (x : Symbol) (t : TypeId) → meaning s x ≡ Some (OfPlace t) → is_result here x ≡ false
  pub no_starts : (x : Symbol) (t : TypeId) → meaning s x ≡ Some (OfPlace t) → is_initial here x ≡ false
  pub routines : (x : Symbol) (h : Heading) → meaning s x ≡ Some (OfRoutine h) → IsHeadingOf p h
  pub results : (x : Symbol) (h : Heading) (t : TypeId) → meaning s x ≡ Some (OfRoutine h) → h.result ≡ Some t → IsTrue (type_exists p.forms t)
  pub plain_results : (x : Symbol) (h : Heading) (t : TypeId) → meaning s x ≡ Some (OfRoutine h) → h.result ≡ Some t
      → IsTrue (may_be_result (form_at p.forms t.0))
  pub own_result : (x : Symbol) (h : Heading) (t : TypeId) → meaning s x ≡ Some (OfRoutine h) → is_this s.routine h ≡ true → h.result ≡ Some t
      → name_type p here x ≡ Some t
  pub own_result_no_start : (x : Symbol) (h : Heading) → meaning s x ≡ Some (OfRoutine h) → is_this s.routine h ≡ true → is_initial here x ≡ false
  pub parameters : (x : Symbol) (h : Heading) → meaning s x ≡ Some (OfRoutine h)
      → IsTrue (list_all (λ (f : Formal). type_exists p.forms f.of) h.formals)

-- an expression that the walk answers for a wanted sort has that sort
abbrev pub ExpressionsAreWellTyped : Type 0
ExpressionsAreWellTyped =
    (s : Scope) (p : Program) (here : Option Routine) → Belongs s p here → (wanted : Sort) → IsTrue (sort_in_range (shapes p) wanted)
    → (f : tree.Formula) (e : Expression) → expression_of s wanted f ≡ Ok e → expression_sort p here e ≡ Some wanted

-- a place that the walk answers may be written, and has the type that was found
abbrev pub PlacesAreWellTyped : Type 0
PlacesAreWellTyped =
    (s : Scope) (p : Program) (here : Option Routine) → Belongs s p here → (d : tree.Designator) (r : Reached) → written s d ≡ Ok r
    → (place : Designator) → designator_at r ≡ Some place → (designator_type p here place ≡ Some r.type) × (may_write here place ≡ true)
