-- A program that has more than another one, in which an expression or a formula was found to be well typed.
use Rattle.std.specs.Prelude.{◌≡◌, List, ◌++◌, Option, Some, IsTrue}
use Rattle.std.specs.List.{list_all}
use Rattle.spv_logic.specs.declared.names.names.Symbol.{Symbol}
use Rattle.spv_logic.specs.declared.types.TypeId.{TypeId}
use Rattle.spv_logic.specs.declared.conditions.RoutineId.{RoutineId}
use Rattle.spv_program.specs.declared.types.TypeForm.{TypeForm}
use Rattle.spv_program.specs.declared.types.TypeForm.TheVariants.{Integer}
use Rattle.spv_program.specs.Types.{form_at, type_exists, forms_ok}
use Rattle.spv_program.specs.Programs.{Formal, Routine, Program, routine_at}
use Rattle.spv_program.specs.Scopes.{name_type}

-- the one has the types of the other and perhaps more behind them, and the same symbols
pub record GrowsTypes (q p : Program) : Type 0 where
  pub more : List TypeForm
  pub forms : p.forms ≡ q.forms ++ more
  pub forms_right : IsTrue (forms_ok q.forms)
  pub first : form_at q.forms 0 ≡ Integer
  pub symbols : p.symbols ≡ q.symbols

-- it also has the same variables, and the functions of the other are its functions; what those of the other name is there
pub record Grows (q p : Program) (here : Option Routine) : Type 0 where
  pub types : GrowsTypes q p
  pub variables : p.variables ≡ q.variables
  pub names : (x : Symbol) (t : TypeId) → name_type q here x ≡ Some t → IsTrue (type_exists q.forms t)
  pub routines : (r : RoutineId) (c : Routine) (t : TypeId) → routine_at q r ≡ Some c → c.result ≡ Some t → routine_at p r ≡ Some c
  pub results : (r : RoutineId) (c : Routine) (t : TypeId) → routine_at q r ≡ Some c → c.result ≡ Some t → IsTrue (type_exists q.forms t)
  pub parameters : (r : RoutineId) (c : Routine) (t : TypeId) → routine_at q r ≡ Some c → c.result ≡ Some t
      → IsTrue (list_all (λ (f : Formal). type_exists q.forms f.of) c.formals)
