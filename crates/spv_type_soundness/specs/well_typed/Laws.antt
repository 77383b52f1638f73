-- What is proved of the walk over names and types.
use Rattle.std.specs.Prelude.{◌≡◌, Some, IsTrue, Ok}
use Rattle.std.specs.List.{list_all}
use Rattle.spv_logic.specs.declared.names.names.Symbol.{Symbol}
use Rattle.spv_logic.specs.declared.types.TypeId.{TypeId}
use Rattle.spv_logic.specs.declared.types.Sort.{Sort}
use Rattle.spv_logic.specs.declared.types.Decl.{Decl}
use Rattle.spv_logic.specs.Shapes.{shapes_ok}
use Rattle.spv_logic.specs.Sorts.{sort_in_range, declared}
use Rattle.spv_tree.specs.syntax.Formulas as tree
use Rattle.spv_program.specs.Types.{sort_of, type_exists}
use Rattle.spv_program.specs.Lists.{found}
use Rattle.spv_program.specs.Formulas.{Annotation}
use Rattle.spv_program.specs.FormulaTypes.{annotation_ok}
use Rattle.spv_program.specs.Scopes as program
use Rattle.spv_program.specs.Programs.{shapes}
use Rattle.spv_typing.specs.Known.{OfType, OfPlace, OfStart, OfSymbol, Scope, meaning}
use Rattle.spv_typing.specs.FormulaWalk.{annotation}

-- the names of a scope are those that typing gives an annotation, with their sorts, and all types that they name are there
pub record SeesAlike (s : Scope) (names : program.Scope) : Type 0 where
  pub places : (x : Symbol) (t : TypeId) → meaning s x ≡ Some (OfPlace t) → found names x ≡ Some (sort_of s.known.program.forms t)
  pub place_types : (x : Symbol) (t : TypeId) → meaning s x ≡ Some (OfPlace t) → IsTrue (type_exists s.known.program.forms t)
  pub starts : (x : Symbol) (r : Sort) → meaning s x ≡ Some (OfStart r) → found names x ≡ Some r
  pub start_sorts : (x : Symbol) (r : Sort) → meaning s x ≡ Some (OfStart r) → IsTrue (sort_in_range (shapes s.known.program) r)
  pub types : (x : Symbol) (t : TypeId) → meaning s x ≡ Some (OfType t) → IsTrue (type_exists s.known.program.forms t)
  pub symbols : (x : Symbol) (d : Decl) → meaning s x ≡ Some (OfSymbol d) → declared s.known.program.symbols d.name.0 ≡ Some d
  pub symbol_arguments : (x : Symbol) (d : Decl) → meaning s x ≡ Some (OfSymbol d) → IsTrue (list_all (sort_in_range (shapes s.known.program)) d.args)
  pub symbol_sorts : (x : Symbol) (d : Decl) → meaning s x ≡ Some (OfSymbol d) → IsTrue (sort_in_range (shapes s.known.program) d.result)
  pub shapes_right : IsTrue (shapes_ok (shapes s.known.program))

-- an annotation that the walk answers is well typed
abbrev pub AnnotationsAreWellTyped : Type 0
AnnotationsAreWellTyped =
    (s : Scope) (names : program.Scope) → SeesAlike s names → (f : tree.Formula) (a : Annotation) → annotation s f ≡ Ok a
    → IsTrue (annotation_ok s.known.program names (Some a))
